-- `record::place::Record::numbers` meets its contract: these are the record's numbers. Assumes nothing.
use Rattle.record.proofs.NumberLaws.{laws}
use Rattle.std.proofs.Common.{rules}
use Rattle.record.proofs.place.Record.numbers.Goals as goal

pub returns : goal.returns
returns c = search (rules, laws)
