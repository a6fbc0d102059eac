-- `record::place::Record::new` meets its contract: its numbers one by one are the list's. Assumes nothing.
use Rattle.record.proofs.NumberLaws.{laws}
use Rattle.std.proofs.Common.{rules}
use Rattle.record.proofs.place.Record.new.Goals as goal

pub returns : goal.returns
returns c = search (rules, laws)
