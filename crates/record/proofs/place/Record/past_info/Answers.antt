-- `record::place::Record::past_info` meets its contract: a tab is passed where there is a FORMAT. Assumes nothing.
use Rattle.record.proofs.SpanLaws.{laws}
use Rattle.std.proofs.Common.{rules}
use Rattle.record.proofs.place.Record.past_info.Goals as goal

pub returns-then-self : goal.returns-then-self
returns-then-self c = search (rules, laws)

pub returns : goal.returns
returns c = search (rules, laws)
