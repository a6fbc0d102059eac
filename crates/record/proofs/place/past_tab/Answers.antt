-- `record::place::past_tab` meets its contract: an end before a tab lies before what starts past it. Assumes nothing.
use Rattle.record.proofs.SpanLaws.{laws}
use Rattle.std.proofs.Common.{rules}
use Rattle.record.proofs.place.past_tab.Goals as goal

pub returns-then-end-before : goal.returns-then-end-before
returns-then-end-before c = search (rules, laws)
