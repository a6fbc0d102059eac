-- `record::place::span_of` meets its contract: the definition at its test. Assumes nothing.
use Rattle.record.proofs.SpanLaws.{laws}
use Rattle.std.proofs.Common.{rules}
use Rattle.record.proofs.place.span_of.Goals as goal

pub returns-then-end-start : goal.returns-then-end-start
returns-then-end-start c = search (rules, laws)

pub returns : goal.returns
returns c = search (rules, laws)
