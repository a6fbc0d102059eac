-- `line::extent::line_at` meets its contract: one law for each way that the line ends. Assumes nothing.
use Rattle.line.proofs.ExtentLaws.{stop_inside, laws}
use Rattle.std.proofs.Common.{arith, rules}
use Rattle.line.proofs.extent.line_at.Goals as goal

pub returns-then-at-s : goal.returns-then-at-s
returns-then-at-s c = search (rules, laws)

pub text_end-end-requires : goal.text_end-end-requires
text_end-end-requires c = search (rules, laws)

pub returns-then-stop-s : goal.returns-then-stop-s
returns-then-stop-s c = search (rules, laws)

pub overflow_add-next : goal.overflow_add-next
overflow_add-next c = omega (arith, stop_inside _ _ c.if-at-s.false c.find_either-stop.ensures c.if-stop-s.false)

pub returns : goal.returns
returns c = search (rules, laws)
