-- A text that is a `.` has one byte, so the length, the start and that byte tell. Assumes nothing.
use Rattle.std.proofs.Common.{arith}
use Rattle.std.proofs.lemmas.Grind.{common_steps}
use Rattle.fields.proofs.FieldLaws.{dot_not_one, dot_past, dot_at}
use Rattle.fields.proofs.field.is_dot.Goals as goal

pub returns-then-range-s : goal.returns-then-range-s
returns-then-range-s c = grind (arith, common_steps, dot_at c.args.s.now c.args.range)

pub returns-else-range-s : goal.returns-else-range-s
returns-else-range-s c = grind (arith, common_steps, dot_not_one c.args.s.now c.args.range, dot_past c.args.s.now c.args.range)
