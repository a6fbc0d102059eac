-- Each way out is the definition at its tests. Assumes nothing.
use Rattle.std.proofs.Common.{rules, arith}
use Rattle.std.proofs.lemmas.Grind.{common_steps}
use Rattle.fields.proofs.FieldLaws.{laws, place_far, place_long}
use Rattle.fields.proofs.field.place_in.Goals as goal

pub returns-then-range-s : goal.returns-then-range-s
returns-then-range-s c = grind (arith, common_steps, place_far c.args.s.now c.args.range, place_long c.args.s.now c.args.range)

pub returns : goal.returns
returns c = search (rules, laws)
