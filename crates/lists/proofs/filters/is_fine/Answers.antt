-- `lists::filters::is_fine` meets its contract: the tests are those of the definition, in its order. Assumes nothing.
use mathlib.Core.Path.{refl}
use mathlib.Core.List.{[], ◌∷◌}
use Rattle.std.proofs.Common.{arith}
use Rattle.std.proofs.lemmas.Grind.{common_steps}
use Rattle.text.proofs.ByteLaws.{empty_is}
use Rattle.text.proofs.SameLaws.{told_pairs}
use Rattle.pieces.proofs.CountLaws.{lacks_is}
use Rattle.lists.specs.Judge.{filter_fine}
use Rattle.lists.proofs.filters.is_fine.Goals as goal

pub returns-then-ne-2 : goal.returns-then-ne-2
unfolding filter_fine
returns-then-ne-2 c =
    grind (arith, common_steps, empty_is c.args.filter.now, told_pairs c.args.filter.now (46 ∷ []) refl, told_pairs c.args.filter.now (48 ∷ []) refl, lacks_is 59 c.args.filter.now c.count_byte.ensures)

pub returns-else-ne-2 : goal.returns-else-ne-2
unfolding filter_fine
returns-else-ne-2 c =
    grind (arith, common_steps, empty_is c.args.filter.now, told_pairs c.args.filter.now (46 ∷ []) refl, told_pairs c.args.filter.now (48 ∷ []) refl)
