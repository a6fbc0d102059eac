-- `lists::alternate_bases::is_inside` meets its contract: the tests are those of the definition, in its order. Assumes nothing.
use Rattle.std.proofs.Common.{arith}
use Rattle.std.proofs.lemmas.Grind.{common_steps}
use Rattle.text.proofs.ByteLaws.{empty_is}
use Rattle.pieces.proofs.CountLaws.{lacks_is}
use Rattle.lists.specs.Judge.{inside_fine}
use Rattle.lists.proofs.alternate_bases.is_inside.Goals as goal

pub returns-then-count_byte-eq0 : goal.returns-then-count_byte-eq0
unfolding inside_fine
returns-then-count_byte-eq0 c = grind (arith, common_steps, empty_is, lacks_is)

pub returns-else-count_byte-eq0 : goal.returns-else-count_byte-eq0
unfolding inside_fine
returns-else-count_byte-eq0 c = grind (arith, common_steps, empty_is, lacks_is)
