-- No two answers have one paper, since each can be read back from its own. Assumes nothing.
use mathlib.Core.Path.{◌≡◌, refl}
use mathlib.Core.Bool.{Bool, true, false}
use mathlib.Core.List.{[], ◌∷◌}
use mathlib.Mathlib.Logic.Function.Defs.{LeftInverse-Injective}
use lib.Dec.{eqb}
use Rattle.std.specs.Prelude.{Ok, Err}
use Rattle.text.specs.Pick.{pick, one_if}
use Rattle.text.specs.Answer.{Answer, says}
use Rattle.allele.specs.Paper.{Step, step_paper}
use Rattle.allele.specs.declared.step.NoAllele.TheVariants as S

mark_back : (b : Bool) → eqb (one_if b) 1 ≡ b
mark_back true = refl
mark_back false = refl

step_of : Answer → Step
step_of (says n []) = pick (eqb n 6) (Err S.Beyond) (pick (eqb n 10) (Err S.Nothing) (Err S.Empty))
step_of (says n (a ∷ [])) = Err (S.Bad a)
step_of (says n (a ∷ b ∷ [])) = Err (S.Bad a)
step_of (says n (a ∷ b ∷ c ∷ [])) = Err (S.Bad a)
step_of (says n (a ∷ b ∷ c ∷ d ∷ l)) = Ok (record { number = b; missing = eqb c 1; phased = eqb d 1 }, a)

step_back : (x : Step) → step_of (step_paper x) ≡ x
unfolding step_of step_paper
step_back (Ok (a, next)) = rw (mark_back a.missing, mark_back a.phased)
step_back (Err S.Beyond) = refl
step_back (Err S.Nothing) = refl
step_back (Err S.Empty) = refl
step_back (Err (S.Bad fault)) = refl

pub step_paper_injective : (x y : Step) → step_paper x ≡ step_paper y → x ≡ y
step_paper_injective = LeftInverse-Injective step_of step_paper step_back
