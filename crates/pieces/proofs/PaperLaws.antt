-- No two answers have one paper, since each can be read back from its own. Assumes nothing.
use mathlib.Core.Path.{◌≡◌, refl}
use mathlib.Core.List.{[], ◌∷◌}
use mathlib.Mathlib.Logic.Function.Defs.{LeftInverse-Injective}
use lib.Dec.{eqb}
use Rattle.text.specs.Pick.{pick}
use Rattle.text.specs.Answer.{Answer, says}
use Rattle.pieces.specs.Paper.{step_paper, nth_paper}
use Rattle.std.specs.Prelude.{Result, Ok, Err, Option, Some, None}
use Rattle.text.specs.declared.range.Range.{Range}
use Rattle.pieces.specs.declared.step.Piece.{Piece}
use Rattle.pieces.specs.declared.step.Piece.TheVariants.{More, Last}
use Rattle.pieces.specs.declared.step.NoPiece.{NoPiece}
use Rattle.pieces.specs.declared.step.NoPiece.TheVariants.{Nothing, Beyond}

step_of : Answer → Result Piece NoPiece
step_of (says n []) = pick (eqb n 10) (Err Nothing) (Err Beyond)
step_of (says n (a ∷ [])) = Err Beyond
step_of (says n (a ∷ b ∷ [])) = Ok (Last (record { start = a; len = b }))
step_of (says n (a ∷ b ∷ c ∷ l)) = Ok (More (record { start = a; len = b }) c)

step_back : (x : Result Piece NoPiece) → step_of (step_paper x) ≡ x
unfolding step_of step_paper
step_back (Ok (More r next)) = refl
step_back (Ok (Last r)) = refl
step_back (Err Nothing) = refl
step_back (Err Beyond) = refl

pub step_paper_injective : (x y : Result Piece NoPiece) → step_paper x ≡ step_paper y → x ≡ y
step_paper_injective = LeftInverse-Injective step_of step_paper step_back

nth_of : Answer → Option Range
nth_of (says n []) = None
nth_of (says n (a ∷ [])) = None
nth_of (says n (a ∷ b ∷ l)) = Some (record { start = a; len = b })

nth_back : (x : Option Range) → nth_of (nth_paper x) ≡ x
unfolding nth_of nth_paper
nth_back (Some r) = refl
nth_back None = refl

pub nth_paper_injective : (x y : Option Range) → nth_paper x ≡ nth_paper y → x ≡ y
nth_paper_injective = LeftInverse-Injective nth_of nth_paper nth_back
