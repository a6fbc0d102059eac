-- What each answer says on paper, for who knows which it is. Assumes nothing.
use Prim.Native.Nat.{ℕ}
use mathlib.Core.Path.{◌≡◌}
use mathlib.Core.List.{[], ◌∷◌}
use Rattle.text.specs.Answer.{says}
use Rattle.text.specs.declared.range.Range.{Range}
use Rattle.pieces.specs.Paper.{step_paper, nth_paper}
use Rattle.std.specs.Prelude.{Result, Ok, Err, Option, Some, None}
use Rattle.pieces.specs.declared.step.Piece.{Piece}
use Rattle.pieces.specs.declared.step.Piece.TheVariants.{More, Last}
use Rattle.pieces.specs.declared.step.NoPiece.{NoPiece}
use Rattle.pieces.specs.declared.step.NoPiece.TheVariants.{Nothing, Beyond}

module _ {x : Result Piece NoPiece} where
  pub step_more : {r : Range} {next : ℕ} → x ≡ Ok (More r next) → step_paper x ≡ says 0 (r.start ∷ r.len ∷ next ∷ [])
  unfolding step_paper
  step_more e = rw e

  pub step_last : {r : Range} → x ≡ Ok (Last r) → step_paper x ≡ says 0 (r.start ∷ r.len ∷ [])
  unfolding step_paper
  step_last e = rw e

  pub step_nothing : x ≡ Err Nothing → step_paper x ≡ says 10 []
  unfolding step_paper
  step_nothing e = rw e

  pub step_beyond : x ≡ Err Beyond → step_paper x ≡ says 6 []
  unfolding step_paper
  step_beyond e = rw e

module _ {x : Option Range} where
  pub nth_at : {r : Range} → x ≡ Some r → nth_paper x ≡ says 0 (r.start ∷ r.len ∷ [])
  unfolding nth_paper
  nth_at e = rw e

  pub nth_nothing : x ≡ None → nth_paper x ≡ says 10 []
  unfolding nth_paper
  nth_nothing e = rw e

pub ruleset cases = (step_more, step_last, step_nothing, step_beyond, nth_at, nth_nothing)
