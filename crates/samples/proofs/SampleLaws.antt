-- A step over samples is a step over pieces between tabs, and the first subfield the first piece between colons. Assumes nothing.
use Prim.Native.Nat.{ℕ}
use mathlib.Core.Path.{◌≡◌}
use native.Mathlib.Omega.{arith}
use mathlib.Core.List.{List}
use Rattle.std.specs.Prelude.{Some, None, Result, Ok, Err}
use Rattle.text.specs.declared.range.Range.{Range}
use Rattle.pieces.specs.Pieces.{step_answer}
use Rattle.pieces.specs.Paper.{step_paper, nth_paper}
use Rattle.pieces.specs.declared.step.Piece.{Piece}
use Rattle.pieces.specs.declared.step.Piece.TheVariants as P
use Rattle.pieces.specs.declared.step.NoPiece.{NoPiece}
use Rattle.pieces.proofs.StepLaws.{StepTells, step_tells}
use Rattle.pieces.proofs.NthLaws.{nth_first, nth_more, nth_last, nth_nothing}
use Rattle.samples.specs.Samples.{sample_step, subfield_answer}

pub sample_tells : (t : List ℕ) (at : ℕ) (x : Result Piece NoPiece) → step_paper x ≡ sample_step t at → StepTells 9 t at x
unfolding sample_step
sample_tells t at x e = step_tells 9 t at x e

-- ---- the first subfield

module _ (t : List ℕ) (x : Result Piece NoPiece) (e : step_paper x ≡ step_answer 58 t 0) where
  module _ (y : Piece) (q : x ≡ Ok y) where
    pub first_more : (r : Range) (next : ℕ) → y ≡ P.More r next → nth_paper (Some r) ≡ subfield_answer t 0
    unfolding subfield_answer
    first_more r next p = nth_more 58 t 0 0 0 x (nth_first 58 t 0) e y q r next p (omega arith)

    pub first_last : (r : Range) → y ≡ P.Last r → nth_paper (Some r) ≡ subfield_answer t 0
    unfolding subfield_answer
    first_last r p = nth_last 58 t 0 0 0 x (nth_first 58 t 0) e y q r p (omega arith)

  pub first_nothing : (y : NoPiece) → x ≡ Err y → nth_paper None ≡ subfield_answer t 0
  unfolding subfield_answer
  first_nothing y q = nth_nothing 58 t 0 0 0 x (nth_first 58 t 0) e y q

pub ruleset laws = (first_more, first_last, first_nothing)
