-- A step that the demands refuse: a last piece that runs past the text's end is not ours, and two steps that visit the pieces
-- answer the same. Assumes nothing.
use Prim.Native.Nat.{ℕ, ◌+◌, ◌<◌}
use mathlib.Core.Path.{◌≡◌, sym, ◌∙◌}
use mathlib.Core.List.{List, [], ◌∷◌}
use native.Mathlib.Omega.{arith}
use native.Mathlib.Nat.{zero-add}
use lib.ListN.{length}
use Rattle.text.specs.Answer.{says}
use Rattle.text.specs.Range.{range_at}
use Rattle.pieces.specs.Pieces.{split, step_answer}
use Rattle.pieces.specs.Paper.{step_paper}
use Rattle.pieces.specs.Demands.{start_in, Stepper, Visits, OneWalk}
use Rattle.pieces.proofs.StepLaws.{step_tells}
use Rattle.pieces.proofs.Demands.{visits, one_walk}
use Rattle.std.specs.Prelude.{Ok}
use Rattle.pieces.specs.declared.step.Piece.TheVariants.{Last}

-- where piece n of some text starts
pub past_the_end : (step : Stepper) (b : ℕ) (t : List ℕ) (n len : ℕ) → 0 < length t → n < length (split b t)
    → step b t (start_in (split b t) n) ≡ says 0 (start_in (split b t) n ∷ len ∷ []) → length t < start_in (split b t) n + len → Visits step split → ⊥
unfolding Visits OneWalk step_paper
past_the_end step b t n len h l e p claim =
    let start = start_in (split b t) n in
    let same = rw zero-add at (one_walk step step_answer b t 0 (split b t) (claim b t h) (visits b t h) n l) in
    let tells = step_tells b t start (Ok (Last (range_at start len))) (sym e ∙ same) in
    omega (arith, tells.end)
