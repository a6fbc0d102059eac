-- Two counts that the demand on samples refuses: no constant is the count of the empty text and of "1", and the tabs are
-- fewer than the samples of "1". Assumes nothing.
use Prim.Native.Nat.{ℕ, ◌+◌}
use mathlib.Core.Path.{◌≡◌, refl, ap, ◌∙◌}
use mathlib.Core.List.{List, [], ◌∷◌}
use native.Mathlib.Omega.{arith}
use lib.ListN.{length}
use Rattle.text.specs.Answer.{Answer}
use Rattle.pieces.specs.Pieces.{pieces, count_of}
use Rattle.pieces.proofs.PieceLaws.{split_count, pieces_none, pieces_some}
use Rattle.samples.specs.Demands.{Listed}

-- the samples of "1" are one more than its tabs
one_more : length (pieces 9 (49 ∷ [])) ≡ count_of 9 (49 ∷ []) + 1
one_more = rw (pieces_some 9 (49 ∷ []) (omega arith)) (split_count 9 (49 ∷ []))

-- a count that is the same for every text
pub invented_count : (n : ℕ) (step sample : List ℕ → ℕ → Answer) → Listed (λ t. n) step sample → ⊥
invented_count n step sample claim =
    let a : n ≡ 0 = claim.counts [] ∙ ap length (pieces_none 9 [] refl) in
    let b = claim.counts (49 ∷ []) ∙ one_more in
    omega arith

-- a count of the tabs
pub tabs_counted : (step sample : List ℕ → ℕ → Answer) → Listed (λ t. count_of 9 t) step sample → ⊥
tabs_counted step sample claim = let b = claim.counts (49 ∷ []) ∙ one_more in omega arith
