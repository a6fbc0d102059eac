-- A piece by its number (docs/RULES.md, "Pieces"). Assumes nothing.
use Rattle.std.specs.Prelude.{ℕ, zero, suc, ◌+◌, List, [], ◌∷◌, length}
use Rattle.text.specs.Answer.{Answer, says}
use Rattle.pieces.specs.Pieces.{pieces}

-- the place of piece n, counted from 0, of pieces that stand from the place `at` on, one separator between each two
unfoldable pub nth_in : ℕ → List (List ℕ) → ℕ → Answer
nth_in at [] n = says 10 []
nth_in at (p ∷ ps) zero = says 0 (at ∷ length p ∷ [])
nth_in at (p ∷ ps) (suc n) = nth_in (at + length p + 1) ps n

-- 10 where there are not so many
unfoldable pub nth_answer : ℕ → List ℕ → ℕ → Answer
nth_answer separator t n = nth_in 0 (pieces separator t) n
