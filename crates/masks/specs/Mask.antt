-- Where two bytes stand in a text, as the bits of a number. Assumes nothing.
use Rattle.std.specs.Prelude.{ℕ, ◌+◌, ◌*◌, ◌||◌, List, [], ◌∷◌, length, take, drop, eqb, leb}
use Rattle.text.specs.Pick.{pick}

-- 1 for a byte that is a or b, 0 for any other
unfoldable pub hit : ℕ → ℕ → ℕ → ℕ
hit a b x = pick (eqb x a || eqb x b) 1 0

-- the lowest bit is the first byte's
unfoldable pub mask_of : ℕ → ℕ → List ℕ → ℕ
mask_of a b [] = 0
mask_of a b (x ∷ t) = hit a b x + 2 * mask_of a b t

-- of the 64 bytes that stand from a place on, and 0 where fewer do
unfoldable pub mask_at : ℕ → ℕ → List ℕ → ℕ → ℕ
mask_at a b s at = pick (leb (at + 64) (length s)) (mask_of a b (take 64 (drop at s))) 0
