-- Bytes as one number, the first the lowest. Assumes nothing.
use Rattle.std.specs.Prelude.{ℕ, ◌+◌, ◌*◌, List, [], ◌∷◌, eqb}
use Rattle.text.specs.Pick.{pick}

unfoldable pub word_of : List ℕ → ℕ
word_of [] = 0
word_of (x ∷ s) = word_of s * 256 + x

-- 128 for each byte that is b, and 0 for each other
unfoldable pub marks_of : ℕ → List ℕ → ℕ
marks_of b [] = 0
marks_of b (x ∷ s) = marks_of b s * 256 + pick (eqb x b) 128 0
