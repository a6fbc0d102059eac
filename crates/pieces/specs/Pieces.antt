-- The pieces of a text between separators (docs/RULES.md, "Pieces"). Assumes nothing.
use Rattle.std.specs.Prelude.{ℕ, ◌+◌, Bool, List, [], ◌∷◌, ◌++◌, length, drop, eqb}
use Rattle.text.specs.Pick.{pick, one_if}
use Rattle.text.specs.Answer.{Answer, says}
use Rattle.text.specs.Place.{placed}

-- ---- a list of pieces

-- the same pieces, with the byte b before the first
unfoldable pub longer : ℕ → List (List ℕ) → List (List ℕ)
longer b [] = (b ∷ []) ∷ []
longer b (p ∷ ps) = (b ∷ p) ∷ ps

-- the text cut at every separator, which stays in no piece: the empty text is one empty piece
unfoldable pub split : ℕ → List ℕ → List (List ℕ)
split separator [] = [] ∷ []
split separator (b ∷ s) = pick (eqb b separator) ([] ∷ split separator s) (longer b (split separator s))

-- the same, and the empty text holds no piece
unfoldable pub pieces : ℕ → List ℕ → List (List ℕ)
pieces separator [] = []
pieces separator (b ∷ s) = split separator (b ∷ s)

-- the pieces with a separator between each two
unfoldable pub joined : ℕ → List (List ℕ) → List ℕ
joined separator [] = []
joined separator (p ∷ []) = p
joined separator (p ∷ q ∷ ps) = p ++ separator ∷ joined separator (q ∷ ps)

-- ---- counting a byte

unfoldable pub count_of : ℕ → List ℕ → ℕ
count_of b [] = 0
count_of b (a ∷ s) = one_if (eqb a b) + count_of b s

-- the byte stands nowhere in the text
unfoldable pub lacks : ℕ → List ℕ → Bool
lacks b s = eqb (count_of b s) 0

-- ---- one step

-- the first of the pieces that stand from the place `at` on, and the place past its separator where another follows
unfoldable pub piece_answer : ℕ → List (List ℕ) → Answer
piece_answer at [] = says 10 []
piece_answer at (p ∷ []) = says 0 (at ∷ length p ∷ [])
piece_answer at (p ∷ q ∷ ps) = says 0 (at ∷ length p ∷ (at + length p + 1) ∷ [])

-- 10 for the empty text, else the first piece of the text from the place on
unfoldable pub inner_answer : ℕ → List ℕ → ℕ → Answer
unfolding piece_answer
inner_answer separator [] at = says 10 []
inner_answer separator (b ∷ s) at = piece_answer at (split separator (drop at (b ∷ s)))

-- 6 for a place beyond the text
unfoldable pub step_answer : ℕ → List ℕ → ℕ → Answer
step_answer separator t at = placed at t (inner_answer separator t at)
