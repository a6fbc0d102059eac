-- A step of the INFO scan, and the count (docs/RULES.md, "INFO"). Assumes nothing.
use Rattle.std.specs.Prelude.{ℕ, ◌+◌, List, [], ◌∷◌, length, drop}
use Rattle.text.specs.Pick.{pick}
use Rattle.text.specs.Answer.{Answer, says}
use Rattle.text.specs.Bytes.{is_empty}
use Rattle.text.specs.Place.{from_place}
use Rattle.pieces.specs.Pieces.{split, joined, count_of}

-- ---- an entry

-- a key alone, or a key and a value
pub data Pair : Type 0 where
  alone : List ℕ → Pair
  paired : List ℕ → List ℕ → Pair

abbrev pub key_of : Pair → List ℕ
key_of (alone k) = k
key_of (paired k v) = k

-- cut at the first `=`: what follows is the value, which may hold `=`
unfoldable pub pair_in : List (List ℕ) → Pair
pair_in [] = alone []
pair_in (k ∷ []) = alone k
pair_in (k ∷ v ∷ vs) = paired k (joined 61 (v ∷ vs))

unfoldable pub pair_of : List ℕ → Pair
pair_of e = pair_in (split 61 e)

-- ---- a step

-- the places of an entry that starts at `at`
unfoldable pub places_of : ℕ → Pair → List ℕ
places_of at (alone k) = at ∷ length k ∷ []
places_of at (paired k v) = at ∷ length k ∷ (at + length k + 1) ∷ length v ∷ []

-- 8 where the key is empty: one byte was read
unfoldable pub entry_answer : ℕ → Pair → ℕ → Answer
unfolding places_of
entry_answer at p next = pick (is_empty (key_of p)) (says 8 ((at + 1) ∷ [])) (says 0 (next ∷ places_of at p))

-- an entry whose `;` is the last byte: 7 after a key, before 8; 9 after a value
unfoldable pub dangling_answer : ℕ → Pair → ℕ → Answer
dangling_answer at (alone k) end = says 7 (end ∷ [])
dangling_answer at (paired k v) end = pick (is_empty k) (says 8 ((at + 1) ∷ [])) (says 9 (end ∷ []))

-- an entry ended by a `;`, and the text after it
unfoldable pub ended_answer : ℕ → Pair → ℕ → List ℕ → Answer
unfolding entry_answer dangling_answer
ended_answer at p next [] = dangling_answer at p next
ended_answer at p next (b ∷ rest) = entry_answer at p next

-- the first of the texts between `;` from the place on
unfoldable pub first_answer : ℕ → List (List ℕ) → Answer
unfolding entry_answer ended_answer
first_answer at [] = says 10 (at ∷ [])
first_answer at (e ∷ []) = entry_answer at (pair_of e) (at + length e)
first_answer at (e ∷ f ∷ fs) = ended_answer at (pair_of e) (at + length e + 1) (joined 59 (f ∷ fs))

-- 6 beyond the column, 10 at its end, else the entry at the place
unfoldable pub step_answer : List ℕ → ℕ → Answer
step_answer t at = from_place at t 10 (first_answer at (split 59 (drop at t)))

-- ---- the count

-- semicolons plus one, 0 for the empty column: not the number of steps, which is 1 for `a;` and 2 for `=a`
unfoldable pub info_count : List ℕ → ℕ
info_count [] = 0
info_count (b ∷ s) = count_of 59 (b ∷ s) + 1
