-- What functions promise each other, here and in the crates above. Assumes nothing.
use Rattle.std.specs.Prelude.{ℕ, zero, suc, ◌+◌, ◌-◌, ◌≤◌, ◌≡◌, List, [], ◌∷◌, length, get_or, ltb, Result}
use Rattle.text.specs.Pick.{pick, within}
use Rattle.text.specs.Answer.{Answer, says, values_of}
use Rattle.text.specs.Range.{range_at}
use Rattle.text.specs.declared.range.Range.{Range}
use Rattle.text.specs.Over.{room_answer, laid}
use Rattle.pieces.specs.Pieces.{joined}
use Rattle.entries.specs.Entries.{entry_list, ordered}
use Rattle.entries.specs.Paper.{joined_paper}
use Rattle.entries.specs.declared.joined.JoinError.{JoinError}

-- ---- the ends of an entry list, and one entry

-- 16 where the ends fall or pass the text
unfoldable pub ends_answer : List ℕ → List ℕ → Answer
ends_answer t ends = ordered t ends (says 0 [])

-- where entry i starts: the first at 0, each later one at the end before it
unfoldable pub start_of : List ℕ → ℕ → ℕ
start_of ends zero = 0
start_of ends (suc i) = get_or ends i 0

-- the place from start to end in a text of n bytes, or 16
unfoldable pub place_answer : ℕ → ℕ → ℕ → Answer
place_answer start end n = pick (within start n end) (says 0 (start ∷ (end - start) ∷ [])) (says 16 [])

-- 10 where there are not so many ends
unfoldable pub entry_answer : List ℕ → List ℕ → ℕ → Answer
unfolding start_of
entry_answer t ends i = pick (ltb i (length ends)) (place_answer (start_of ends i) (get_or ends i 0) (length t)) (says 10 [])

-- its place; where there is none, empty at the text's end
unfoldable pub entry_range : List ℕ → List ℕ → ℕ → Range
entry_range t ends i = range_at (get_or (values_of (entry_answer t ends i)) 0 (length t)) (get_or (values_of (entry_answer t ends i)) 1 0)

-- that place, which the text has
pub record PlacesEntry (t ends : List ℕ) (i : ℕ) (r : Range) : Type 0 where
  pub is : r ≡ entry_range t ends i
  pub within : r.start + r.len ≤ length t

-- ---- entries joined by a separator

-- 16, then 17
unfoldable pub joined_answer : ℕ → List ℕ → List ℕ → List ℕ → Answer
joined_answer separator t ends l = ordered t ends (room_answer (joined separator (entry_list t ends)) l)

-- only an answer that is done changes the output
pub record JoinsList (separator : ℕ) (t ends l : List ℕ) (r : Result ℕ JoinError) (l' : List ℕ) : Type 0 where
  pub answer : joined_paper r ≡ joined_answer separator t ends l
  pub bytes : l' ≡ laid (joined_answer separator t ends l) (joined separator (entry_list t ends)) l
