-- The value that a lookup shows, as a part of the column (docs/RULES.md, "INFO"). Assumes nothing.
use Rattle.std.specs.Prelude.{ℕ, ◌+◌, ◌≤◌, ◌≡◌, List, length, get_or}
use Rattle.std.specs.Borrow.{Bor}
use Rattle.text.specs.Answer.{Answer, values_of}
use Rattle.text.specs.Range.{range_at}
use Rattle.text.specs.Part.{Part}
use Rattle.text.specs.declared.range.Range.{Range}
use Rattle.info.specs.Find.{find_answer}

-- the value's place: the fourth and fifth value of what `find` answers; where there are none, empty at the column's end
unfoldable pub shown_of : ℕ → Answer → Range
shown_of end a = range_at (get_or (values_of a) 3 end) (get_or (values_of a) 4 0)

unfoldable pub shown : List ℕ → List ℕ → Range
shown t key = shown_of (length t) (find_answer t key)

-- that place, which the column has
pub record PlacesValue (t key : List ℕ) (r : Range) : Type 0 where
  pub is : r ≡ shown t key
  pub within : r.start + r.len ≤ length t

-- the part of the column there
abbrev pub Shows : Bor (List ℕ) → List ℕ → Bor (List ℕ) → Type 0
Shows column key r = Part column (shown column.now key) r
