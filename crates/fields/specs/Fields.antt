-- The text of each field of a line (docs/RULES.md, "A line"). Assumes nothing.
use Rattle.std.specs.Prelude.{ℕ, ◌+◌, ◌-◌, Bool, ◌&&◌, List, [], ◌∷◌, length, leb}
use Rattle.std.proofs.Math.Option.{Option, some, none}
use Rattle.text.specs.Pick.{pick}
use Rattle.text.specs.Answer.{Answer, says}
use Rattle.text.specs.Same.{same}
use Rattle.text.specs.Range.{cut, range_places}
use Rattle.text.specs.declared.range.Range.{Range}
use Rattle.record.specs.Place.{range_of}
use Rattle.record.specs.declared.place.Record.{Record}
use Rattle.record.specs.declared.place.Name.{Name}
use Rattle.record.specs.declared.place.Name.TheVariants as N

-- the range's start lies in the buffer, and its length does not pass what is left
unfoldable pub fits_in : Range → List ℕ → Bool
fits_in r s = leb r.start (length s) && leb r.len (length s - r.start)

-- the place, or 6
unfoldable pub place_answer : List ℕ → Range → Answer
place_answer s r = pick (fits_in r s) (says 0 (range_places r)) (says 6 [])

-- what a `.` reads as: empty, absent, or as it stands
pub data Dot : Type 0 where
  empty : Dot
  absent : Dot
  itself : Dot

abbrev pub dot_of : Name → Dot
dot_of N.Chrom = itself
dot_of N.Pos = itself
dot_of N.Id = empty
dot_of N.Reference = itself
dot_of N.Alt = empty
dot_of N.Qual = absent
dot_of N.Filter = empty
dot_of N.Info = empty
dot_of N.Format = itself
dot_of N.Samples = itself

-- as a place: what is empty lies at its column's end
abbrev pub dot_places : Dot → Range → List ℕ
dot_places empty r = (r.start + r.len) ∷ 0 ∷ []
dot_places absent r = []
dot_places itself r = range_places r

-- and as a text
abbrev pub dot_text : Dot → Option (List ℕ)
dot_text empty = some []
dot_text absent = none
dot_text itself = some (46 ∷ [])

unfoldable pub dot_answer : Name → Range → Answer
dot_answer n r = says 0 (dot_places (dot_of n) r)

-- the text that a column of a field reads as, if any
abbrev pub read_text : Name → List ℕ → Option (List ℕ)
read_text n c = pick (same c (46 ∷ [])) (dot_text (dot_of n)) (some c)

-- a range's text that is a `.` reads as its field says; any other stands as it is
unfoldable pub text_answer : List ℕ → Name → Range → Answer
text_answer s n r = pick (fits_in r s && same (cut r s) (46 ∷ [])) (dot_answer n r) (place_answer s r)

unfoldable pub field_answer : List ℕ → Record → Name → Answer
field_answer s r n = text_answer s n (range_of r n)
