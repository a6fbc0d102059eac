-- Fields, endings and records by number. Assumes nothing.
use Rattle.std.specs.Prelude.{ℕ, List, [], ◌∷◌, get_or, leb}
use Rattle.text.specs.Pick.{pick}
use Rattle.text.specs.Answer.{Answer, says}
use Rattle.text.specs.declared.range.Range.{Range}
use Rattle.record.specs.Ending.{ending_by}
use Rattle.record.specs.Paper.{record_places, record_with}
use Rattle.record.specs.declared.ending.Ending.TheVariants as E
use Rattle.record.specs.declared.place.Name.{Name}
use Rattle.record.specs.declared.place.Name.TheVariants as N
use Rattle.fields.specs.Fields.{text_answer}
use Rattle.join.specs.Join.{join_answer, line_left}
use Rattle.forms.specs.Form.{widen_answer, narrow_answer}

-- the fields, in the order of a line's columns; the samples come after them
abbrev pub names : List Name
names = N.Chrom ∷ N.Pos ∷ N.Id ∷ N.Reference ∷ N.Alt ∷ N.Qual ∷ N.Filter ∷ N.Info ∷ N.Format ∷ []

-- the field with this number, counted from 0
unfoldable pub name_of : ℕ → Name
name_of n = get_or names n N.Samples

-- 10 where there is no such field
unfoldable pub named_answer : List ℕ → ℕ → Range → Answer
named_answer s n r = pick (leb n 9) (text_answer s (name_of n) r) (says 10 [])

-- what is joined with the ending of this number: 10 where there is none, before anything else
unfoldable pub ended_answer : List ℕ → List ℕ → ℕ → ℕ → List ℕ → Answer
ended_answer t ends n at out = pick (leb n 2) (join_answer t ends (ending_by n) at out) (says 10 [])

-- and then the output stays
unfoldable pub ended_left : List ℕ → List ℕ → ℕ → ℕ → List ℕ → List ℕ
ended_left t ends n at out = pick (leb n 2) (line_left t ends (ending_by n) at out) out

-- ---- the two forms of a record

-- the old form of the record with these numbers and the ending of this number: 32 where there is no such ending
-- (a record's places are the same with every ending)
unfoldable pub widened_answer : ℕ → List ℕ → Answer
widened_answer n numbers = pick (leb n 2) (widen_answer (ending_by n) (record_places (record_with E.Nothing numbers))) (says 32 [])

-- and the record of the old form with these places
unfoldable pub narrowed_answer : ℕ → List ℕ → Answer
narrowed_answer n places = pick (leb n 2) (narrow_answer (ending_by n) places) (says 32 [])
