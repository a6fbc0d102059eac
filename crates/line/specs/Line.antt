-- A line and its columns (docs/RULES.md, "A line"): cut the line, split it at tabs, judge the columns from the left.
-- Assumes nothing.
use Rattle.std.specs.Prelude.{ℕ, zero, suc, ◌+◌, Bool, true, ◌&&◌, ◌||◌, length, drop, leb, eqb}
use mathlib.Core.List.{List, [], ◌∷◌, ◌++◌, drop_last}
use Rattle.text.specs.Pick.{pick}
use Rattle.text.specs.Answer.{Answer, says}
use Rattle.text.specs.Bytes.{is_empty, ends_in}
use Rattle.text.specs.Utf8.{is_utf8}
use Rattle.text.specs.Place.{placed, from_place}
use Rattle.text.specs.Verdict.{Verdict, fine, refused}
use Rattle.pieces.specs.Pieces.{split, joined}
use Rattle.record.specs.Ending.{Ending, nothing, feed, return_feed, ending_bytes, ending_number}

-- ---- the line that an input begins with

-- the line's text, its ending, and the rest of the input
pub data Line : Type 0 where
  line : List ℕ → Ending → List ℕ → Line

-- before an LF one CR belongs to the ending
unfoldable pub fed : List ℕ → List ℕ → Line
fed t rest = pick (ends_in 13 t) (line (drop_last t) return_feed rest) (line t feed rest)

-- the input cut at its first LF
unfoldable pub line_in : List (List ℕ) → Line
line_in [] = line [] nothing []
line_in (t ∷ []) = line t nothing []
line_in (t ∷ u ∷ ts) = fed t (joined 10 (u ∷ ts))

unfoldable pub line_of : List ℕ → Line
line_of s = line_in (split 10 s)

-- of a line whose text starts at the place `from`: where the text ends, how the line ended, and the place past it
unfoldable pub extent_answer : ℕ → Line → Answer
extent_answer from (line t e rest) = says 0 ((from + length t) ∷ ending_number e ∷ (from + length t + length (ending_bytes e)) ∷ [])

-- 6 beyond the input, else the line from the place on; at the input's end that is the empty line that nothing ends
unfoldable pub line_at_answer : List ℕ → ℕ → Answer
line_at_answer s at = placed at s (extent_answer at (line_of (drop at s)))

-- ---- the columns, judged from the left

-- columns 1 to 7, and FORMAT, must be ended by a tab
unfoldable pub required : ℕ → Bool
required k = leb k 7 || eqb k 9

-- the last column: k is its number, counted from 1, and past the place past the line
unfoldable pub last_verdict : ℕ → List ℕ → Ending → ℕ → Verdict
last_verdict k c nothing past = pick (required k || is_empty c) (refused 4 past) fine
last_verdict k c feed past = pick (required k) (refused 3 past) (pick (is_empty c) (refused 2 past) fine)
last_verdict k c return_feed past = pick (required k) (refused 3 past) (pick (is_empty c) (refused 2 past) fine)

-- the columns from number k on, the first of which starts at the place `from`: a refusal has the place past the column's terminator
unfoldable pub verdict : ℕ → ℕ → List (List ℕ) → Ending → ℕ → Verdict
verdict k from [] e past = fine
verdict k from (c ∷ []) e past = last_verdict k c e past
verdict k from (c ∷ d ∷ cs) e past = pick (is_empty c) (refused 2 (from + 1)) (verdict (k + 1) (from + length c + 1) (d ∷ cs) e past)

-- ---- the places of the ten fields

-- start and length of the first n columns, the first of which starts at the place `from`, and of what is left as one: the samples
unfoldable pub leading_places : ℕ → ℕ → List (List ℕ) → List ℕ
leading_places n from [] = []
leading_places zero from (c ∷ cs) = from ∷ length (joined 9 (c ∷ cs)) ∷ []
leading_places (suc n) from (c ∷ cs) = from ∷ length c ∷ leading_places n (from + length c + 1) cs

-- eight columns, with FORMAT and the samples empty at the text's end; or nine, and the samples
unfoldable pub field_places : ℕ → List (List ℕ) → ℕ → List ℕ
field_places from cs end = pick (eqb (length cs) 8) (leading_places 8 from cs ++ end ∷ 0 ∷ end ∷ 0 ∷ []) (leading_places 9 from cs)

-- ---- the answer

unfoldable pub all_utf8 : List (List ℕ) → Bool
all_utf8 [] = true
all_utf8 (c ∷ cs) = is_utf8 c && all_utf8 cs

-- structure before UTF-8; an accepted line says the next place, its ending and its places
unfoldable pub judged_answer : Verdict → ℕ → ℕ → List (List ℕ) → Ending → ℕ → Answer
judged_answer (refused n next) from end cs e past = says n (next ∷ [])
judged_answer fine from end cs e past = pick (all_utf8 cs) (says 0 (past ∷ ending_number e ∷ field_places from cs end)) (says 5 (past ∷ []))

-- a line whose text starts at the place `from`
unfoldable pub line_answer : ℕ → Line → Answer
line_answer from (line t e rest) =
    judged_answer (verdict 1 from (split 9 t) e (from + length t + length (ending_bytes e))) from (from + length t) (split 9 t) e
    (from + length t + length (ending_bytes e))

-- 6 beyond the input, 1 at its end, else the line from the place on
unfoldable pub read_answer : List ℕ → ℕ → Answer
read_answer s at = from_place at s 1 (line_answer at (line_of (drop at s)))
