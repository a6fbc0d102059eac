-- Which forms of a line's record a line reader can make (docs/RULES.md, "Two forms of a record"), by the places of its fields: twenty
-- numbers, the start and the length of each. Assumes nothing.
use Rattle.std.specs.Prelude.{ℕ, ◌+◌, ◌*◌, Bool, true, false, ◌&&◌, ◌||◌, List, [], ◌∷◌, length, get_or, take, drop, leb, ltb, eqb}
use Rattle.text.specs.Pick.{pick}
use Rattle.text.specs.Answer.{Answer, says}
use Rattle.text.specs.Same.{same}
use Rattle.record.specs.Ending.{Ending, ending_bytes, ending_number}
use Rattle.record.specs.Place.{numbers_of}

-- where field i ends
unfoldable pub end_at : List ℕ → ℕ → ℕ
end_at places i = get_or places (2 * i) 0 + get_or places (2 * i + 1) 0

-- fields of which none is empty: the first starts at the place `from`, and each later one past one tab after the end of the one before
unfoldable pub chained_from : ℕ → List ℕ → Bool
chained_from from [] = true
chained_from from (start ∷ []) = false
chained_from from (start ∷ len ∷ places) = eqb start from && (ltb 0 len && chained_from (from + len + 1) places)

-- the first may start anywhere
unfoldable pub chained : List ℕ → Bool
chained places = chained_from (get_or places 0 0) places

-- FORMAT and the samples are empty at INFO's end
unfoldable pub bare : List ℕ → Bool
bare places = same (drop 16 places) (end_at places 7 ∷ 0 ∷ end_at places 7 ∷ 0 ∷ [])

-- ten fields; or eight, with FORMAT and the samples empty at the text's end
unfoldable pub ten_fields : List ℕ → Bool
ten_fields places = eqb (length places) 20 && (chained places || (chained (take 16 places) && bare places))

-- the most bytes that a slice can have
unfoldable pub limit : ℕ
limit = 9223372036854775807

-- and an input is long enough for the text, which ends where the samples do, and its ending
unfoldable pub made : Ending → List ℕ → Bool
made e places = ten_fields places && leb (end_at places 9 + length (ending_bytes e)) limit

-- the places, or 32
unfoldable pub widen_answer : Ending → List ℕ → Answer
widen_answer e places = pick (made e places) (says 0 (ending_number e ∷ places)) (says 32 [])

-- the numbers of the places, or 32
unfoldable pub narrow_answer : Ending → List ℕ → Answer
narrow_answer e places = pick (made e places) (says 0 (ending_number e ∷ numbers_of places)) (says 32 [])
