-- What the private functions of this crate promise each other. Assumes nothing.
use Rattle.std.specs.Prelude.{ℕ, zero, suc, ◌+◌, ◌-◌, ◌<◌, ◌≤◌, ◌≡◌, List, [], ◌∷◌, length, get_or, take, drop, Result, Ok, Err}
use Rattle.text.specs.Verdict.{Verdict, fine, refused}
use Rattle.pieces.specs.Inner.{Quiet}
use Rattle.pieces.specs.Pieces.{split}
use Rattle.record.specs.Ending.{ending_bytes}
use Rattle.record.specs.Place.{numbers_of}
use Rattle.record.specs.Paper.{record_places, record_numbers, record_with}
use Rattle.record.specs.Promises.{GivesEnding}
use Rattle.record.specs.declared.ending.Ending.{Ending}
use Rattle.record.specs.declared.place.Record.{Record}
use Rattle.line.specs.Line.{Line, line, line_of, verdict, field_places}
use Rattle.line.specs.declared.read.Stop.{Stop}
use Rattle.line.specs.declared.read.Stop.TheVariants as S
use Rattle.line.specs.declared.read.Refusal.{Refusal}
use Rattle.line.specs.declared.read.Refusal.TheVariants as R

-- ---- where a column ends

-- no tab and no LF from one place up to another
abbrev pub Clear : List ℕ → ℕ → ℕ → Type 0
Clear s from end = Quiet 9 10 s from end

-- the first tab or LF from a place on is the byte b, at the place i
pub record Stopped (s : List ℕ) (from i b : ℕ) : Type 0 where
  pub within : i < length s
  pub is : get_or s i 0 ≡ b
  pub clear : Clear s from i

abbrev pub StopsAt : List ℕ → ℕ → Stop → Type 0
StopsAt s from (S.Tab i) = Stopped s from i 9
StopsAt s from (S.Feed i) = Stopped s from i 10
StopsAt s from S.Input = Clear s from (length s)

-- where the text of a column that stops at an LF, or at the end of the input, has its end
pub data TextEnd (s : List ℕ) (start stop : ℕ) : ℕ → Type 0 where
  input : stop ≡ length s → TextEnd s start stop stop
  none : start ≡ stop → TextEnd s start stop stop
  bare : start < stop → (get_or s (stop - 1) 0 ≡ 13 → ⊥) → TextEnd s start stop stop
  return : start < stop → stop < length s → get_or s (stop - 1) 0 ≡ 13 → TextEnd s start stop (stop - 1)

-- ---- how a line's columns are judged

-- the place of the text's end and the place past the line, or a refusal's number and next place
pub data Judgement : Type 0 where
  accepted : ℕ → ℕ → Judgement
  denied : ℕ → ℕ → Judgement

unfoldable pub judgement : Verdict → ℕ → ℕ → Judgement
judgement fine end past = accepted end past
judgement (refused n next) end past = denied n next

-- of the line that starts at the place `from` with column k
unfoldable pub judgement_of : ℕ → ℕ → Line → Judgement
unfolding judgement
judgement_of k from (line t e rest) =
    judgement (verdict k from (split 9 t) e (from + length t + length (ending_bytes e))) (from + length t) (from + length t + length (ending_bytes e))

-- as the code has it
abbrev pub Judged : Type 0
Judged = Result (ℕ × ℕ) Refusal

unfoldable pub judged_paper : Judged → Judgement
judged_paper (Ok (end, next)) = accepted end next
judged_paper (Err (R.End next)) = denied 1 next
judged_paper (Err (R.Empty next)) = denied 2 next
judged_paper (Err (R.Fed next)) = denied 3 next
judged_paper (Err (R.Cut next)) = denied 4 next
judged_paper (Err (R.NotUtf8 next)) = denied 5 next
judged_paper (Err (R.Beyond next)) = denied 6 next

-- the columns are in order: `end` is the text's end, and `next` the place past the line
pub record InOrder (s : List ℕ) (at end next : ℕ) : Type 0 where
  pub reached : at ≤ length s
  pub judged : judgement_of 1 at (line_of (drop at s)) ≡ accepted end next

-- ---- the tabs that are kept

-- nine places, and none is set
pub record Unset (tabs : List ℕ) : Type 0 where
  pub size : length tabs ≡ 9
  pub naught : (j : ℕ) → get_or tabs j 0 ≡ 0

-- the first tab of the text from a place on stands at i
pub record Tab (t : List ℕ) (from i : ℕ) : Type 0 where
  pub after : from ≤ i
  pub within : i < length t
  pub columns : split 9 (drop from t) ≡ take (i - from) (drop from t) ∷ split 9 (drop (i + 1) t)

-- where the column past the first j tabs starts
abbrev pub start_of : ℕ → List ℕ → ℕ → ℕ
start_of at tabs zero = at
start_of at tabs (suc j) = get_or tabs j 0 + 1

-- the line that starts at `at` in t, and ends where t ends, has eight columns, and the first seven tabs are kept; or ten
-- columns or more, and the first nine tabs are kept
pub record Told (t : List ℕ) (at : ℕ) (tabs : List ℕ) : Type 0 where
  pub size : length tabs ≡ 9
  pub seven : (j : ℕ) → j < 7 → Tab t (start_of at tabs j) (get_or tabs j 0)
  pub eight : get_or tabs 7 0 ≡ 0 → split 9 (drop (get_or tabs 6 0 + 1) t) ≡ drop (get_or tabs 6 0 + 1) t ∷ []
  pub nine : (get_or tabs 7 0 ≡ 0 → ⊥) → (j : ℕ) → j < 9 → Tab t (start_of at tabs j) (get_or tabs j 0)

-- that is so of the text that the judge accepts
pub record Marks (s : List ℕ) (at : ℕ) (r : Judged) (tabs : List ℕ) : Type 0 where
  pub told : (end next : ℕ) → r ≡ Ok (end, next) → Told (take end s) at tabs

-- ---- the columns as they are gone through

-- what is left from column k on is judged as the whole
pub record Going (s : List ℕ) (at k start : ℕ) : Type 0 where
  pub reached : start ≤ length s
  pub few : k ≤ start + 1
  pub same : judgement_of k start (line_of (drop start s)) ≡ judgement_of 1 at (line_of (drop at s))

-- the tabs of the columns before column k, which starts at `start`
pub record Kept (s : List ℕ) (at k start : ℕ) (tabs : List ℕ) : Type 0 where
  pub numbered : 1 ≤ k
  pub size : length tabs ≡ 9
  pub each : (j : ℕ) → j + 1 < k → j < 9 → Stopped s (start_of at tabs j) (get_or tabs j 0) 9
  pub before : (j : ℕ) → j + 1 < k → j < 9 → get_or tabs j 0 < start
  pub last : (j : ℕ) → j + 1 ≡ k → j ≤ 9 → start_of at tabs j ≡ start
  pub unset : (j : ℕ) → k ≤ j + 1 → get_or tabs j 0 ≡ 0
  pub count : (end : ℕ) → start ≤ end → end ≤ length s → length (split 9 (drop at (take end s))) + 1 ≡ k + length (split 9 (drop start (take end s)))

-- both
pub record Judging (s : List ℕ) (at k start : ℕ) (tabs : List ℕ) : Type 0 where
  pub going : Going s at k start
  pub kept : Kept s at k start tabs

-- ---- the record of a line, by the tabs

-- the tabs end the first seven fields
abbrev pub record_by : Ending → ℕ → List ℕ → ℕ → ℕ → ℕ → Record
record_by ending at tabs info format end =
    record_with ending
    (at ∷ get_or tabs 0 0 ∷ get_or tabs 1 0 ∷ get_or tabs 2 0 ∷ get_or tabs 3 0 ∷ get_or tabs 4 0 ∷ get_or tabs 5 0 ∷ get_or tabs 6 0 ∷ info ∷ format ∷ end ∷ [])

-- it has the places of the columns of the line that starts at `at` in t, and ends where t ends
pub record Fields (t : List ℕ) (at : ℕ) (ending : Ending) (r : Record) : Type 0 where
  pub ends : GivesEnding r ending
  pub places : record_places r ≡ field_places at (split 9 (drop at t)) (length t)
  pub numbers : record_numbers r ≡ numbers_of (record_places r)
