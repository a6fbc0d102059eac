-- What the steps of this crate promise each other. Assumes nothing.
use Rattle.std.specs.Prelude.{ℕ, ◌+◌, ◌<◌, ◌≡◌, List, [], ◌∷◌, ◌++◌, length, get_or, take, drop, eqb, Ok}
use Rattle.text.specs.Pick.{pick}
use Rattle.record.specs.Paper.{record_numbers}
use Rattle.record.specs.declared.ending.Ending.{Ending}
use Rattle.record.specs.declared.place.Record.{Record}
use Rattle.line.specs.Promises.{FindsLine}
use Rattle.line.specs.declared.extent.Extent.{Extent}
use Rattle.splitter.specs.declared.split.Tabs.{Tabs}

-- ---- the tabs of a line

-- their places, from the left, by what is left of the line's text from the place `from` on
unfoldable pub tabs_from : ℕ → List ℕ → List ℕ
tabs_from from [] = []
tabs_from from (b ∷ t) = pick (eqb b 9) (from ∷ tabs_from (from + 1) t) (tabs_from (from + 1) t)

-- the first that stands where a column starts, so that this column is empty; the end of the text where none does
unfoldable pub first_gap : ℕ → ℕ → List ℕ → ℕ
first_gap end from [] = end
first_gap end from (tab ∷ tabs) = pick (eqb tab from) tab (first_gap end (tab + 1) tabs)

-- where the last column starts: past the last tab, or where the line does
unfoldable pub last_start : ℕ → List ℕ → ℕ
last_start from [] = from
last_start from (tab ∷ tabs) = last_start (tab + 1) tabs

-- where the first nine stand; the end of the text for each that is not there
pub record Nine (tabs : List ℕ) (end : ℕ) (ends : List ℕ) : Type 0 where
  pub size : length ends ≡ 9
  pub each : (i : ℕ) → i < 9 → get_or ends i 0 ≡ get_or tabs i end

-- what is kept of them all, of a line that starts at the place `at` and whose text ends at `end`
pub record Keeps (tabs : List ℕ) (at end : ℕ) (r : Tabs) : Type 0 where
  pub count : r.count ≡ length tabs
  pub ends : Nine tabs end r.ends
  pub gap : r.gap ≡ first_gap end at tabs
  pub last : r.last ≡ last_start at tabs

-- ---- before the columns are judged

-- the place lies in the input, and the first two steps were taken
pub record Seen (s : List ℕ) (at : ℕ) (x : Extent) (r : Tabs) : Type 0 where
  pub inside : at < length s
  pub found : FindsLine s at (Ok x)
  pub tabs : Keeps (tabs_from at (drop at (take x.end s))) at x.end r

-- ---- the record

-- the line's ending, its start, where its first nine fields end by the tabs, and where its text ends
pub record HasEnds (at end : ℕ) (ending : Ending) (tabs : Tabs) (r : Record) : Type 0 where
  pub ended : r.ending ≡ ending
  pub numbers : record_numbers r ≡ at ∷ tabs.ends ++ end ∷ []
