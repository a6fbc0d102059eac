-- The promise of each public function of this crate, by its name, and that each determines the outcome. Assumes nothing.
use Rattle.std.specs.Prelude.{ℕ, ◌≡◌, List}
use Rattle.std.specs.Borrow.{Bor}
use Rattle.text.specs.Outcome.{OneAnswer, OnePart}
use Rattle.info.specs.Info.{step_answer, info_count}
use Rattle.info.specs.Find.{find_answer}
use Rattle.info.specs.Value.{PlacesValue, Shows}
use Rattle.info.specs.Paper.{Step, step_paper}
use Rattle.info.specs.Told.{Tells}
use Rattle.info.specs.declared.reader.Reader.{Reader}

abbrev pub TakesStep : List ℕ → ℕ → Step → Type 0
TakesStep t at r = step_paper r ≡ step_answer t at

abbrev pub FindsEntry : List ℕ → List ℕ → Step → Type 0
FindsEntry t key r = step_paper r ≡ find_answer t key

abbrev pub CountsEntries : List ℕ → ℕ → Type 0
CountsEntries t r = r ≡ info_count t

-- a reader of this column, at its start
abbrev pub Opens : Bor (List ℕ) → Reader → Type 0
Opens column r = (r.column ≡ column) × (r.at ≡ 0)

-- one of the same column, at this place
abbrev pub Moves : Reader → ℕ → Reader → Type 0
Moves reader at r = (r.column ≡ reader.column) × (r.at ≡ at)

-- the step at the reader's place
abbrev pub TakesNext : Reader → Step → Type 0
TakesNext reader r = TakesStep reader.column.now reader.at r

pub record Determined : Type 0 where
  pub step_at : (t : List ℕ) (at : ℕ) → OneAnswer (TakesStep t at)
  pub tell : (step : Step) → OneAnswer (Tells (step_paper step))
  pub find : (t key : List ℕ) → OneAnswer (FindsEntry t key)
  pub value_place : (t key : List ℕ) → OneAnswer (PlacesValue t key)
  pub value : (column : Bor (List ℕ)) (key : List ℕ) → OnePart (Shows column key)
  pub count : (t : List ℕ) → OneAnswer (CountsEntries t)
  pub «open» : (column : Bor (List ℕ)) → OneAnswer (Opens column)
  pub moved : (reader : Reader) (at : ℕ) → OneAnswer (Moves reader at)
  pub next : (reader : Reader) → OneAnswer (TakesNext reader)
  pub step_from : (t : List ℕ) (at : ℕ) → OneAnswer (TakesStep t at)
