-- The promise of each public function of this crate, by its name, and that each determines the outcome. Assumes nothing.
use Rattle.std.specs.Prelude.{ℕ, ◌≡◌, List, length}
use Rattle.text.specs.Outcome.{OneAnswer}
use Rattle.text.specs.declared.range.Range.{Range}
use Rattle.record.specs.Ending.{ending_bytes, ending_by}
use Rattle.record.specs.Place.{range_of}
use Rattle.record.specs.Paper.{ending_of, record_numbers}
use Rattle.record.specs.declared.ending.Ending.{Ending}
use Rattle.record.specs.declared.place.Record.{Record}
use Rattle.record.specs.declared.place.Name.{Name}

abbrev pub SizesEnding : Ending → ℕ → Type 0
SizesEnding ending r = r ≡ length (ending_bytes (ending_of ending))

abbrev pub NamesEnding : ℕ → Ending → Type 0
NamesEnding n r = ending_of r ≡ ending_by n

abbrev pub GivesPlace : Record → Name → Range → Type 0
GivesPlace line name r = r ≡ range_of line name

abbrev pub GivesEnding : Record → Ending → Type 0
GivesEnding line r = r ≡ line.ending

abbrev pub GivesNumbers : Record → List ℕ → Type 0
GivesNumbers line r = r ≡ record_numbers line

abbrev pub MakesRecord : Ending → List ℕ → Record → Type 0
MakesRecord ending numbers r = (r.ending ≡ ending) × (record_numbers r ≡ numbers)

pub record Determined : Type 0 where
  pub size : (ending : Ending) → OneAnswer (SizesEnding ending)
  pub by_size : (n : ℕ) → OneAnswer (NamesEnding n)
  pub place : (line : Record) (name : Name) → OneAnswer (GivesPlace line name)
  pub ending : (line : Record) → OneAnswer (GivesEnding line)
  pub numbers : (line : Record) → OneAnswer (GivesNumbers line)
  pub new : (ending : Ending) (numbers : List ℕ) → OneAnswer (MakesRecord ending numbers)
