-- The promise of each public function of this crate, by its name, and that each determines the outcome. Assumes nothing.
use Rattle.std.specs.Prelude.{ℕ, ◌≡◌, List, Result}
use Rattle.text.specs.Outcome.{OneAnswer}
use Rattle.text.specs.declared.range.Range.{Range}
use Rattle.record.specs.Paper.{ending_of, record_places}
use Rattle.record.specs.declared.ending.Ending.{Ending}
use Rattle.record.specs.declared.place.Record.{Record}
use Rattle.record.specs.declared.place.Name.{Name}
use Rattle.forms.specs.Form.{widen_answer, narrow_answer}
use Rattle.forms.specs.Paper.{wide_range, wide_places, widened_paper, narrowed_paper}
use Rattle.forms.specs.declared.wide.Wide.{Wide}
use Rattle.forms.specs.declared.turn.NotMade.{NotMade}

abbrev pub GivesPlace : Wide → Name → Range → Type 0
GivesPlace wide name r = r ≡ wide_range wide name

abbrev pub GivesEnding : Wide → Ending → Type 0
GivesEnding wide r = r ≡ wide.ending

abbrev pub GivesPlaces : Wide → List ℕ → Type 0
GivesPlaces wide r = r ≡ wide_places wide

abbrev pub MakesWide : Ending → List ℕ → Wide → Type 0
MakesWide ending places r = (r.ending ≡ ending) × (wide_places r ≡ places)

abbrev pub WidensRecord : Record → Result Wide NotMade → Type 0
WidensRecord line r = widened_paper r ≡ widen_answer (ending_of line.ending) (record_places line)

abbrev pub NarrowsWide : Wide → Result Record NotMade → Type 0
NarrowsWide wide r = narrowed_paper r ≡ narrow_answer (ending_of wide.ending) (wide_places wide)

pub record Determined : Type 0 where
  pub place : (wide : Wide) (name : Name) → OneAnswer (GivesPlace wide name)
  pub ending : (wide : Wide) → OneAnswer (GivesEnding wide)
  pub places : (wide : Wide) → OneAnswer (GivesPlaces wide)
  pub new : (ending : Ending) (places : List ℕ) → OneAnswer (MakesWide ending places)
  pub widen : (line : Record) → OneAnswer (WidensRecord line)
  pub narrow : (wide : Wide) → OneAnswer (NarrowsWide wide)
