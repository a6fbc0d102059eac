-- The promise of each public function of this crate, by its name, and that each determines the outcome. Assumes nothing.
use Rattle.std.specs.Prelude.{ℕ, ◌≡◌, List, Option, Result}
use Rattle.text.specs.Outcome.{OneAnswer}
use Rattle.text.specs.declared.range.Range.{Range}
use Rattle.record.specs.declared.place.Record.{Record}
use Rattle.record.specs.declared.place.Name.{Name}
use Rattle.fields.specs.Fields.{place_answer, text_answer, field_answer}
use Rattle.fields.specs.Pos.{pos_answer}
use Rattle.fields.specs.Paper.{place_paper, field_paper, position_paper}
use Rattle.fields.specs.declared.field.Beyond.{Beyond}
use Rattle.fields.specs.declared.pos.BadPosition.{BadPosition}

abbrev pub FindsPlace : List ℕ → Range → Result Range Beyond → Type 0
FindsPlace s range r = place_paper r ≡ place_answer s range

abbrev pub FindsText : List ℕ → Name → Range → Result (Option Range) Beyond → Type 0
FindsText s name range r = field_paper r ≡ text_answer s name range

abbrev pub FindsField : List ℕ → Record → Name → Result (Option Range) Beyond → Type 0
FindsField s line name r = field_paper r ≡ field_answer s line name

abbrev pub ReadsPos : List ℕ → Result (Option ℕ) BadPosition → Type 0
ReadsPos s r = position_paper r ≡ pos_answer s

pub record Determined : Type 0 where
  pub place_in : (s : List ℕ) (range : Range) → OneAnswer (FindsPlace s range)
  pub text_in : (s : List ℕ) (name : Name) (range : Range) → OneAnswer (FindsText s name range)
  pub field : (s : List ℕ) (line : Record) (name : Name) → OneAnswer (FindsField s line name)
  pub read_pos : (s : List ℕ) → OneAnswer (ReadsPos s)
