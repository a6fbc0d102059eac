-- The promise of each public function of this crate, by its name, and that each determines the outcome. Assumes nothing.
use Rattle.std.specs.Prelude.{ℕ, ◌≡◌, List, Ok}
use Rattle.text.specs.Outcome.{OneAnswer}
use Rattle.record.specs.Place.{numbers_of}
use Rattle.record.specs.Paper.{record_places, record_numbers}
use Rattle.record.specs.declared.place.Record.{Record}
use Rattle.line.specs.Line.{line_at_answer, read_answer}
use Rattle.line.specs.Paper.{Lined, Read, lined_paper, read_paper}

abbrev pub FindsLine : List ℕ → ℕ → Lined → Type 0
FindsLine s at r = lined_paper r ≡ line_at_answer s at

abbrev pub ReadsLine : List ℕ → ℕ → Read → Type 0
ReadsLine s at r = read_paper r ≡ read_answer s at

-- a record that is answered has the numbers of its places
abbrev pub KeepsNumbers : Read → Type 0
KeepsNumbers x = (r : Record) (next : ℕ) → x ≡ Ok (r, next) → record_numbers r ≡ numbers_of (record_places r)

pub record Determined : Type 0 where
  pub line_at : (s : List ℕ) (at : ℕ) → OneAnswer (FindsLine s at)
  pub read_line : (s : List ℕ) (at : ℕ) → OneAnswer (λ (r : Read). ReadsLine s at r × KeepsNumbers r)
