-- The promise of each public function of this crate, by its name, and that each determines the outcome. Assumes nothing.
use Rattle.std.specs.Prelude.{ℕ, ◌≡◌, Bool, List, Result}
use Rattle.text.specs.Outcome.{OneAnswer, OneOutcome}
use Rattle.text.specs.Same.{same}
use Rattle.text.specs.Paper.{utf8_paper, space_paper}
use Rattle.text.specs.Over.{Writes}
use Rattle.text.specs.Utf8.{utf8_answer}
use Rattle.text.specs.Space.{space_answer}
use Rattle.text.specs.declared.utf8.NotUtf8.{NotUtf8}

abbrev pub ChecksUtf8 : List ℕ → Result Unit NotUtf8 → Type 0
ChecksUtf8 s r = utf8_paper r ≡ utf8_answer s

abbrev pub FindsSpace : List ℕ → Result Bool NotUtf8 → Type 0
FindsSpace s r = space_paper r ≡ space_answer s

abbrev pub Compares : List ℕ → List ℕ → Bool → Type 0
Compares s t r = r ≡ same s t

pub record Determined : Type 0 where
  pub copy : (vs l : List ℕ) → OneOutcome (Writes vs l)
  pub check_utf8 : (s : List ℕ) → OneAnswer (ChecksUtf8 s)
  pub find_space : (s : List ℕ) → OneAnswer (FindsSpace s)
  pub same_bytes : (s t : List ℕ) → OneAnswer (Compares s t)
