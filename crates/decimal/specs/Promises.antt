-- The promise of each public function of this crate, by its name, and that each determines the outcome. Assumes nothing.
use Rattle.std.specs.Prelude.{ℕ, ◌≡◌, List, length, Result}
use Rattle.text.specs.Outcome.{OneAnswer, OneOutcome}
use Rattle.text.specs.Over.{Writes}
use Rattle.decimal.specs.Decimal.{digits_answer, decimal_answer}
use Rattle.decimal.specs.Paper.{number_paper}
use Rattle.decimal.specs.Shortest.{shortest}
use Rattle.decimal.specs.declared.read.BadDecimal.{BadDecimal}

abbrev pub ReadsDigits : List ℕ → Result ℕ BadDecimal → Type 0
ReadsDigits s r = number_paper r ≡ digits_answer s

abbrev pub ReadsNumber : List ℕ → Result ℕ BadDecimal → Type 0
ReadsNumber s r = number_paper r ≡ decimal_answer s

abbrev pub CountsDigits : ℕ → ℕ → Type 0
CountsDigits n r = r ≡ length (shortest n)

pub record Determined : Type 0 where
  pub read_digits : (s : List ℕ) → OneAnswer (ReadsDigits s)
  pub read_decimal : (s : List ℕ) → OneAnswer (ReadsNumber s)
  pub decimal_len : (n : ℕ) → OneAnswer (CountsDigits n)
  pub print_decimal : (n : ℕ) (l : List ℕ) → OneOutcome (Writes (shortest n) l)
