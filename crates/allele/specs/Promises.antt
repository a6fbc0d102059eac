-- The promise of each public function of this crate, by its name, and that each determines the outcome. Assumes nothing.
use Rattle.std.specs.Prelude.{ℕ, ◌≡◌, Bool, List}
use Rattle.text.specs.Outcome.{OneAnswer}
use Rattle.allele.specs.Reading.{is_mark, step_answer}
use Rattle.allele.specs.Slices.{StoresIn}
use Rattle.allele.specs.declared.allele.Allele.{Allele}
use Rattle.allele.specs.declared.row.RowMut.{RowMut}
use Rattle.allele.specs.Paper.{Step, step_paper}

abbrev pub TellsMark : ℕ → Bool → Type 0
TellsMark b r = r ≡ is_mark b

abbrev pub TakesStep : List ℕ → ℕ → Step → Type 0
TakesStep t at r = step_paper r ≡ step_answer t at

-- what is left in a row's slices
abbrev pub OneRow : (RowMut → Type 0) → Type 0
OneRow allows = (row row' : RowMut) → allows row → allows row' → (row.numbers.now ≡ row'.numbers.now) × (row.missing.now ≡ row'.missing.now) × (row.phased.now ≡ row'.phased.now)

pub record Determined : Type 0 where
  pub is_mark : (b : ℕ) → OneAnswer (TellsMark b)
  pub step_at : (t : List ℕ) (at : ℕ) → OneAnswer (TakesStep t at)
  pub store : (a : Allele) (k : ℕ) (row : RowMut) → OneRow (StoresIn a k row)
