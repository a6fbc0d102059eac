-- The promise of each public function of this crate, by its name, and that each determines the outcome. Assumes nothing.
use Rattle.std.specs.Prelude.{ℕ, ◌≡◌, List, Result}
use Rattle.text.specs.Outcome.{OneAnswer, OneOutcome}
use Rattle.lists.specs.AlternateBases.{alt_count}
use Rattle.lists.specs.Judge.{entry_answer}
use Rattle.lists.specs.Paper.{verdict_paper}
use Rattle.lists.specs.Write.{WritesListAt}
use Rattle.lists.specs.declared.write.Kind.{Kind}
use Rattle.lists.specs.declared.write.Kind.TheVariants as K
use Rattle.lists.specs.declared.write.Fault.{Fault}

abbrev pub CountsAlts : List ℕ → ℕ → Type 0
CountsAlts column r = r ≡ alt_count column

abbrev pub JudgesEntry : Kind → List ℕ → Result Unit Fault → Type 0
JudgesEntry kind t r = verdict_paper kind r ≡ entry_answer kind t

pub record Determined : Type 0 where
  pub alt_count : (column : List ℕ) → OneAnswer (CountsAlts column)
  pub judge_filter : (t : List ℕ) → OneAnswer (JudgesEntry K.Filters t)
  pub judge_alt : (t : List ℕ) → OneAnswer (JudgesEntry K.Alts t)
  pub write_filters : (t ends out : List ℕ) (at : ℕ) → OneOutcome (WritesListAt K.Filters t ends out at)
  pub write_alts : (t ends out : List ℕ) (at : ℕ) → OneOutcome (WritesListAt K.Alts t ends out at)
