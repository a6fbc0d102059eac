-- That the promise of each public function of this crate determines the outcome. Assumes nothing.
use Rattle.std.specs.Prelude.{ℕ, List}
use Rattle.text.specs.Outcome.{OneAnswer, OneOutcome}
use Rattle.allele.specs.declared.allele.Allele.{Allele}
use Rattle.own.specs.Read.{ReadsOwn, ReadsOwnChecked}
use Rattle.own.specs.Write.{WritesOwn}

pub record Determined : Type 0 where
  pub read_own : (t : List ℕ) (row : List Allele) (from : ℕ) → OneAnswer (ReadsOwn t row from)
  pub read_own_checked : (t alt : List ℕ) (row : List Allele) (from : ℕ) → OneAnswer (ReadsOwnChecked t alt row from)
  pub write_own : (row : List Allele) (from major minor : ℕ) (out : List ℕ) (at : ℕ) → OneOutcome (WritesOwn row from major minor out at)
