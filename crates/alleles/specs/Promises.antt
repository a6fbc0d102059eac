-- That the promise of each public function of this crate determines the outcome. Assumes nothing.
use Rattle.std.specs.Prelude.{ℕ, List}
use Rattle.text.specs.Outcome.{OneOutcome}
use Rattle.allele.specs.declared.allele.Allele.{Allele}
use Rattle.alleles.specs.Read.{ReadsRow, ReadsRowChecked}
use Rattle.alleles.specs.Write.{WritesAlleles}

pub record Determined : Type 0 where
  pub read_alleles : (t : List ℕ) (row : List Allele) → OneOutcome (ReadsRow t row)
  pub read_alleles_checked : (t alt : List ℕ) (row : List Allele) → OneOutcome (ReadsRowChecked t alt row)
  pub write_alleles : (row : List Allele) (major minor : ℕ) (out : List ℕ) (at : ℕ) → OneOutcome (WritesAlleles row major minor out at)
