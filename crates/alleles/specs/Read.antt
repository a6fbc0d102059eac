-- What the readers answer, and what they leave in the row: by the definitions of `genotype` (docs/RULES.md, "Genotypes").
-- Assumes nothing.
use Rattle.std.specs.Prelude.{ℕ, ◌≡◌, List, length}
use Rattle.genotype.specs.Answers.{text_answer, checked_text, row_read, row_checked}
use Rattle.genotype.specs.Paper.{Read, read_paper}
use Rattle.allele.specs.declared.allele.Allele.{Allele}

pub record ReadsRow (t : List ℕ) (row : List Allele) (r : Read) (row' : List Allele) : Type 0 where
  pub answer : read_paper r ≡ text_answer t (length row)
  pub records : row' ≡ row_read t row

pub record ReadsRowChecked (t alt : List ℕ) (row : List Allele) (r : Read) (row' : List Allele) : Type 0 where
  pub answer : read_paper r ≡ checked_text t alt (length row)
  pub records : row' ≡ row_checked t alt row
