-- What the readers of a row by value answer, and the row that they give back: by the definitions of `genotype`, as for a row that
-- is lent, over the records from a place on. Assumes nothing.
use Rattle.std.specs.Prelude.{ℕ, ◌≡◌, List, ◌++◌, length, take, drop}
use Rattle.genotype.specs.Answers.{text_answer, checked_text, row_read, row_checked}
use Rattle.genotype.specs.Paper.{read_paper}
use Rattle.allele.specs.declared.allele.Allele.{Allele}
use Rattle.own.specs.declared.read.Filled.{Filled}

-- the records before the place stay; none are read into where it lies past the row
pub record ReadsOwn (t : List ℕ) (row : List Allele) (from : ℕ) (r : Filled) : Type 0 where
  pub answer : read_paper r.answer ≡ text_answer t (length (drop from row))
  pub records : r.row ≡ take from row ++ row_read t (drop from row)

pub record ReadsOwnChecked (t alt : List ℕ) (row : List Allele) (from : ℕ) (r : Filled) : Type 0 where
  pub answer : read_paper r.answer ≡ checked_text t alt (length (drop from row))
  pub records : r.row ≡ take from row ++ row_checked t alt (drop from row)
