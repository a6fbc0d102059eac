-- What the writer of a row by value answers, and what it leaves in the output: the list that is written is the records from a
-- place of the row on. Assumes nothing.
use Rattle.std.specs.Prelude.{ℕ, List, drop, Result}
use Rattle.allele.specs.declared.allele.Allele.{Allele}
use Rattle.spelling.specs.declared.write.WriteError.{WriteError}
use Rattle.alleles.specs.Write.{WritesAlleles}

-- none where `from` lies past the row
abbrev pub WritesOwn : List Allele → ℕ → ℕ → ℕ → List ℕ → ℕ → Result ℕ WriteError → List ℕ → Type 0
WritesOwn row from major minor out at r out' = WritesAlleles (drop from row) major minor out at r out'
