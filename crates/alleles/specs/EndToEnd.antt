-- What is asked of a row that was written and then read (docs/RULES.md, "Genotypes"). Assumes nothing.
use Rattle.std.specs.Prelude.{ℕ, ◌≤◌, ◌≡◌, List, [], ◌∷◌, length, take, drop, Result}
use Rattle.text.specs.Answer.{says}
use Rattle.text.specs.Over.{over}
use Rattle.genotype.specs.Paper.{Read, read_paper}
use Rattle.allele.specs.declared.allele.Allele.{Allele}
use Rattle.spelling.specs.Paper.{write_paper}
use Rattle.spelling.specs.declared.write.WriteError.{WriteError}
use Rattle.alleles.specs.Read.{ReadsRow}
use Rattle.alleles.specs.Write.{WritesAlleles}

-- what `write_alleles` wrote, answering 0 and k, `read_alleles` reads back into any row that is long enough: the same records
unfoldable pub ReadsBack : Type 0
ReadsBack = (as' : List Allele) (major minor : ℕ) (out : List ℕ) (at k : ℕ) (w : Result ℕ WriteError) (out' : List ℕ) → WritesAlleles as' major minor out at w out'
    → write_paper w ≡ says 0 (k ∷ []) → (row : List Allele) (r : Read) (row' : List Allele) → length as' ≤ length row → ReadsRow (take k (drop at out')) row r row'
    → (read_paper r ≡ says 0 (length as' ∷ [])) × (row' ≡ over as' row)
