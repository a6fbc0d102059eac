-- That the functions over rows of records are the readers and the writer of which demand 3 and the check are proved, and what follows for
-- the texts written (docs/RULES.md, "One list, one spelling"; docs/STATEMENTS.md). Assumes nothing.
use Rattle.std.specs.Prelude.{ℕ, ◌+◌, ◌≤◌, ◌≡◌, ◌↔◌, List, [], ◌∷◌, length, take, drop, Result}
use Rattle.text.specs.Answer.{says}
use Rattle.text.specs.Over.{over_at}
use Rattle.lists.specs.AlternateBases.{alt_count}
use Rattle.genotype.specs.Paper.{Read, read_paper}
use Rattle.genotype.specs.Demands.{reader, checked_reader}
use Rattle.allele.specs.declared.allele.Allele.{Allele}
use Rattle.spelling.specs.Paper.{write_paper}
use Rattle.spelling.specs.Demands.{writer}
use Rattle.spelling.specs.declared.write.WriteError.{WriteError}
use Rattle.alleles.specs.Read.{ReadsRow, ReadsRowChecked}
use Rattle.alleles.specs.Write.{WritesAlleles}

-- `read_alleles` answers and leaves what the reader does
unfoldable pub RowReader : Type 0
RowReader = (t : List ℕ) (row : List Allele) (r : Read) (row' : List Allele) → ReadsRow t row r row'
    → (read_paper r ≡ (reader t row).answer) × (row' ≡ (reader t row).row)

-- `read_alleles_checked` does what the checked reader does, with the count of the ALT column that it is lent
unfoldable pub CheckedRow : Type 0
CheckedRow = (t alt : List ℕ) (row : List Allele) (r : Read) (row' : List Allele) → ReadsRowChecked t alt row r row'
    → (read_paper r ≡ (checked_reader (alt_count alt) t row).answer) × (row' ≡ (checked_reader (alt_count alt) t row).row)

-- `write_alleles` answers and leaves what the writer does
unfoldable pub AllelesWriter : Type 0
AllelesWriter = (as' : List Allele) (major minor : ℕ) (out : List ℕ) (at : ℕ) (r : Result ℕ WriteError) (out' : List ℕ) → WritesAlleles as' major minor out at r out'
    → (write_paper r ≡ (writer major minor as' out at).answer) × (out' ≡ (writer major minor as' out at).output)

-- ---- one list, one spelling

-- `write_alleles`, by its contract, answered 0 and k, and left out'
pub record Wrote (as' : List Allele) (major minor : ℕ) (out : List ℕ) (at k : ℕ) (out' : List ℕ) : Type 0 where
  pub answer : Result ℕ WriteError
  pub writes : WritesAlleles as' major minor out at answer out'
  pub done : write_paper answer ≡ says 0 (k ∷ [])

-- the bytes that it writes are the same exactly where two rows are
unfoldable pub RowsApart : Type 0
RowsApart =
    (as' : List Allele) (major minor : ℕ) (out : List ℕ) (at k : ℕ) (out' : List ℕ) (bs : List Allele) (major₂ minor₂ : ℕ) (out₂ : List ℕ) (at₂ k₂ : ℕ) (out₂' : List ℕ)
    → Wrote as' major minor out at k out' → Wrote bs major₂ minor₂ out₂ at₂ k₂ out₂' → (take k (drop at out') ≡ take k₂ (drop at₂ out₂')) ↔ (as' ≡ bs)

-- what it wrote, read by `read_alleles` into a row that is long enough and written again from there, with room, is the same bytes
unfoldable pub RowsSettle : Type 0
RowsSettle =
    (as' : List Allele) (major minor : ℕ) (out : List ℕ) (at k : ℕ) (out' : List ℕ) → Wrote as' major minor out at k out'
    → (row : List Allele) (r : Read) (row' : List Allele) → length as' ≤ length row → ReadsRow (take k (drop at out')) row r row'
    → (out₂ : List ℕ) (at₂ : ℕ) (w : Result ℕ WriteError) (out₂' : List ℕ) → at₂ + k ≤ length out₂ → WritesAlleles (take (length as') row') major minor out₂ at₂ w out₂'
    → (write_paper w ≡ says 0 (k ∷ [])) × (out₂' ≡ over_at at₂ (take k (drop at out')) out₂)
