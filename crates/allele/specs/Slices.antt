-- A row that is lent as three slices: that they stay the same slices, and an allele stored in them. Assumes nothing.
use Rattle.std.specs.Prelude.{ℕ, ◌≡◌, set}
use Rattle.text.specs.Pick.{one_if}
use Rattle.allele.specs.declared.allele.Allele.{Allele}
use Rattle.allele.specs.declared.row.RowMut.{RowMut}

-- the slices are those that were lent, whatever they hold now
pub record SameSlices (old new : RowMut) : Type 0 where
  pub numbers : new.numbers.ghost_name ≡ old.numbers.ghost_name
  pub missing : new.missing.ghost_name ≡ old.missing.ghost_name
  pub phased : new.phased.ghost_name ≡ old.phased.ghost_name

-- an allele stored at an index, where the row has it
pub record StoresIn (a : Allele) (k : ℕ) (old new : RowMut) : Type 0 where
  pub numbers : new.numbers.now ≡ set old.numbers.now k a.number
  pub missing : new.missing.now ≡ set old.missing.now k (one_if a.missing)
  pub phased : new.phased.now ≡ set old.phased.now k (one_if a.phased)
