-- `genotype::read::copy_row` meets its contract: the first i entries lie over what stood, in each of the three. Assumes nothing.
use Prim.Native.Nat.{◌-◌}
use Rattle.allele.specs.Slices.{SameSlices}
use Rattle.genotype.proofs.KeepLaws.{Copying}
use Rattle.genotype.proofs.read.copy_row.Given as goal

abbrev pub invariant-loop-i : goal.invariant-loop-i
invariant-loop-i l = SameSlices l.initial.row l.row × Copying l.n l.kept.numbers.now l.kept.missing.now l.kept.phased.now l.initial.row.numbers.now l.initial.row.missing.now l.initial.row.phased.now l.row.numbers.now l.row.missing.now l.row.phased.now l.i

abbrev pub decreases-loop-i : goal.decreases-loop-i
decreases-loop-i l = l.n - l.i
