-- `genotype::lay::lay` meets its contract: the alleles from `at` on are still to be judged, and, where the text is a list, to be stored from k on. Assumes nothing.
use Prim.Native.Nat.{◌-◌}
use lib.ListN.{length}
use Rattle.allele.specs.Slices.{SameSlices}
use Rattle.genotype.proofs.LayLaws.{Laying}
use Rattle.genotype.proofs.lay.lay.Given as goal

abbrev pub invariant-loop-at : goal.invariant-loop-at
invariant-loop-at l = SameSlices l.initial.row l.row × Laying l.text l.initial.row.numbers.now l.initial.row.missing.now l.initial.row.phased.now l.row.numbers.now l.row.missing.now l.row.phased.now l.at l.whole.count l.whole.most

abbrev pub decreases-loop-at : goal.decreases-loop-at
decreases-loop-at l = length l.text - l.at
