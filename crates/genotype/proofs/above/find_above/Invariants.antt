-- `genotype::above::find_above` meets its contract: the first above the count from index k on is the first of all. Assumes nothing.
use Prim.Native.Nat.{◌-◌}
use lib.ListN.{length}
use Rattle.genotype.proofs.AboveLaws.{Finding}
use Rattle.genotype.proofs.above.find_above.Given as goal

abbrev pub invariant-loop-allele : goal.invariant-loop-allele
invariant-loop-allele l = Finding l.text l.count l.at l.k

abbrev pub decreases-loop-allele : goal.decreases-loop-allele
decreases-loop-allele l = length l.text - l.at
