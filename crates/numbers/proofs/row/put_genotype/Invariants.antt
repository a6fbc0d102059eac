-- `numbers::row::put_genotype` meets its contract: what is left to be put, from allele to allele, is `Going`, and the measure is how many alleles are left. Assumes nothing.
use Rattle.numbers.proofs.RowLaws.{Going}
use Rattle.numbers.proofs.row.put_genotype.Given as goal

abbrev pub invariant-loop-k : goal.invariant-loop-k
invariant-loop-k l = Going l.at l.genotype l.initial.line l.next l.mark l.k-index l.line
