-- `numbers::row::put_genotype` meets its contract: what is left to be put, from allele to allele, is `Going`, and the measure is how many alleles are left. Assumes nothing.
use Rattle.std.proofs.Common.{rules}
use Rattle.numbers.proofs.RowLaws.{laws}
use Rattle.numbers.proofs.row.put_genotype.Goals as goal

pub put_number-next-requires : goal.put_number-next-requires
put_number-next-requires c = search (rules, laws)

pub loop-k-preserved : goal.loop-k-preserved
loop-k-preserved c = search (rules, laws)

pub returns : goal.returns
returns c = search (rules, laws)
