-- `numbers::row::put_line` meets its contract: the number, the alleles and the LF, one behind the other. Assumes nothing.
use Rattle.std.proofs.Common.{rules}
use Rattle.numbers.proofs.RowLaws.{laws}
use Rattle.numbers.proofs.row.put_line.Goals as goal

pub returns-in_default : goal.returns-in_default
returns-in_default c = search (rules, laws)

pub put_genotype-end-requires : goal.put_genotype-end-requires
put_genotype-end-requires c = search (rules, laws)

pub bounds-line-end : goal.bounds-line-end
bounds-line-end c = search (rules, laws)

pub returns : goal.returns
returns c = search (rules, laws)
