-- `genotype::read::read_genotype` meets its contract: 16, or a pair laid at once, or any other text as a list. Assumes nothing.
use Rattle.genotype.proofs.ReadLaws.{reads_left, laws}
use Rattle.std.proofs.Common.{rules}
use Rattle.genotype.proofs.read.read_genotype.Goals as goal

pub returns-then-is_pair : goal.returns-then-is_pair
returns-then-is_pair c =
    reads_left {n' = c.put_pair.new.row.numbers.now} {m' = c.put_pair.new.row.missing.now} {p' = c.put_pair.new.row.phased.now} (search (rules, laws)) (search rules) (search rules) (search rules)

pub returns-then-not-one_length : goal.returns-then-not-one_length
returns-then-not-one_length c = search (rules, laws)

pub returns : goal.returns
returns c =
    reads_left {n' = c.read_list.new.row.numbers.now} {m' = c.read_list.new.row.missing.now} {p' = c.read_list.new.row.phased.now} (search (rules, laws)) (search rules) (search rules) (search rules)
