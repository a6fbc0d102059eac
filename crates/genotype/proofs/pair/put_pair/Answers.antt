-- `genotype::pair::put_pair` meets its contract: the two alleles lie over the row. Assumes nothing.
use Rattle.std.proofs.Common.{rules}
use Rattle.genotype.proofs.KeepLaws.{room_even}
use Rattle.genotype.proofs.PairLaws.{laws}
use Rattle.genotype.proofs.pair.put_pair.Goals as goal

pub returns-clause-laid : goal.returns-clause-laid
returns-clause-laid c = search (rules, laws, room_even c.args.row.now.parallel c.requires.room)
