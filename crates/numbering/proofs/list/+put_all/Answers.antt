-- The blocks of the alleles passed are written, and the next block fits behind them. Assumes nothing.
use Rattle.std.proofs.Common.{rules}
use Rattle.numbering.proofs.ListLaws.{go_turn, laws}
use Rattle.numbering.proofs.list.+put_all.Goals as goal

pub loop-a-init : goal.loop-a-init
loop-a-init t c = search (rules, laws)

pub put_all-next-requires : goal.put_all-next-requires
put_all-next-requires t c = (search rules, (search rules, search (rules, laws)))

pub loop-a-preserved : goal.loop-a-preserved
loop-a-preserved t c =
    go_turn c.loop-a.invariant c.requires.ploidy_nonzero c.requires.block_fits c.loop-a-test.true c.put_all-next.ensures
