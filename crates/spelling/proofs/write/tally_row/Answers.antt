-- `spelling::write::tally_row` meets its contract: the tally so far, and the alleles still to come, give the tally of all of them. Assumes nothing.
use Rattle.std.proofs.Common.{arith}
use lib.ListN.{drop_of_length-le}
use Rattle.spelling.specs.Row.{list_of}
use Rattle.spelling.proofs.RowLaws.{at_within, tally_first, tally_turn, tally_past}
use Rattle.spelling.proofs.write.tally_row.Goals as goal

pub loop-k-init : goal.loop-k-init
loop-k-init c = tally_first c.new-tally.ensures

pub loop-k-preserved : goal.loop-k-preserved
loop-k-preserved c = tally_turn c.loop-k.invariant (at_within (list_of c.args.row) (omega arith) c.at.ensures) c.add.ensures

pub returns : goal.returns
returns c = tally_past c.loop-k.invariant (drop_of_length-le (list_of c.args.row) {i = c.loop-k.k} (omega arith))
