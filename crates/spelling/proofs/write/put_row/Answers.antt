-- `spelling::write::put_row` meets its contract: the alleles still to write, laid from the place reached, leave what the whole list leaves. Assumes nothing.
use Rattle.std.proofs.Common.{arith}
use lib.ListN.{drop_of_length-le}
use Rattle.spelling.specs.Row.{list_of}
use Rattle.spelling.proofs.LayLaws.{lay_first, lay_turn, lay_bytes}
use Rattle.spelling.proofs.RowLaws.{at_within}
use Rattle.spelling.proofs.write.put_row.Goals as goal

pub loop-k-init : goal.loop-k-init
loop-k-init c = lay_first c.requires

pub loop-k-preserved : goal.loop-k-preserved
loop-k-preserved c = lay_turn c.loop-k.invariant (at_within (list_of c.args.row) (omega arith) c.at.ensures) c.put_one-at.ensures

pub returns : goal.returns
returns c = lay_bytes c.loop-k.invariant (drop_of_length-le (list_of c.args.row) {i = c.loop-k.k} (omega arith))
