-- `bcf::write::put_codes` meets its contract: the codes still to write lie over what stands. Assumes nothing.
use Rattle.std.proofs.Common.{arith}
use lib.ListN.{drop_of_length-le}
use Rattle.spelling.specs.Row.{list_of}
use Rattle.spelling.proofs.RowLaws.{at_within}
use Rattle.bcf.proofs.WriteLaws.{lay_first, lay_room, lay_shifted, lay_turn, lay_past}
use Rattle.bcf.proofs.write.put_codes.Goals as goal

pub loop-k-init : goal.loop-k-init
loop-k-init c = lay_first c.requires.small c.requires.room

pub code_of-requires : goal.code_of-requires
code_of-requires c = lay_shifted c.loop-k.invariant (at_within (list_of c.args.row) (omega arith) c.at.ensures)

pub put_entry-requires : goal.put_entry-requires
put_entry-requires c = lay_room c.loop-k.invariant (omega arith)

pub loop-k-preserved : goal.loop-k-preserved
loop-k-preserved c = lay_turn c.loop-k.invariant (at_within (list_of c.args.row) (omega arith) c.at.ensures) (omega arith) c.code_of.ensures c.put_entry.ensures

pub returns : goal.returns
returns c = lay_past c.loop-k.invariant (drop_of_length-le (list_of c.args.row) {i = c.loop-k.k} (omega arith))
