-- `line::read::column_end` meets its contract: neither a tab nor an LF stands before i; past 32 bytes the far search tells. Assumes nothing.
use Rattle.std.proofs.Common.{rules}
use Rattle.pieces.proofs.EitherLaws.{near_within}
use Rattle.line.proofs.ReadLaws.{search_past, laws}
use Rattle.line.proofs.read.column_end.Goals as goal

pub bounds-s-i : goal.bounds-s-i
bounds-s-i c = search (rules, near_within)

pub loop-i-preserved : goal.loop-i-preserved
loop-i-preserved c = search (rules, laws, near_within)

pub returns-after-loop-i : goal.returns-after-loop-i
returns-after-loop-i c = search_past c.requires c.near_end-near.ensures c.loop-i.invariant c.loop-i-test.false c.loop-i.auto.i-end c.far_end.result c.far_end.ensures
