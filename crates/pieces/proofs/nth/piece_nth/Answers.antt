-- `pieces::nth::piece_nth` meets its contract: piece `left` of those from `at` on is the piece asked for. Assumes nothing.
use Rattle.std.proofs.Common.{rules}
use Rattle.pieces.proofs.NthLaws.{laws}
use Rattle.pieces.proofs.nth.piece_nth.Goals as goal

pub loop-range-init : goal.loop-range-init
loop-range-init c = search (rules, laws)

pub returns-then-left-eq0 : goal.returns-then-left-eq0
returns-then-left-eq0 c = search (rules, laws)

pub loop-range-smaller : goal.loop-range-smaller
loop-range-smaller c = search (rules, laws)

pub loop-range-preserved : goal.loop-range-preserved
loop-range-preserved c = search (rules, laws)

pub returns-then-left-eq0-2 : goal.returns-then-left-eq0-2
returns-then-left-eq0-2 c = search (rules, laws)

pub returns-in-Ok-Last : goal.returns-in-Ok-Last
returns-in-Ok-Last c = search (rules, laws)

pub returns-in-Err : goal.returns-in-Err
returns-in-Err c = search (rules, laws)
