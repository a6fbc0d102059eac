-- `line::read::column_end` meets its contract: neither a tab nor an LF stands before i; past 32 bytes the far search tells. Assumes nothing.
use Rattle.line.specs.Inner.{Clear}
use Rattle.line.proofs.read.column_end.Given as goal

abbrev pub invariant-loop-i : goal.invariant-loop-i
invariant-loop-i l = Clear l.s l.from l.i
