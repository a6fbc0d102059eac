-- `line::flags::flags64` meets its contract: the flags up to the place that is next are gathered. Assumes nothing.
use Prim.Native.Nat.{◌+◌}
use Rattle.line.specs.Scan.{Gathers}
use Rattle.line.proofs.flags.flags64.Given as goal

abbrev pub invariant-loop-i : goal.invariant-loop-i
invariant-loop-i g l = Gathers (goal.F-post g l.flag) l.at (l.at + l.i) l.h
