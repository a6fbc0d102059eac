-- `line::read::judge` meets its contract: what is left from column k on is judged as the whole, and the tabs before it are kept. Assumes nothing.
use Prim.Native.Nat.{◌+◌, ◌-◌}
use lib.ListN.{length}
use Rattle.line.specs.Inner.{Judging}
use Rattle.line.proofs.read.judge.Given as goal

abbrev pub invariant-columns : goal.invariant-columns
invariant-columns l = Judging l.s l.at l.k l.start l.tabs

abbrev pub decreases-columns : goal.decreases-columns
decreases-columns l = length l.s + 1 - l.start
