-- `numbers::print::print_all` is safe and ends: no more than 65,536 bytes are gathered, and the measure falls with each line put and with each write. Assumes nothing.
use Prim.Native.Nat.{◌+◌, ◌-◌, ◌*◌, ◌≤◌}
use mathlib.Core.Path.{◌≡◌}
use lib.ListN.{length}
use Rattle.numbers.proofs.print.print_all.Given as goal

abbrev pub invariant-loop-number : goal.invariant-loop-number
invariant-loop-number g l = (length l.out ≡ 65536) × (l.held ≤ 65536)

abbrev pub decreases-loop-number : goal.decreases-loop-number
decreases-loop-number g l = (l.count - l.number) * 65537 + l.held
