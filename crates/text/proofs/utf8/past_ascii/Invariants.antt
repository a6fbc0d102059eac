-- `text::utf8::past_ascii` meets its contract: what is left from i on is UTF-8 exactly when what is left from `at` on is. Assumes nothing.
use Prim.Native.Nat.{◌-◌}
use lib.ListN.{length}
use Rattle.text.specs.Inner.{Passes}
use Rattle.text.proofs.utf8.past_ascii.Given as goal

abbrev pub invariant-loop-i : goal.invariant-loop-i
invariant-loop-i l = Passes l.s l.at l.i

abbrev pub decreases-loop-i : goal.decreases-loop-i
decreases-loop-i l = length l.s - l.i
