-- `text::utf8::chars_size` meets its contract: the characters passed so far leave as much to be judged as there was. Assumes nothing.
use Prim.Native.Nat.{◌+◌, ◌-◌}
use Rattle.text.specs.Inner.{Passes}
use Rattle.text.proofs.utf8.chars_size.Given as goal

abbrev pub invariant-loop-n : goal.invariant-loop-n
invariant-loop-n l = Passes l.s l.at (l.at + l.n)

abbrev pub decreases-loop-n : goal.decreases-loop-n
decreases-loop-n l = 64 - l.n
