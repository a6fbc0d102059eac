-- The invariant says that the first b from i on is the first from `from` on; the lowest mark of a word is its first b. Assumes nothing.
use Prim.Native.Nat.{◌-◌}
use Rattle.words.proofs.FindLaws.{Nearing}
use Rattle.words.proofs.word.find_byte.Given as goal

abbrev pub invariant-loop-bytes : goal.invariant-loop-bytes
invariant-loop-bytes l = Nearing l.b l.s l.from l.near l.i

abbrev pub decreases-loop-bytes : goal.decreases-loop-bytes
decreases-loop-bytes l = l.near - l.i
