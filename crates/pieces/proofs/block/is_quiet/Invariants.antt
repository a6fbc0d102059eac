-- The invariant says that no flag is set exactly where each byte so far is neither of the two. Assumes nothing.
use Rattle.text.specs.Flags.{Neither}
use Rattle.text.proofs.FlagLaws.{Gathered}
use Rattle.pieces.proofs.block.is_quiet.Given as goal

abbrev pub invariant-loop-i : goal.invariant-loop-i
invariant-loop-i l = Gathered (Neither l.a l.b) l.s l.at l.i 0 l.hits
