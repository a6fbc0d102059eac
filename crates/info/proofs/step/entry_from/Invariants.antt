-- The invariant says that up to the place the key holds neither `=` nor `;`. Assumes nothing.
use Rattle.info.specs.Inner.{Reading}
use Rattle.info.proofs.step.entry_from.Given as goal

abbrev pub invariant-loop-i : goal.invariant-loop-i
invariant-loop-i l = Reading l.column l.at l.i
