-- The values still to put, stored from i + 1 on, give what all of them give stored from 1. Assumes nothing.
use Rattle.exports.proofs.TellLaws.{Putting}
use Rattle.exports.proofs.told.tell.Given as goal

abbrev pub invariant-loop-i : goal.invariant-loop-i
invariant-loop-i l = Putting l.vs l.initial.values l.values l.i
