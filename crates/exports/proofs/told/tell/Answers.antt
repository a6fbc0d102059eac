-- The values still to put, stored from i + 1 on, give what all of them give stored from 1. Assumes nothing.
use Rattle.std.proofs.Common.{rules}
use Rattle.exports.proofs.TellLaws.{laws}
use Rattle.exports.proofs.told.tell.Goals as goal

pub returns : goal.returns
returns c = search (rules, laws)
