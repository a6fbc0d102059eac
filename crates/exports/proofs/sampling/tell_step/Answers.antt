-- Each arm tells what its answer says on paper. Assumes nothing.
use Rattle.std.proofs.Common.{rules}
use Rattle.exports.proofs.ToldLaws.{arms}
use Rattle.pieces.proofs.CaseLaws.{cases}
use Rattle.exports.proofs.sampling.tell_step.Goals as goal

pub returns-in-Ok-More : goal.returns-in-Ok-More
returns-in-Ok-More c = search (rules, arms, cases)

pub returns-in-Ok-Last : goal.returns-in-Ok-Last
returns-in-Ok-Last c = search (rules, arms, cases)

pub returns-in-Err-Nothing : goal.returns-in-Err-Nothing
returns-in-Err-Nothing c = search (rules, arms, cases)

pub returns-in-Err-Beyond : goal.returns-in-Err-Beyond
returns-in-Err-Beyond c = search (rules, arms, cases)
