-- Each arm tells what its answer says on paper. Assumes nothing.
use Rattle.std.proofs.Common.{rules}
use Rattle.bcf.proofs.CaseLaws.{cases}
use Rattle.exports.proofs.ToldLaws.{arms}
use Rattle.exports.proofs.vectors.tell_read.Goals as goal

pub returns-in-Ok : goal.returns-in-Ok
returns-in-Ok c = search (rules, arms, cases)

pub returns-in-Err-Unknown : goal.returns-in-Err-Unknown
returns-in-Err-Unknown c = search (rules, arms, cases)

pub returns-in-Err-Lengths : goal.returns-in-Err-Lengths
returns-in-Err-Lengths c = search (rules, arms, cases)

pub returns-in-Err-Bad : goal.returns-in-Err-Bad
returns-in-Err-Bad c = search (rules, arms, cases)

pub returns-in-Err-Short : goal.returns-in-Err-Short
returns-in-Err-Short c = search (rules, arms, cases)
