-- Each arm tells what its answer says on paper. Assumes nothing.
use Rattle.std.proofs.Common.{rules}
use Rattle.bcf.proofs.CaseLaws.{cases}
use Rattle.exports.proofs.ToldLaws.{arms}
use Rattle.exports.proofs.vectors.tell_write.Goals as goal

pub returns-in-Ok : goal.returns-in-Ok
returns-in-Ok c = search (rules, arms, cases)

pub returns-in-Err-Beyond : goal.returns-in-Err-Beyond
returns-in-Err-Beyond c = search (rules, arms, cases)

pub returns-in-Err-Lengths : goal.returns-in-Err-Lengths
returns-in-Err-Lengths c = search (rules, arms, cases)

pub returns-in-Err-Empty : goal.returns-in-Err-Empty
returns-in-Err-Empty c = search (rules, arms, cases)

pub returns-in-Err-Bad : goal.returns-in-Err-Bad
returns-in-Err-Bad c = search (rules, arms, cases)

pub returns-in-Err-Large : goal.returns-in-Err-Large
returns-in-Err-Large c = search (rules, arms, cases)

pub returns-in-Err-Long : goal.returns-in-Err-Long
returns-in-Err-Long c = search (rules, arms, cases)

pub returns-in-Err-Short : goal.returns-in-Err-Short
returns-in-Err-Short c = search (rules, arms, cases)
