-- Each arm tells what its answer says on paper. Assumes nothing.
use Rattle.std.proofs.Common.{rules}
use Rattle.exports.proofs.ToldLaws.{arms}
use Rattle.spelling.proofs.CaseLaws.{cases}
use Rattle.exports.proofs.genotypes.tell_write.Goals as goal

pub returns-in-Ok : goal.returns-in-Ok
returns-in-Ok c = search (rules, arms, cases)

pub returns-in-Err-Beyond : goal.returns-in-Err-Beyond
returns-in-Err-Beyond c = search (rules, arms, cases)

pub returns-in-Err-Empty : goal.returns-in-Err-Empty
returns-in-Err-Empty c = search (rules, arms, cases)

pub returns-in-Err-Bad : goal.returns-in-Err-Bad
returns-in-Err-Bad c = search (rules, arms, cases)

pub returns-in-Err-Phasing : goal.returns-in-Err-Phasing
returns-in-Err-Phasing c = search (rules, arms, cases)

pub returns-in-Err-Lengths : goal.returns-in-Err-Lengths
returns-in-Err-Lengths c = search (rules, arms, cases)

pub returns-in-Err-Short : goal.returns-in-Err-Short
returns-in-Err-Short c = search (rules, arms, cases)
