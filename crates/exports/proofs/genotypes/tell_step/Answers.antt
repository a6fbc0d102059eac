-- Each arm tells what its answer says on paper. Assumes nothing.
use Rattle.std.proofs.Common.{rules}
use Rattle.allele.proofs.CaseLaws.{cases}
use Rattle.exports.proofs.ToldLaws.{arms}
use Rattle.exports.proofs.genotypes.tell_step.Goals as goal

pub returns-in-Err-Beyond : goal.returns-in-Err-Beyond
returns-in-Err-Beyond c = search (rules, arms, cases)

pub returns-in-Err-Nothing : goal.returns-in-Err-Nothing
returns-in-Err-Nothing c = search (rules, arms, cases)

pub returns-in-Err-Empty : goal.returns-in-Err-Empty
returns-in-Err-Empty c = search (rules, arms, cases)

pub returns-in-Err-Bad : goal.returns-in-Err-Bad
returns-in-Err-Bad c = search (rules, arms, cases)
