-- Each arm tells what its answer says on paper. Assumes nothing.
use Rattle.std.proofs.Common.{rules}
use Rattle.exports.proofs.ToldLaws.{arms}
use Rattle.info.proofs.CaseLaws.{cases}
use Rattle.exports.proofs.infos.tell_step.Goals as goal

pub returns-in-Err-Beyond : goal.returns-in-Err-Beyond
returns-in-Err-Beyond c = search (rules, arms, cases)

pub returns-in-Err-AfterKey : goal.returns-in-Err-AfterKey
returns-in-Err-AfterKey c = search (rules, arms, cases)

pub returns-in-Err-NoKey : goal.returns-in-Err-NoKey
returns-in-Err-NoKey c = search (rules, arms, cases)

pub returns-in-Err-AfterValue : goal.returns-in-Err-AfterValue
returns-in-Err-AfterValue c = search (rules, arms, cases)

pub returns-in-Err-Nothing : goal.returns-in-Err-Nothing
returns-in-Err-Nothing c = search (rules, arms, cases)
