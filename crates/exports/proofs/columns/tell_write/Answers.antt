-- Each arm tells what its answer says on paper. Assumes nothing.
use Rattle.std.proofs.Common.{rules}
use Rattle.exports.proofs.ToldLaws.{arms}
use Rattle.lists.proofs.CaseLaws.{cases}
use Rattle.exports.proofs.columns.tell_write.Goals as goal

pub returns-in-Ok : goal.returns-in-Ok
returns-in-Ok c = search (rules, arms, cases)

pub returns-in-Err-NotUtf8 : goal.returns-in-Err-NotUtf8
returns-in-Err-NotUtf8 c = search (rules, arms, cases)

pub returns-in-Err-Beyond : goal.returns-in-Err-Beyond
returns-in-Err-Beyond c = search (rules, arms, cases)

pub returns-in-Err-Invalid : goal.returns-in-Err-Invalid
returns-in-Err-Invalid c = search (rules, arms, cases)

pub returns-in-Err-Wrong : goal.returns-in-Err-Wrong
returns-in-Err-Wrong c = search (rules, arms, cases)

pub returns-in-Err-Short : goal.returns-in-Err-Short
returns-in-Err-Short c = search (rules, arms, cases)
