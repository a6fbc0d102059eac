-- Each arm is the number that its answer has on paper. Assumes nothing.
use Rattle.std.proofs.Common.{rules}
use Rattle.exports.proofs.NumberLaws.{number_is, number_by}
use Rattle.lists.proofs.CaseLaws.{cases}
use Rattle.exports.proofs.columns.verdict_number.Goals as goal

pub returns-in-Ok : goal.returns-in-Ok
returns-in-Ok c = search (rules, number_is, number_by, cases)

pub returns-in-Err-NotUtf8 : goal.returns-in-Err-NotUtf8
returns-in-Err-NotUtf8 c = search (rules, number_is, number_by, cases)

pub returns-in-Err-Invalid : goal.returns-in-Err-Invalid
returns-in-Err-Invalid c = search (rules, number_is, number_by, cases)
