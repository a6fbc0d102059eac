-- Each arm tells what its answer says on paper. Assumes nothing.
use Rattle.std.proofs.Common.{rules}
use Rattle.exports.proofs.ToldLaws.{arms}
use Rattle.line.proofs.CaseLaws.{cases}
use Rattle.exports.proofs.lines.tell_read.Goals as goal

pub returns-in-Err-End : goal.returns-in-Err-End
returns-in-Err-End c = search (rules, arms, cases)

pub returns-in-Err-Empty : goal.returns-in-Err-Empty
returns-in-Err-Empty c = search (rules, arms, cases)

pub returns-in-Err-Fed : goal.returns-in-Err-Fed
returns-in-Err-Fed c = search (rules, arms, cases)

pub returns-in-Err-Cut : goal.returns-in-Err-Cut
returns-in-Err-Cut c = search (rules, arms, cases)

pub returns-in-Err-NotUtf8 : goal.returns-in-Err-NotUtf8
returns-in-Err-NotUtf8 c = search (rules, arms, cases)

pub returns-in-Err-Beyond : goal.returns-in-Err-Beyond
returns-in-Err-Beyond c = search (rules, arms, cases)
