-- Each arm tells what its answer says on paper. Assumes nothing.
use Rattle.std.proofs.Common.{rules}
use Rattle.exports.proofs.ToldLaws.{arms}
use Rattle.numbering.proofs.CaseLaws.{cases}
use Rattle.exports.proofs.numbers.tell_numbered.Goals as goal

pub returns-in-Ok : goal.returns-in-Ok
returns-in-Ok c = search (rules, arms, cases)

pub returns-in-Err : goal.returns-in-Err
returns-in-Err c = search (rules, arms, cases)
