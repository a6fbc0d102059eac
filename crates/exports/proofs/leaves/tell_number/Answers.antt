-- Each arm tells what its answer says on paper. Assumes nothing.
use Rattle.std.proofs.Common.{rules}
use Rattle.decimal.proofs.CaseLaws.{cases}
use Rattle.exports.proofs.ToldLaws.{arms}
use Rattle.exports.proofs.leaves.tell_number.Goals as goal

pub returns-in-Ok : goal.returns-in-Ok
returns-in-Ok c = search (rules, arms, cases)

pub returns-in-Err : goal.returns-in-Err
returns-in-Err c = search (rules, arms, cases)
