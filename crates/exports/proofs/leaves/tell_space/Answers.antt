-- Each arm tells what its answer says on paper. Assumes nothing.
use Rattle.std.proofs.Common.{rules}
use Rattle.exports.proofs.ToldLaws.{arms, space_found}
use Rattle.text.proofs.CaseLaws.{cases}
use Rattle.exports.proofs.leaves.tell_space.Goals as goal

pub returns-in-Ok : goal.returns-in-Ok
returns-in-Ok c = search (rules, arms, space_found, cases)

pub returns-in-Err : goal.returns-in-Err
returns-in-Err c = search (rules, arms, space_found, cases)
