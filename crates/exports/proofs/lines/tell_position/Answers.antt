-- Each arm tells what its answer says on paper. Assumes nothing.
use Rattle.std.proofs.Common.{rules}
use Rattle.exports.proofs.ToldLaws.{arms}
use Rattle.fields.proofs.CaseLaws.{cases}
use Rattle.exports.proofs.lines.tell_position.Goals as goal

pub returns-in-Ok-Some : goal.returns-in-Ok-Some
returns-in-Ok-Some c = search (rules, arms, cases)

pub returns-in-Ok-None : goal.returns-in-Ok-None
returns-in-Ok-None c = search (rules, arms, cases)

pub returns-in-Err : goal.returns-in-Err
returns-in-Err c = search (rules, arms, cases)
