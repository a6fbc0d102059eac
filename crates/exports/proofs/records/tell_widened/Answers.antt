-- Each arm tells what its answer says on paper. Assumes nothing.
use Rattle.std.proofs.Common.{rules}
use Rattle.exports.proofs.ToldLaws.{arms}
use Rattle.forms.proofs.CaseLaws.{widened_none}
use Rattle.exports.proofs.records.tell_widened.Goals as goal

pub returns-in-Err : goal.returns-in-Err
returns-in-Err c = search (rules, arms, widened_none)
