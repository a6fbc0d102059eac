-- Each arm tells what its answer says on paper. Assumes nothing.
use Rattle.std.proofs.Common.{rules}
use Rattle.info.proofs.CaseLaws.{cases}
use Rattle.exports.proofs.ToldLaws.{arms}
use Rattle.exports.proofs.infos.tell_entry.Goals as goal

pub returns-in-Absent : goal.returns-in-Absent
returns-in-Absent c = search (rules, arms, cases)

pub returns-in-At : goal.returns-in-At
returns-in-At c = search (rules, arms, cases)
