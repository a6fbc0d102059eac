-- Each arm tells what its answer says on paper. Assumes nothing.
use Rattle.std.proofs.Common.{rules}
use Rattle.exports.proofs.ToldLaws.{arms}
use Rattle.numbering.proofs.CaseLaws.{cases}
use Rattle.exports.proofs.numbers.tell_filled.Goals as goal

pub returns-in-Ok : goal.returns-in-Ok
returns-in-Ok c = search (rules, arms, cases)

pub returns-in-Err-NoGenotype : goal.returns-in-Err-NoGenotype
returns-in-Err-NoGenotype c = search (rules, arms, cases)

pub returns-in-Err-Short : goal.returns-in-Err-Short
returns-in-Err-Short c = search (rules, arms, cases)
