-- Each arm tells what its answer says on paper. Assumes nothing.
use Rattle.std.proofs.Common.{rules}
use Rattle.exports.proofs.ToldLaws.{arms}
use Rattle.samples.proofs.CaseLaws.{cases}
use Rattle.exports.proofs.sampling.tell_key.Goals as goal

pub returns-in-Some : goal.returns-in-Some
returns-in-Some c = search (rules, arms, cases)

pub returns-in-None : goal.returns-in-None
returns-in-None c = search (rules, arms, cases)
