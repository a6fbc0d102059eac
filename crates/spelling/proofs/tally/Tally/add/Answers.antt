-- `spelling::tally::Tally::add` meets its contract: each way through is a case of the definition. Assumes nothing.
use Rattle.std.proofs.Common.{rules}
use Rattle.spelling.proofs.TallyLaws.{laws}
use Rattle.spelling.proofs.tally.Tally.add.Goals as goal

pub returns-then-is_some : goal.returns-then-is_some
returns-then-is_some c = search (rules, laws)

pub returns-then-not-is_sound : goal.returns-then-not-is_sound
returns-then-not-is_sound c = search (rules, laws)

pub returns-then-k-eq0 : goal.returns-then-k-eq0
returns-then-k-eq0 c = search (rules, laws)

pub returns : goal.returns
returns c = search (rules, laws)
