-- `spelling::tally::Tally::new` meets its contract: the record is the definition. Assumes nothing.
use Rattle.std.proofs.Common.{rules}
use Rattle.spelling.proofs.TallyLaws.{laws}
use Rattle.spelling.proofs.tally.Tally.new.Goals as goal

pub returns : goal.returns
returns c = search (rules, laws)
