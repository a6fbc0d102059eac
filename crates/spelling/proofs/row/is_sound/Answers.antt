-- `spelling::row::is_sound` meets its contract: by whether the allele is missing. Assumes nothing.
use Rattle.std.proofs.Common.{rules}
use Rattle.spelling.proofs.TallyLaws.{laws}
use Rattle.spelling.proofs.row.is_sound.Goals as goal

pub returns-then-not-a : goal.returns-then-not-a
returns-then-not-a c = search (rules, laws)

pub returns-else-not-a : goal.returns-else-not-a
returns-else-not-a c = search (rules, laws)
