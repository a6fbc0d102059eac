-- `bcf::write::is_sound` meets its contract: by whether the allele is missing. Assumes nothing.
use Rattle.std.proofs.Common.{rules}
use Rattle.bcf.proofs.WriteLaws.{laws}
use Rattle.bcf.proofs.write.is_sound.Goals as goal

pub returns-then-missing-eq0 : goal.returns-then-missing-eq0
returns-then-missing-eq0 c = search (rules, laws)

pub returns-else-missing-eq0 : goal.returns-else-missing-eq0
returns-else-missing-eq0 c = search (rules, laws)
