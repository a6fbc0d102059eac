-- `bcf::write::code_of` meets its contract: by whether the allele is missing. Assumes nothing.
use Rattle.std.proofs.Common.{rules}
use Rattle.bcf.proofs.WriteLaws.{laws}
use Rattle.bcf.proofs.write.code_of.Goals as goal

pub returns-then-a : goal.returns-then-a
returns-then-a c = search (rules, laws)

pub returns-else-a : goal.returns-else-a
returns-else-a c = search (rules, laws)
