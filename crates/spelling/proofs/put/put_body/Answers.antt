-- `spelling::put::put_body` meets its contract: by whether the allele is missing. Assumes nothing.
use Rattle.std.proofs.Common.{rules}
use Rattle.spelling.proofs.PutLaws.{laws}
use Rattle.spelling.proofs.put.put_body.Goals as goal

pub returns-then-a : goal.returns-then-a
returns-then-a c = search (rules, laws)

pub returns-else-a : goal.returns-else-a
returns-else-a c = search (rules, laws)
