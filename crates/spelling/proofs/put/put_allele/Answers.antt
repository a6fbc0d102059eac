-- `spelling::put::put_allele` meets its contract: what is written past the mark says whether it fits, and only then is the mark stored. Assumes nothing.
use Rattle.std.proofs.Common.{rules}
use Rattle.spelling.proofs.PutLaws.{laws}
use Rattle.spelling.proofs.put.put_allele.Goals as goal

pub returns-then-at-out : goal.returns-then-at-out
returns-then-at-out c = search (rules, laws)

pub returns-in_default : goal.returns-in_default
returns-in_default c = search (rules, laws)

pub overflow_add-result : goal.overflow_add-result
overflow_add-result c = search (rules, laws)

pub returns-then-bare : goal.returns-then-bare
returns-then-bare c = search (rules, laws)

pub returns-then-at-out-2 : goal.returns-then-at-out-2
returns-then-at-out-2 c = search (rules, laws)

pub returns-in_default-put_body : goal.returns-in_default-put_body
returns-in_default-put_body c = search (rules, laws)

pub overflow_add-result-2 : goal.overflow_add-result-2
overflow_add-result-2 c = search (rules, laws)

pub returns : goal.returns
returns c = search (rules, laws)
