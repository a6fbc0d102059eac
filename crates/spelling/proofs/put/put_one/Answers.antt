-- `spelling::put::put_one` meets its contract: by the plan, and by what `put_allele` ensures. Assumes nothing.
use Rattle.spelling.proofs.PutLaws.{one_bare, one_marked, one_none}
use Rattle.spelling.proofs.put.put_one.Goals as goal

pub returns-in-Ok-Bare : goal.returns-in-Ok-Bare
returns-in-Ok-Bare c = one_bare _ _ _ c.in-Ok-Bare.is (rw c.in-Ok-Bare.is at c.in-Ok-Bare.field-0-is) c.put_allele.ensures

pub returns-in-Ok-Marked : goal.returns-in-Ok-Marked
returns-in-Ok-Marked c = one_marked _ _ _ c.in-Ok-Marked.is (rw c.in-Ok-Marked.is at c.in-Ok-Marked.field-0-is) c.put_allele-in-Ok-Marked.ensures

pub returns-in-Err : goal.returns-in-Err
returns-in-Err c = one_none _ _ _ c.in-Err.is
