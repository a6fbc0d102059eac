-- `allele::step::read_body` meets its contract: each way out is a case of the definition. Assumes nothing.
use Rattle.std.proofs.Common.{rules}
use Rattle.allele.proofs.StepLaws.{laws}
use Rattle.allele.proofs.step.read_body.Goals as goal

pub returns-then-eq : goal.returns-then-eq
returns-then-eq c = search (rules, laws)

pub overflow_add-result : goal.overflow_add-result
overflow_add-result c = search (rules, laws)

pub returns-in-Ok : goal.returns-in-Ok
returns-in-Ok c = search (rules, laws)

pub returns-in-Err : goal.returns-in-Err
returns-in-Err c = search (rules, laws)
