-- Each way out is the rule for the value, or the fault, that `read_decimal` ensures; a text of one byte that is worth 0 is `0`. Assumes nothing.
use Rattle.std.proofs.Common.{rules}
use Rattle.std.proofs.lemmas.Result.{err_from_is_err_and}
use Rattle.fields.proofs.PosLaws.{laws}
use Rattle.fields.proofs.pos.read_pos.Goals as goal

pub returns-in_err-n : goal.returns-in_err-n
returns-in_err-n c =
    let p = err_from_is_err_and c.from_residual.result c.from_residual.ensures.1 in
    rw p.1 (search (rules, laws, c.in_err-n.ensures, p.2))

pub returns-then-n-gt0 : goal.returns-then-n-gt0
returns-then-n-gt0 c = search (rules, laws, c.in_ok-n.ensures)

pub returns-then-s-eq1 : goal.returns-then-s-eq1
returns-then-s-eq1 c = search (rules, laws, c.in_ok-n.ensures)

pub returns : goal.returns
returns c = search (rules, laws, c.in_ok-n.ensures)
