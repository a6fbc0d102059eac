-- `lists::write::put_list` meets its contract: `.` is the text of the empty list, and of any other the entries joined. Assumes nothing.
use Rattle.std.proofs.Common.{rules}
use Rattle.std.proofs.lemmas.Result.{err_from_is_err_and}
use Rattle.lists.proofs.WriteLaws.{laws}
use Rattle.lists.proofs.write.put_list.Goals as goal

pub returns-in_err-copy : goal.returns-in_err-copy
returns-in_err-copy c =
    let p = err_from_is_err_and c.from_residual.result c.from_residual.ensures.1 in
    rw (p.1, p.2) (search (rules, laws, c.in_err-copy.ensures))

pub returns-then-is_empty : goal.returns-then-is_empty
returns-then-is_empty c = search (rules, laws, c.in_ok-copy.ensures)

pub returns-in_err-put_joined : goal.returns-in_err-put_joined
returns-in_err-put_joined c =
    let p = err_from_is_err_and c.from_residual-in_err-put_joined.result c.from_residual-in_err-put_joined.ensures.1 in
    rw (p.1, p.2) (search (rules, laws, c.in_err-put_joined.ensures))

pub returns : goal.returns
returns c = search (rules, laws, c.in_ok-put_joined.ensures)
