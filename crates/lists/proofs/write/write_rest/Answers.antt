-- `lists::write::write_rest` meets its contract: a list is written where its ends are good and no entry is refused. Assumes nothing.
use Rattle.std.proofs.Common.{rules}
use Rattle.std.proofs.lemmas.Result.{err_from_is_err_and}
use Rattle.lists.proofs.WriteLaws.{laws}
use Rattle.lists.proofs.write.write_rest.Goals as goal

pub returns-in_err-judge_ends : goal.returns-in_err-judge_ends
returns-in_err-judge_ends c =
    let p = err_from_is_err_and c.from_residual.result c.from_residual.ensures.1 in
    rw (p.1, p.2) (search (rules, laws, c.in_err-judge_ends.ensures))

pub judge_list-requires : goal.judge_list-requires
judge_list-requires c = search (rules, laws, c.in_ok-judge_ends.ensures)

pub returns-in_err-judge_list : goal.returns-in_err-judge_list
returns-in_err-judge_list c =
    let p = err_from_is_err_and c.from_residual-in_err-judge_list.result c.from_residual-in_err-judge_list.ensures.1 in
    rw (p.1, p.2) (search (rules, laws, c.in_ok-judge_ends.ensures, c.in_err-judge_list.ensures))

pub put_list-requires : goal.put_list-requires
put_list-requires c = search (rules, laws, c.in_ok-judge_ends.ensures)

pub returns : goal.returns
returns c = search (rules, laws, c.in_ok-judge_ends.ensures, c.in_ok-judge_list.ensures)
