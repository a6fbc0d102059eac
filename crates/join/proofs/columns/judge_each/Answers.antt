-- `join::columns::judge_each` meets its contract: each way is a clause of `list_answer`. Assumes nothing.
use Rattle.std.proofs.Common.{rules}
use Rattle.std.proofs.lemmas.Result.{err_from_is_err_and}
use Rattle.join.proofs.JoinLaws.{laws}
use Rattle.join.proofs.columns.judge_each.Goals as goal

pub returns-in_err-judge_ends : goal.returns-in_err-judge_ends
returns-in_err-judge_ends c =
    let p = err_from_is_err_and c.from_residual.result c.from_residual.ensures.1 in
    rw (p.1, p.2) (search (rules, laws, c.in_err-judge_ends.ensures))

pub returns-then-not-is_count : goal.returns-then-not-is_count
returns-then-not-is_count c = search (rules, laws, c.in_ok-judge_ends.ensures)

pub judge_columns-requires-clause-text_value : goal.judge_columns-requires-clause-text_value
judge_columns-requires-clause-text_value c = search (rules, laws, c.in_ok-judge_ends.ensures)

pub judge_columns-requires-clause-ends_nonzero : goal.judge_columns-requires-clause-ends_nonzero
judge_columns-requires-clause-ends_nonzero c = search (rules, laws, c.in_ok-judge_ends.ensures)

pub returns : goal.returns
returns c = search (rules, laws, c.in_ok-judge_ends.ensures)
