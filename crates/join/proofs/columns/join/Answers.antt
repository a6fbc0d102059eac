-- `join::columns::join` meets its contract: where the answer is done, the columns and the ending behind them fit; no other answer writes. Assumes nothing.
use Rattle.std.proofs.Common.{rules}
use Rattle.std.proofs.lemmas.Result.{err_from_is_err_and}
use mathlib.Core.Path.{refl}
use Rattle.join.proofs.JoinLaws.{join_fits, join_laws}
use Rattle.join.proofs.columns.join.Goals as goal

pub returns-then-at-out : goal.returns-then-at-out
returns-then-at-out c = search (rules, join_laws)

pub returns-in_err-n : goal.returns-in_err-n
returns-in_err-n c =
    let p = err_from_is_err_and c.from_residual.result c.from_residual.ensures.1 in
    rw (p.1, p.2) (search (rules, join_laws, c.in_err-n.ensures))

pub put_columns-requires-clause-text_value : goal.put_columns-requires-clause-text_value
put_columns-requires-clause-text_value c = search (rules, join_laws, c.in_ok-n.was)

pub put_columns-requires-clause-ends_nonzero : goal.put_columns-requires-clause-ends_nonzero
put_columns-requires-clause-ends_nonzero c = search (rules, join_laws, c.in_ok-n.was)

pub put_columns-requires-clause-ends_in_bounds : goal.put_columns-requires-clause-ends_in_bounds
put_columns-requires-clause-ends_in_bounds c = search (rules, join_laws, c.in_ok-n.was)

pub overflow_add-end : goal.overflow_add-end
overflow_add-end c = search (rules, join_laws, c.in_ok-n.ensures)

pub overflow_sub-end : goal.overflow_sub-end
overflow_sub-end c = search (rules, join_laws, c.in_ok-n.ensures)

pub slice_bounds-put_ending-count : goal.slice_bounds-put_ending-count
slice_bounds-put_ending-count c = search (rules, join_laws, c.in_ok-n.ensures)

pub slice_bounds-put_ending-start : goal.slice_bounds-put_ending-start
slice_bounds-put_ending-start c = search (rules, join_laws, c.in_ok-n.ensures)

pub put_ending-requires : goal.put_ending-requires
put_ending-requires c =
    join_fits _ _ _ _ _ _ c.if-at-out.false c.in_ok-n.ensures refl c.size.ensures c.put_columns.ensures

pub returns : goal.returns
returns c = search (rules, join_laws, c.in_ok-n.ensures)
