-- 23, then 17, then one block is written: all genotypes, with nothing behind them. Assumes nothing.
use Rattle.std.proofs.Common.{rules}
use Rattle.std.proofs.lemmas.Result.{err_from_is_err_and}
use Rattle.numbering.proofs.ListLaws.{list_none, laws}
use Rattle.numbering.proofs.list.list_all.Goals as goal

pub returns-in_err-shape : goal.returns-in_err-shape
returns-in_err-shape c =
    let p = err_from_is_err_and c.from_residual.result c.from_residual.ensures.1 in
    rw (p.1, p.2) (list_none _ _ _ c.in_err-shape.ensures)

pub overflow_mul-many : goal.overflow_mul-many
overflow_mul-many c = search (rules, laws, c.in_ok-shape.ensures)

pub returns-then-many-ploidy : goal.returns-then-many-ploidy
returns-then-many-ploidy c = search (rules, laws, c.in_ok-shape.ensures)

pub slice_bounds-current-end : goal.slice_bounds-current-end
slice_bounds-current-end c = search (rules, laws, c.in_ok-shape.ensures)

pub slice_bounds-put_all-end : goal.slice_bounds-put_all-end
slice_bounds-put_all-end c = search (rules, laws, c.in_ok-shape.ensures)

pub put_all-requires-clause-ploidy_nonzero : goal.put_all-requires-clause-ploidy_nonzero
put_all-requires-clause-ploidy_nonzero c = search (rules, laws, c.in_ok-shape.ensures)

pub put_all-requires-clause-block_fits : goal.put_all-requires-clause-block_fits
put_all-requires-clause-block_fits c = search (rules, laws, c.in_ok-shape.ensures)

pub returns : goal.returns
returns c = search (rules, laws, c.in_ok-shape.ensures)
