-- `numbers::row::put_row` meets its contract: the genotype that was written makes the line, which is short enough, and is copied where it has room. Assumes nothing.
use Rattle.std.proofs.Common.{rules}
use Rattle.std.proofs.lemmas.Result.{err_from_is_err_and}
use Rattle.numbers.proofs.RowLaws.{laws}
use Rattle.numbers.proofs.row.put_row.Goals as goal

pub returns-then-at-out : goal.returns-then-at-out
returns-then-at-out c = search (rules, laws)

pub returns-in_default : goal.returns-in_default
returns-in_default c = search (rules, laws)

pub slice_bounds-genotype-end : goal.slice_bounds-genotype-end
slice_bounds-genotype-end c = search (rules, laws)

pub slice_bounds-put_line-end : goal.slice_bounds-put_line-end
slice_bounds-put_line-end c = search (rules, laws)

pub put_line-len-requires : goal.put_line-len-requires
put_line-len-requires c = search (rules, laws)

pub returns-in_err-copy : goal.returns-in_err-copy
returns-in_err-copy c =
    let p = err_from_is_err_and c.from_residual.result c.from_residual.ensures.1 in
    rw (p.1, p.2) (search (rules, laws, c.in_err-copy.ensures))

pub returns : goal.returns
returns c = search (rules, laws, c.in_ok-copy.ensures)
