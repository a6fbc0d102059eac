-- Within the limits the count is answered. Assumes nothing.
use Rattle.std.proofs.Common.{rules}
use Rattle.std.proofs.lemmas.Result.{err_from_is_err_and}
use Rattle.numbering.proofs.LimitLaws.{count_none, laws}
use Rattle.numbering.proofs.counts.count_of.Goals as goal

pub returns-in_err-shape : goal.returns-in_err-shape
returns-in_err-shape c =
    let p = err_from_is_err_and c.from_residual.result c.from_residual.ensures.1 in
    rw p.1 (count_none _ _ c.in_err-shape.ensures)

pub returns : goal.returns
returns c = search (rules, laws, c.in_ok-shape.ensures)
