-- 23, then 17, then the genotype is written. Assumes nothing.
use Rattle.std.proofs.Common.{rules}
use Rattle.std.proofs.lemmas.Result.{err_from_is_err_and}
use Rattle.numbering.proofs.GenotypeLaws.{place_none, laws}
use Rattle.numbering.proofs.genotype.genotype_of.Goals as goal

pub returns-in_err-shape : goal.returns-in_err-shape
returns-in_err-shape c =
    let p = err_from_is_err_and c.from_residual.result c.from_residual.ensures.1 in
    rw (p.1, p.2) (place_none _ _ _ _ c.in_err-shape.ensures)

pub returns-then-number-count : goal.returns-then-number-count
returns-then-number-count c = search (rules, laws, c.in_ok-shape.ensures)

pub returns-then-shape-row : goal.returns-then-shape-row
returns-then-shape-row c = search (rules, laws, c.in_ok-shape.ensures)

pub returns : goal.returns
returns c = search (rules, laws, c.in_ok-shape.ensures)
