-- `alleles::read::read_alleles_checked` meets its contract: only a list that the row holds, and ALT has, is laid over it. Assumes nothing.
use Rattle.std.proofs.lemmas.Result.{err_from_is_err_and}
use Rattle.alleles.proofs.FillLaws.{checks_error, checks_within, checks_part, checks_meant, checks_long, checks_done}
use Rattle.alleles.proofs.read.read_alleles_checked.Goals as goal

pub returns-in_err-known : goal.returns-in_err-known
returns-in_err-known c =
    let p = err_from_is_err_and c.from_residual.result c.from_residual.ensures.1 in
    rw (p.1, p.2) (checks_error _ _ _ c.in_err-known.ensures)

pub slice_bounds-fill-end : goal.slice_bounds-fill-end
slice_bounds-fill-end c = checks_within _ _ _ _ c.in_ok-known.ensures

pub slice_bounds-fill-end-2 : goal.slice_bounds-fill-end-2
slice_bounds-fill-end-2 c = checks_part _ _ _ _ c.in_ok-known.ensures

pub fill-requires-clause-meant : goal.fill-requires-clause-meant
fill-requires-clause-meant c = checks_meant _ _ _ _ c.in_ok-known.ensures

pub fill-requires-clause-as_many : goal.fill-requires-clause-as_many
fill-requires-clause-as_many c = checks_long _ _ _ _ c.in_ok-known.ensures

pub returns : goal.returns
returns c = checks_done _ _ _ _ c.in_ok-known.ensures c.fill.ensures
