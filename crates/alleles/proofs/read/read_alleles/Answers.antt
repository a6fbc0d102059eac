-- `alleles::read::read_alleles` meets its contract: only a list that the row holds is laid over it. Assumes nothing.
use Rattle.std.proofs.lemmas.Result.{err_from_is_err_and}
use Rattle.alleles.proofs.FillLaws.{reads_error, reads_within, reads_part, reads_meant, reads_long, reads_done}
use Rattle.alleles.proofs.read.read_alleles.Goals as goal

pub returns-in_err-count : goal.returns-in_err-count
returns-in_err-count c =
    let p = err_from_is_err_and c.from_residual.result c.from_residual.ensures.1 in
    rw (p.1, p.2) (reads_error _ _ c.in_err-count.ensures)

pub slice_bounds-fill-end : goal.slice_bounds-fill-end
slice_bounds-fill-end c = reads_within _ _ _ c.in_ok-count.ensures

pub slice_bounds-fill-end-2 : goal.slice_bounds-fill-end-2
slice_bounds-fill-end-2 c = reads_part _ _ _ c.in_ok-count.ensures

pub fill-requires-clause-meant : goal.fill-requires-clause-meant
fill-requires-clause-meant c = reads_meant _ _ _ c.in_ok-count.ensures

pub fill-requires-clause-as_many : goal.fill-requires-clause-as_many
fill-requires-clause-as_many c = reads_long _ _ _ c.in_ok-count.ensures

pub returns : goal.returns
returns c = reads_done _ _ _ c.in_ok-count.ensures c.fill.ensures
