-- `genotype::read::read_list` meets its contract: the list is kept while it is judged, and then fills the slices. Assumes nothing.
use Rattle.std.proofs.Common.{rules}
use Rattle.std.proofs.lemmas.Result.{err_from_is_err_and}
use Rattle.genotype.proofs.ReadLaws.{keeping}
use Rattle.genotype.proofs.read.read_list.Goals as goal

pub returns-in_err-whole-clause-reads : goal.returns-in_err-whole-clause-reads
returns-in_err-whole-clause-reads c =
    let p = err_from_is_err_and c.from_residual.result c.from_residual.ensures.1 in
    rw (p.1, p.2) (search (rules, keeping, c.in_err-whole.was))

pub returns-in_err-count-clause-reads : goal.returns-in_err-count-clause-reads
returns-in_err-count-clause-reads c =
    let p = err_from_is_err_and c.from_residual-in_err-count.result c.from_residual-in_err-count.ensures.1 in
    rw (p.1, p.2) (search (rules, keeping, c.in_ok-whole.was, c.in_err-count.was))

pub fill-requires-clause-kept : goal.fill-requires-clause-kept
fill-requires-clause-kept c = search (rules, keeping)

pub fill-requires-clause-fillable : goal.fill-requires-clause-fillable
fill-requires-clause-fillable c = search (rules, keeping, c.in_ok-whole.was, c.in_ok-count.was)

pub returns-clause-reads : goal.returns-clause-reads
returns-clause-reads c = search (rules, keeping, c.in_ok-whole.was, c.in_ok-count.was)
