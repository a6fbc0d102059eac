-- `genotype::read::read_list_checked` meets its contract: the list is kept while it is judged and checked, and then fills the slices. Assumes nothing.
use Rattle.std.proofs.Common.{rules}
use Rattle.std.proofs.lemmas.Result.{err_from_is_err_and}
use Rattle.genotype.proofs.ReadLaws.{checking}
use Rattle.genotype.proofs.read.read_list_checked.Goals as goal

pub returns-in_err-judged-clause-reads : goal.returns-in_err-judged-clause-reads
returns-in_err-judged-clause-reads c =
    let p = err_from_is_err_and c.from_residual.result c.from_residual.ensures.1 in
    rw (p.1, p.2) (search (rules, checking, c.in_err-judged.was))

pub returns-in_err-count-clause-reads : goal.returns-in_err-count-clause-reads
returns-in_err-count-clause-reads c =
    let p = err_from_is_err_and c.from_residual-in_err-count.result c.from_residual-in_err-count.ensures.1 in
    rw (p.1, p.2) (search (rules, checking, c.in_err-count.was))

pub fill-requires-clause-kept : goal.fill-requires-clause-kept
fill-requires-clause-kept c = search (rules, checking)

pub fill-requires-clause-fillable : goal.fill-requires-clause-fillable
fill-requires-clause-fillable c = search (rules, checking, c.in_ok-count.was)

pub returns-clause-reads : goal.returns-clause-reads
returns-clause-reads c = search (rules, checking, c.in_ok-count.was)
