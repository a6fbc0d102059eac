-- `numbers::ask::ask_one` meets its contract: only a text of at most eight alleles is laid into the arrays, and any other has no number. Assumes nothing.
use Rattle.std.proofs.Common.{rules}
use Rattle.numbers.proofs.AskLaws.{ok_some, ok_none, one_other, laws}
use Rattle.numbers.proofs.ask.ask_one.Goals as goal

pub returns-in_err-n : goal.returns-in_err-n
returns-in_err-n c = rw c.from_residual.ensures (one_other _ _ c.read_genotype.ensures (ok_none c.ok.ensures.value c.in_err-n.was).1)

pub slice_bounds-missing-end : goal.slice_bounds-missing-end
slice_bounds-missing-end c = search (rules, laws, ok_some c.ok.ensures.value c.in_ok-n.was)

pub slice_bounds-count_byte-end : goal.slice_bounds-count_byte-end
slice_bounds-count_byte-end c = search (rules, laws, ok_some c.ok.ensures.value c.in_ok-n.was)

pub returns-then-count_byte-gt0 : goal.returns-then-count_byte-gt0
returns-then-count_byte-gt0 c = search (rules, laws, ok_some c.ok.ensures.value c.in_ok-n.was)

pub slice_bounds-numbers-end : goal.slice_bounds-numbers-end
slice_bounds-numbers-end c = search (rules, laws, ok_some c.ok.ensures.value c.in_ok-n.was)

pub slice_bounds-ask_number-end : goal.slice_bounds-ask_number-end
slice_bounds-ask_number-end c = search (rules, laws, ok_some c.ok.ensures.value c.in_ok-n.was)

pub returns : goal.returns
returns c = search (rules, laws, ok_some c.ok.ensures.value c.in_ok-n.was)
