-- `numbers::ask::asked` meets its contract: by what the first argument reads as, whether the second holds a mark, and what it reads as. Assumes nothing.
use Rattle.std.proofs.Common.{rules}
use Rattle.numbers.proofs.AskLaws.{ok_some, ok_none, asked_none, laws}
use Rattle.numbers.proofs.ask.asked.Goals as goal

pub returns-in_err-n : goal.returns-in_err-n
returns-in_err-n c = rw c.from_residual.ensures (asked_none _ _ c.read_decimal.ensures (ok_none c.ok.ensures.value c.in_err-n.was).1)

pub returns-then-has_mark : goal.returns-then-has_mark
returns-then-has_mark c = search (rules, laws, ok_some c.ok.ensures.value c.in_ok-n.was)

pub returns-in_err-alleles : goal.returns-in_err-alleles
returns-in_err-alleles c =
    rw c.from_residual-in_err-alleles.ensures
    (search (rules, laws, ok_some c.ok.ensures.value c.in_ok-n.was, (ok_none c.ok-2.ensures.value c.in_err-alleles.was).1))

pub returns : goal.returns
returns c = search (rules, laws, ok_some c.ok.ensures.value c.in_ok-n.was, ok_some c.ok-2.ensures.value c.in_ok-alleles.was)
