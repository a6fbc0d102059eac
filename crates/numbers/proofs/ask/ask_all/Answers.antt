-- `numbers::ask::ask_all` meets its contract: the count is given only within the limits. Assumes nothing.
use Rattle.numbers.proofs.AskLaws.{ok_some, ok_none, all_counted, all_wrong}
use Rattle.numbers.proofs.ask.ask_all.Goals as goal

pub returns-in_err-count : goal.returns-in_err-count
returns-in_err-count c = rw c.from_residual.ensures (all_wrong _ _ c.count_of.ensures (ok_none c.ok.ensures.value c.in_err-count.was).1)

pub returns : goal.returns
returns c = all_counted _ _ c.count_of.ensures (ok_some c.ok.ensures.value c.in_ok-count.was)
