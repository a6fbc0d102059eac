-- `numbers::ask::ask_number` meets its contract: a number, or none, says on paper what is asked. Assumes nothing.
use Rattle.numbers.proofs.AskLaws.{ok_some, ok_none, number_one, number_not}
use Rattle.numbers.proofs.ask.ask_number.Goals as goal

pub returns-in_err-number : goal.returns-in_err-number
returns-in_err-number c = rw c.from_residual.ensures (number_not _ _ c.number_of.ensures (ok_none c.ok.ensures.value c.in_err-number.was).1)

pub returns : goal.returns
returns c = number_one _ _ c.number_of.ensures (ok_some c.ok.ensures.value c.in_ok-number.was)
