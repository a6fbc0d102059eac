-- `forms::turn::end_at` meets its contract, which is its sum. Assumes nothing.
use Rattle.forms.specs.Form.{end_at}
use Rattle.std.proofs.Common.{rules}
use Rattle.forms.proofs.turn.end_at.Goals as goal

pub overflow_add-result-2 : goal.overflow_add-result-2
unfolding end_at
overflow_add-result-2 c = search rules

pub returns : goal.returns
unfolding end_at
returns c = search rules
