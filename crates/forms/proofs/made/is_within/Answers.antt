-- `forms::made::is_within` meets its contract: what is left of the room decides as the sum does. Assumes nothing.
use Rattle.forms.proofs.MadeLaws.{laws}
use Rattle.std.proofs.Common.{rules}
use Rattle.forms.proofs.made.is_within.Goals as goal

pub overflow_sub-room : goal.overflow_sub-room
overflow_sub-room c = search (rules, laws)

pub returns-then-places-room : goal.returns-then-places-room
returns-then-places-room c = search (rules, laws)

pub returns-else-places-room : goal.returns-else-places-room
returns-else-places-room c = search (rules, laws)
