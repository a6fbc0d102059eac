-- The place is the value's where the search finds one, else the empty place at the column's end. Assumes nothing.
use Rattle.std.proofs.Common.{rules}
use Rattle.info.proofs.ValueLaws.{laws}
use Rattle.info.proofs.find.value_place.Goals as goal

pub returns-in-Ok : goal.returns-in-Ok
returns-in-Ok c = search (rules, laws)

pub returns-in-Err : goal.returns-in-Err
returns-in-Err c = search (rules, laws)
