-- `numbers::row::put_number` meets its contract: the digits are written behind the place of the byte, where there is room. Assumes nothing.
use Rattle.std.proofs.Common.{rules}
use Rattle.numbers.proofs.RowLaws.{laws}
use Rattle.numbers.proofs.row.put_number.Goals as goal

pub overflow_add-result-in-Ok : goal.overflow_add-result-in-Ok
overflow_add-result-in-Ok c = search (rules, laws)

pub returns-in-Ok : goal.returns-in-Ok
returns-in-Ok c = search (rules, laws)

pub returns-in-Err : goal.returns-in-Err
returns-in-Err c = search (rules, laws)
