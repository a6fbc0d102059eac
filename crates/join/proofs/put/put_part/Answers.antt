-- `join::put::put_part` meets its contract: of sixteen bytes the first are the column, and the others are too many; a copy has none of these. Assumes nothing.
use Rattle.join.proofs.PutLaws.{part_laws}
use Rattle.std.proofs.Common.{rules}
use Rattle.join.proofs.put.put_part.Goals as goal

pub returns-then-is_short : goal.returns-then-is_short
returns-then-is_short c = search (rules, part_laws)

pub returns-else-is_short : goal.returns-else-is_short
returns-else-is_short c = search (rules, part_laws)
