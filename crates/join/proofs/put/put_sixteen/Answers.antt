-- `join::put::put_sixteen` meets its contract: the block holds the bytes, and then lies over the output. Assumes nothing.
use Rattle.join.proofs.PutLaws.{part_laws}
use Rattle.std.proofs.Common.{rules}
use Rattle.join.proofs.put.put_sixteen.Goals as goal

pub returns : goal.returns
returns c = search (rules, part_laws)
