-- `text::copy::copy` meets its contract: the bytes still to copy, stored from i on, give what all of them give stored from 0. Assumes nothing.
use Rattle.std.proofs.Common.{rules}
use Rattle.text.proofs.CopyLaws.{laws}
use Rattle.text.proofs.copy.copy.Goals as goal

pub returns-then-from-out : goal.returns-then-from-out
returns-then-from-out c = search (rules, laws)

pub loop-i-preserved : goal.loop-i-preserved
loop-i-preserved c = search (rules, laws)

pub returns : goal.returns
returns c = search (rules, laws)
