-- `text::space::find_space` meets its contract: the answer for what is left from i on is the answer for the whole. Assumes nothing.
use Rattle.std.proofs.Common.{rules}
use Rattle.text.proofs.SpaceLaws.{laws}
use Rattle.text.proofs.space.find_space.Goals as goal

pub returns-then-n-eq0 : goal.returns-then-n-eq0
returns-then-n-eq0 c = search (rules, laws)

pub returns-in_err-check_utf8 : goal.returns-in_err-check_utf8
returns-in_err-check_utf8 c = search (rules, laws)

pub returns-then-is_space : goal.returns-then-is_space
returns-then-is_space c = search (rules, laws)

pub loop-i-preserved : goal.loop-i-preserved
loop-i-preserved c = search (rules, laws)

pub returns : goal.returns
returns c = search (rules, laws)
