-- `text::utf8::check_utf8` meets its contract: what is left from i on is UTF-8 exactly when the whole is. Assumes nothing.
use Rattle.std.proofs.Common.{rules}
use Rattle.text.proofs.RunLaws.{laws}
use Rattle.text.proofs.utf8.check_utf8.Goals as goal

pub returns-then-n-eq0 : goal.returns-then-n-eq0
returns-then-n-eq0 c = search (rules, laws)

pub loop-i-preserved : goal.loop-i-preserved
loop-i-preserved c = search (rules, laws)

pub returns : goal.returns
returns c = search (rules, laws)
