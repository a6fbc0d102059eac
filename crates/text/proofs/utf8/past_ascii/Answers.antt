-- `text::utf8::past_ascii` meets its contract: what is left from i on is UTF-8 exactly when what is left from `at` on is. Assumes nothing.
use Rattle.std.proofs.Common.{rules}
use Rattle.text.proofs.RunLaws.{laws}
use Rattle.text.proofs.utf8.past_ascii.Goals as goal

pub loop-i-preserved : goal.loop-i-preserved
loop-i-preserved c = search (rules, laws)
