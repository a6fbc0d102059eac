-- `text::utf8::is_ascii` meets its contract: the flags gathered are below 80 hex exactly where each byte passed is. Assumes nothing.
use Rattle.std.proofs.Common.{rules}
use Rattle.text.proofs.FlagLaws.{laws}
use Rattle.text.proofs.utf8.is_ascii.Goals as goal

pub loop-i-preserved : goal.loop-i-preserved
loop-i-preserved c = search (rules, laws)
