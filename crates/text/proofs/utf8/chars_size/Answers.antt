-- `text::utf8::chars_size` meets its contract: the characters passed so far leave as much to be judged as there was. Assumes nothing.
use Rattle.std.proofs.Common.{rules}
use Rattle.text.proofs.RunLaws.{laws}
use Rattle.text.proofs.utf8.chars_size.Goals as goal

pub loop-n-preserved : goal.loop-n-preserved
loop-n-preserved c = search (rules, laws)
