-- `text::utf8::char_size` meets its contract: a byte below 80 hex alone, or by four bytes, those past the end taken for 0. Assumes nothing.
use Rattle.std.proofs.Common.{rules}
use Rattle.text.proofs.CharLaws.{laws}
use Rattle.text.proofs.utf8.char_size.Goals as goal

pub returns-then-a-lt128 : goal.returns-then-a-lt128
returns-then-a-lt128 c = search (rules, laws)

pub returns : goal.returns
returns c = search (rules, laws)
