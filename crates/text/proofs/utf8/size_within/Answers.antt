-- `text::utf8::size_within` meets its contract: by the four bytes there. Assumes nothing.
use Rattle.std.proofs.Common.{rules}
use Rattle.text.proofs.CharLaws.{laws}
use Rattle.text.proofs.utf8.size_within.Goals as goal

pub returns : goal.returns
returns c = search (rules, laws)
