-- `text::utf8::block_size` meets its contract: 64 bytes below 80 hex are characters, and else those one by one are. Assumes nothing.
use Rattle.std.proofs.Common.{rules}
use Rattle.text.proofs.RunLaws.{laws}
use Rattle.text.proofs.utf8.block_size.Goals as goal

pub returns-then-is_ascii : goal.returns-then-is_ascii
returns-then-is_ascii c = search (rules, laws)
