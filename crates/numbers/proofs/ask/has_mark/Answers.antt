-- `numbers::ask::has_mark` meets its contract: each byte is counted. Assumes nothing.
use Rattle.numbers.proofs.AskLaws.{laws}
use Rattle.std.proofs.Common.{rules}
use Rattle.numbers.proofs.ask.has_mark.Goals as goal

pub returns-then-count_byte-gt0 : goal.returns-then-count_byte-gt0
returns-then-count_byte-gt0 c = search (rules, laws)

pub returns-else-count_byte-gt0 : goal.returns-else-count_byte-gt0
returns-else-count_byte-gt0 c = search (rules, laws)
