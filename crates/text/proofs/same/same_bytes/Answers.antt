-- `text::same::same_bytes` meets its contract: the two are compared pair by pair. Assumes nothing.
use Rattle.std.proofs.Common.{rules}
use Rattle.text.proofs.SameLaws.{told_pairs}
use Rattle.text.proofs.same.same_bytes.Goals as goal

pub returns : goal.returns
returns c = search (rules, told_pairs)
