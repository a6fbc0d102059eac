-- `line::flags::ascii64` meets its contract: each byte sets a flag or none. Assumes nothing.
use Rattle.std.proofs.Common.{rules}
use Rattle.line.proofs.CalmLaws.{plain_told}
use Rattle.line.proofs.flags.ascii64.Goals as goal

pub returns : goal.returns
returns c = plain_told c.flags64.ensures (λ k r t. search rules)
