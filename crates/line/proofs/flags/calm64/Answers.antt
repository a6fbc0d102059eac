-- `line::flags::calm64` meets its contract: each byte sets a flag or none. Assumes nothing.
use Rattle.std.proofs.Common.{rules}
use Rattle.line.proofs.CalmLaws.{flags_told}
use Rattle.line.proofs.flags.calm64.Goals as goal

pub returns : goal.returns
returns c = flags_told c.flags64.ensures (λ k r t. search rules)
