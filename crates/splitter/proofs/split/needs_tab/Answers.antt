-- `splitter::split::needs_tab` meets its contract: it is the definition, by its two laws. Assumes nothing.
use Rattle.std.proofs.Common.{◌≤◌, arith}
use mathlib.Core.Path.{◌∙◌}
use borrow.Author.Tests.{le-leb}
use Rattle.line.proofs.ReadLaws.{required_low, required_high}
use Rattle.splitter.proofs.split.needs_tab.Goals as goal

pub returns-then-number-le7 : goal.returns-then-number-le7
returns-then-number-le7 c =
    let low : c.args.number ≤ 7 = omega (arith, c.if-number-le7.true) in le-leb _ _ c.if-number-le7.true ∙ required_low c.args.number low

pub returns-else-number-le7 : goal.returns-else-number-le7
returns-else-number-le7 c = required_high _ c.if-number-le7.false
