-- `line::scan::further` meets its contract: one law for each way on. Assumes nothing.
use Rattle.std.proofs.Common.{rules}
use Rattle.line.proofs.CalmLaws.{run_told}
use Rattle.line.proofs.ScanLaws.{further_quiet, further_calm}
use Rattle.line.proofs.scan.further.Goals as goal

pub returns-then-k-eq9 : goal.returns-then-k-eq9
returns-then-k-eq9 c = further_calm c.if-k-eq9.true (run_told c.past64.ensures (λ i t. search rules))

pub returns-then-none : goal.returns-then-none
returns-then-none c = further_quiet (run_told c.past64-then-none.ensures (λ i t. search rules))
