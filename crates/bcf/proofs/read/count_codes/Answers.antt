-- `bcf::read::count_codes` meets its contract: the codes still to count, behind those counted, are all; that each element is a byte is
-- known of the slice. Assumes nothing.
use Rattle.std.proofs.Common.{rules}
use Rattle.bcf.proofs.ReadLaws.{count_turn, laws}
use Rattle.bcf.proofs.read.count_codes.Goals as goal

pub returns-then-entry_at-negative-clause-value : goal.returns-then-entry_at-negative-clause-value
returns-then-entry_at-negative-clause-value c = search (rules, laws)

pub loop-i-preserved : goal.loop-i-preserved
loop-i-preserved c = count_turn c.loop-i.invariant c.loop-i-test.true c.entry_at.ensures c.if-entry_at-negative.false

pub returns-clause-value : goal.returns-clause-value
returns-clause-value c = search (rules, laws)
