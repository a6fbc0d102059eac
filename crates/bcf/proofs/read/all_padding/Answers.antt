-- `bcf::read::all_padding` meets its contract: the entries still to see are padding exactly where all are. Assumes nothing.
use Rattle.std.proofs.Common.{rules}
use Rattle.bcf.proofs.ReadLaws.{pad_turn, laws}
use Rattle.bcf.proofs.read.all_padding.Goals as goal

pub loop-i-init : goal.loop-i-init
loop-i-init c = search (rules, laws)

pub returns-then-entry_at-padding : goal.returns-then-entry_at-padding
returns-then-entry_at-padding c = search (rules, laws)

pub loop-i-preserved : goal.loop-i-preserved
loop-i-preserved c = pad_turn c.loop-i.invariant c.loop-i-test.true c.entry_at.ensures c.if-entry_at-padding.false

pub returns : goal.returns
returns c = search (rules, laws)
