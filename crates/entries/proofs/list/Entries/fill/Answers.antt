-- `Entries::fill` meets its contract: the entries still to write, joined and laid from the place reached, leave what all leave. Assumes nothing.
use Rattle.std.proofs.Common.{rules}
use Rattle.entries.proofs.JoinedLaws.{lay_laws}
use Rattle.entries.proofs.list.Entries.fill.Goals as goal

pub returns-then-is_empty-clause-value : goal.returns-then-is_empty-clause-value
returns-then-is_empty-clause-value c = search (rules, lay_laws)

pub returns-then-is_empty-clause-out_after : goal.returns-then-is_empty-clause-out_after
returns-then-is_empty-clause-out_after c = search (rules, lay_laws)

pub loop-i-init : goal.loop-i-init
loop-i-init c = search (rules, lay_laws)

pub put_entry-at-requires : goal.put_entry-at-requires
put_entry-at-requires c = search (rules, lay_laws)

pub loop-i-preserved : goal.loop-i-preserved
loop-i-preserved c = search (rules, lay_laws)

pub slice_bounds-copy-end : goal.slice_bounds-copy-end
slice_bounds-copy-end c = search (rules, lay_laws)

pub returns-clause-value : goal.returns-clause-value
returns-clause-value c = search (rules, lay_laws)

pub returns-clause-out_after : goal.returns-clause-out_after
returns-clause-out_after c = search (rules, lay_laws)
