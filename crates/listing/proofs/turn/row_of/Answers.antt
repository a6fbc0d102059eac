-- A line that was read has eight columns, or nine and its samples. Assumes nothing.
use Rattle.listing.proofs.RowLaws.{row_fits, laws}
use Rattle.std.proofs.Common.{arith}
use Rattle.std.proofs.Common.{rules}
use Rattle.listing.proofs.turn.row_of.Goals as goal

pub overflow_add-columns : goal.overflow_add-columns
overflow_add-columns c = omega (arith, row_fits c.requires c.infos_of-infos.ensures c.samples_of-samples.ensures c.if-samples-eq0.false)

pub returns-then-samples-eq0 : goal.returns-then-samples-eq0
returns-then-samples-eq0 c = search (rules, laws)

pub returns-else-samples-eq0 : goal.returns-else-samples-eq0
returns-else-samples-eq0 c = search (rules, laws)
