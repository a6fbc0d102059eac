-- The alleles still to copy, stored from there on, give what all of them give stored from the start. Assumes nothing.
use Rattle.std.proofs.Common.{rules}
use Rattle.numbering.proofs.ListLaws.{laws}
use Rattle.numbering.proofs.list.put_one.Goals as goal

pub returns-clause-row_after : goal.returns-clause-row_after
returns-clause-row_after c = search (rules, laws)
