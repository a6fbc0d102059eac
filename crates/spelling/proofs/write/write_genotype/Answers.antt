-- `spelling::write::write_genotype` meets its contract: what is written at the start of the part from the place on, said of the whole. Assumes nothing.
use Rattle.std.proofs.Common.{rules}
use Rattle.spelling.proofs.WriteLaws.{laws, write_uneven, write_made}
use Rattle.spelling.proofs.write.write_genotype.Goals as goal

pub returns-then-at-out-clause-writes_row : goal.returns-then-at-out-clause-writes_row
returns-then-at-out-clause-writes_row c = search (rules, laws)

pub returns-in_default-clause-writes_row : goal.returns-in_default-clause-writes_row
returns-in_default-clause-writes_row c = write_uneven _ _ _ _ _ _ _ c.if-at-out.false c.in_default.ensures

pub returns-clause-writes_row : goal.returns-clause-writes_row
returns-clause-writes_row c = write_made c.in-Some.row _ _ _ _ c.if-at-out.false c.in-Some.ensures c.write_rest.ensures
