-- `bcf::write::write_vector` meets its contract: one law for each answer; what lies before the place stays. Assumes nothing.
use Rattle.std.proofs.Common.{rules}
use Rattle.bcf.proofs.WriteLaws.{laws, write_uneven, write_made}
use Rattle.bcf.proofs.write.write_vector.Goals as goal

pub returns-then-at-out : goal.returns-then-at-out
returns-then-at-out c = search (rules, laws)

pub returns-in_default : goal.returns-in_default
returns-in_default c = write_uneven _ _ _ _ _ _ c.if-at-out.false c.in_default.ensures

pub returns : goal.returns
returns c = write_made c.in-Some.row _ _ _ c.if-at-out.false c.in-Some.ensures c.write_rest.ensures
