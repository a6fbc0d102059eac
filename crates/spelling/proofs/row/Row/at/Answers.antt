-- `spelling::row::Row::at` meets its contract: the slices have one length, so the record is the allele at that index, and beyond it the
-- list has none. Assumes nothing.
use Rattle.allele.proofs.RowLaws.{at_is, row_here, row_past}
use Rattle.spelling.specs.Row.{list_of}
use Rattle.spelling.proofs.RowLaws.{at_first, at_beyond}
use Rattle.spelling.proofs.row.Row.at.Goals as goal

pub returns-then-k-self : goal.returns-then-k-self
returns-then-k-self c = at_beyond (list_of c.args.self) _ (row_past _ _ _ _ c.args.self.parallel c.if-k-self.true)

pub returns : goal.returns
returns c = at_first (list_of c.args.self) _ (row_here _ _ _ _ c.args.self.parallel c.if-k-self.false (at_is _ _ _ _))
