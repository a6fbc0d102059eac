-- `spelling::row::Row::len` meets its contract: the slices have one length. Assumes nothing.
use Rattle.std.proofs.Common.{sym}
use Rattle.allele.proofs.RowLaws.{row_length}
use Rattle.spelling.proofs.row.Row.len.Goals as goal

pub returns : goal.returns
returns c = sym (row_length _ _ _ c.args.self.parallel)
