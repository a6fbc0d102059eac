-- The writer of three slices answers and leaves what the writer of the demands does with the list that the slices stand for, so what
-- is proved of that holds of it. Assumes nothing.
use mathlib.Core.Path.{◌∙◌}
use Rattle.allele.specs.Row.{row_of}
use Rattle.spelling.specs.Permitted.{from44}
use Rattle.spelling.specs.Demands.{SlicesWriter}
use Rattle.spelling.proofs.WriteLaws.{row_list}
use Rattle.spelling.proofs.ListLaws.{writer_answer, writer_output}

pub slices_writer : SlicesWriter
unfolding SlicesWriter
slices_writer n m p major minor out at r out' q w =
    let e = row_list n m p (from44 major minor) out at q.missing q.phased in
    (w.answer ∙ rw (writer_answer major minor (row_of n m p) out at) e, w.bytes ∙ rw (writer_output major minor (row_of n m p) out at, e))
