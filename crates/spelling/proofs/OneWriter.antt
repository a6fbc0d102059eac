-- Two writers that meet the statements are one: what one refuses the other refuses, with the same answer, and what both write is the one
-- shortest text. Assumes nothing.
use mathlib.Core.Path.{◌≡◌}
use Rattle.text.specs.Answer.{number_of}
use Rattle.text.proofs.OutcomeLaws.{RefusedWhen, one_outcome, one_written}
use Rattle.spelling.specs.Demands.{Writer, WritesShortest, Refused, Refusals, Untouched, Meets, OneWriter}
use Rattle.spelling.proofs.Shortest.{as_written, one_text_lem}

pub one_writer : OneWriter
unfolding OneWriter WritesShortest Refusals Untouched
one_writer write other m m' major minor as' out at = one_outcome (refused write m) (refused other m') both
  where
    refused : (w : Writer) → Meets w → RefusedWhen (Refused major minor as' out at) out (w major minor as' out at)
    refused w g = record { given = g.refusals major minor as' out at; left = g.untouched major minor as' out at }

    both : number_of (write major minor as' out at).answer ≡ 0 → number_of (other major minor as' out at).answer ≡ 0
        → write major minor as' out at ≡ other major minor as' out at
    both z z' =
        let w = m.writes_shortest major minor as' out at z in
        let w' = m'.writes_shortest major minor as' out at z' in
        one_written (as_written w) (as_written w') (one_text_lem w.shortest w'.shortest)
