-- `alleles::write::write_rest` meets its contract: the plan made of the tally tells how the row is spelled, whether that fits, and what it takes. Assumes nothing.
use Rattle.std.proofs.lemmas.Result.{err_from_is_err_and}
use Rattle.spelling.proofs.WriteLaws.{planned_room, planned_writes, planned_refused}
use Rattle.alleles.proofs.write.write_rest.Goals as goal

pub returns-in_err-plan : goal.returns-in_err-plan
returns-in_err-plan c =
    let p = err_from_is_err_and c.from_residual.result c.from_residual.ensures.1 in
    rw (p.1, p.2) (planned_refused _ _ _ c.tally_row-tally.ensures c.in_err-plan.ensures)

pub put_row-requires : goal.put_row-requires
put_row-requires c = planned_room _ _ _ c.tally_row-tally.ensures c.in_ok-plan.ensures

pub returns : goal.returns
returns c = planned_writes _ _ _ c.tally_row-tally.ensures c.in_ok-plan.ensures c.size.ensures c.put_row.ensures
