-- What the judge tells of the ends is the ghost field. Assumes nothing.
use Rattle.std.proofs.lemmas.Result.{err_from_is_err_and}
use Rattle.entries.proofs.EntryLaws.{ends_tell}
use Rattle.entries.proofs.list.Entries.new.Goals as goal

pub returns-in_err-judge_ends : goal.returns-in_err-judge_ends
returns-in_err-judge_ends c =
    let p = err_from_is_err_and c.from_residual.result c.from_residual.ensures.1 in
    rw p.1 (ends_tell _ _ _ c.in_err-judge_ends.ensures)

pub invariant_of-result : goal.invariant_of-result
invariant_of-result c = record { rise = ends_tell _ _ _ c.in_ok-judge_ends.ensures }
