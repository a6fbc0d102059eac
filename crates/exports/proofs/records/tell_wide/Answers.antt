-- The places of the form are told one by one, behind its ending. Assumes nothing.
use Rattle.std.proofs.Common.{rules}
use Rattle.exports.proofs.FormLaws.{wide_told}
use Rattle.exports.proofs.records.tell_wide.Goals as goal

pub returns : goal.returns
returns c = search (rules, wide_told)
