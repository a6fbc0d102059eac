-- The numbers of the record are told one by one, behind its ending. Assumes nothing.
use Rattle.std.proofs.Common.{rules}
use Rattle.exports.proofs.FormLaws.{record_told}
use Rattle.exports.proofs.records.tell_record.Goals as goal

pub returns : goal.returns
returns c = search (rules, record_told)
