-- What the function that it calls answers, told, or 32. Assumes nothing.
use Rattle.exports.proofs.FormLaws.{laws}
use Rattle.std.proofs.Common.{rules}
use Rattle.exports.proofs.records.bruncadorza_widen.Goals as goal

pub returns-then-ending-gt2 : goal.returns-then-ending-gt2
returns-then-ending-gt2 c = search (rules, laws)

pub returns : goal.returns
returns c = search (rules, laws)
