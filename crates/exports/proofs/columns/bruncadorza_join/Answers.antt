-- What the writer that it calls leaves, told, or 10. Assumes nothing.
use Rattle.exports.proofs.NameLaws.{ending_laws}
use Rattle.std.proofs.Common.{rules}
use Rattle.exports.proofs.columns.bruncadorza_join.Goals as goal

pub returns-then-ending-gt2 : goal.returns-then-ending-gt2
returns-then-ending-gt2 c = search (rules, ending_laws)

pub returns : goal.returns
returns c = search (rules, ending_laws)
