-- What it calls answers, told, or 10. Assumes nothing.
use Rattle.std.proofs.Common.{rules}
use Rattle.exports.proofs.NameLaws.{laws}
use Rattle.exports.proofs.lines.bruncadorza_field_text.Goals as goal

pub returns-then-name-gt9 : goal.returns-then-name-gt9
returns-then-name-gt9 c = search (rules, laws)

pub returns : goal.returns
returns c = search (rules, laws)
