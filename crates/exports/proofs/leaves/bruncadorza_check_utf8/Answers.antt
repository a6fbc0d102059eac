-- Each arm returns its answer's number. Assumes nothing.
use Rattle.std.proofs.Common.{rules}
use Rattle.exports.proofs.NumberLaws.{number_case}
use Rattle.text.proofs.CaseLaws.{cases}
use Rattle.exports.proofs.leaves.bruncadorza_check_utf8.Goals as goal

pub returns-in-Ok : goal.returns-in-Ok
returns-in-Ok c = search (rules, number_case, cases)

pub returns-in-Err : goal.returns-in-Err
returns-in-Err c = search (rules, number_case, cases)
