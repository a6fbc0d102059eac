-- The step from the start finds piece 0, the last one or not, and nothing only in an empty sample. Assumes nothing.
use Rattle.samples.proofs.SampleLaws.{laws}
use Rattle.std.proofs.Common.{rules}
use Rattle.samples.proofs.columns.first_subfield.Goals as goal

pub returns-in-Ok-More : goal.returns-in-Ok-More
returns-in-Ok-More c = search (rules, laws)

pub returns-in-Ok-More-2 : goal.returns-in-Ok-More-2
returns-in-Ok-More-2 c = search (rules, laws)

pub returns-in-Err : goal.returns-in-Err
returns-in-Err c = search (rules, laws)
