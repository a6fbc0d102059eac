-- `bcf::write::write_sound` meets its contract: by the largest number, which chooses the width. Assumes nothing.
use Rattle.std.proofs.Common.{rules}
use Rattle.bcf.proofs.WriteLaws.{laws}
use Rattle.bcf.proofs.write.write_sound.Goals as goal

pub returns-then-most-gt1073741822 : goal.returns-then-most-gt1073741822
returns-then-most-gt1073741822 c = search (rules, laws)

pub returns : goal.returns
returns c = search (rules, laws)
