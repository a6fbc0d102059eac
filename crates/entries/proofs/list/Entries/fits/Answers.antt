-- `Entries::fits` meets its contract: the entries are as long as the text up to the last end, and a byte stands between each two. Assumes nothing.
use Rattle.entries.proofs.JoinedLaws.{laws}
use Rattle.std.proofs.Common.{rules}
use Rattle.entries.proofs.list.Entries.fits.Goals as goal

pub returns-in_default : goal.returns-in_default
returns-in_default c = search (rules, laws)

pub returns-then-end-room : goal.returns-then-end-room
returns-then-end-room c = search (rules, laws)

pub returns-else-end-room : goal.returns-else-end-room
returns-else-end-room c = search (rules, laws)
