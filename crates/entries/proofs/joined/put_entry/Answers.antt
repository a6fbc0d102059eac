-- `entries::joined::put_entry` meets its contract: the separator is stored behind the entry that was copied. Assumes nothing.
use Rattle.entries.proofs.JoinedLaws.{laws}
use Rattle.std.proofs.Common.{rules}
use Rattle.entries.proofs.joined.put_entry.Goals as goal

pub returns-clause-out_after : goal.returns-clause-out_after
returns-clause-out_after c = search (rules, laws)
