-- `lists::alternate_bases::alt_count` meets its contract: a `.` has none, and any other column as many as its pieces. Assumes nothing.
use mathlib.Core.List.{[], ◌∷◌}
use Rattle.std.proofs.Common.{rules}
use Rattle.text.proofs.SameLaws.{told_pairs}
use Rattle.lists.proofs.AltLaws.{laws}
use Rattle.lists.proofs.alternate_bases.alt_count.Goals as goal

pub returns-then-eq : goal.returns-then-eq
returns-then-eq c = search (rules, laws, told_pairs c.args.column.now (46 ∷ []) (rw c.as_slice.ensures at c.eq.ensures))

pub returns : goal.returns
returns c = search (rules, laws, told_pairs c.args.column.now (46 ∷ []) (rw c.as_slice.ensures at c.eq.ensures))
