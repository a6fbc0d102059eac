-- The place that is answered, or the empty place at the text's end. Assumes nothing.
use Rattle.entries.proofs.PlaceLaws.{laws}
use Rattle.std.proofs.Common.{rules}
use Rattle.entries.proofs.entries.entry_place.Goals as goal

pub returns : goal.returns
returns c = search (rules, laws)
