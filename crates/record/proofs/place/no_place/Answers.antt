-- `record::place::no_place` meets its contract, which is its value. Assumes nothing.
use Rattle.std.proofs.Common.{rules}
use Rattle.record.specs.Place.{nowhere}
use Rattle.record.proofs.place.no_place.Goals as goal

pub returns : goal.returns
unfolding nowhere
returns c = search rules
