-- What is copied to the front is laid over what stood there. Assumes nothing.
use Rattle.std.proofs.Common.{rules}
use Rattle.listing.proofs.KeepLaws.{keeps}
use Rattle.listing.proofs.keep.keep_rest.Goals as goal

pub returns : goal.returns
returns c = search (rules, keeps)
