-- The bytes are copied to the start of the rest, where there is room. Assumes nothing.
use Rattle.listing.proofs.PrintLaws.{put_all}
use Rattle.std.proofs.Common.{rules}
use Rattle.listing.proofs.print.put.Goals as goal

pub returns : goal.returns
returns c = search (rules, put_all)
