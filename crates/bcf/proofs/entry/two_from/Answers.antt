-- `bcf::entry::two_from` meets its contract: by the law of two bytes. Assumes nothing.
use Rattle.bcf.proofs.PlaceLaws.{laws}
use Rattle.std.proofs.Common.{rules}
use Rattle.bcf.proofs.entry.two_from.Goals as goal

pub returns-clause-value : goal.returns-clause-value
returns-clause-value c = search (rules, laws)
