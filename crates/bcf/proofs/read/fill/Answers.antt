-- `bcf::read::fill` meets its contract: the alleles still to store lie over what stands. Assumes nothing.
use Rattle.std.proofs.Common.{rules}
use Rattle.bcf.proofs.ReadLaws.{laws}
use Rattle.bcf.proofs.read.fill.Goals as goal

pub entry_at-code-requires : goal.entry_at-code-requires
entry_at-code-requires c = search (rules, laws)

pub loop-k-preserved : goal.loop-k-preserved
loop-k-preserved c = search (rules, laws)

pub returns : goal.returns
returns c = search (rules, laws)
