-- `bcf::write::put_padding` meets its contract: the padding still to write lies over what stands. Assumes nothing.
use Rattle.std.proofs.Common.{rules}
use Rattle.bcf.proofs.WriteLaws.{laws}
use Rattle.bcf.proofs.write.put_padding.Goals as goal

pub loop-i-preserved : goal.loop-i-preserved
loop-i-preserved c = search (rules, laws)

pub returns : goal.returns
returns c = search (rules, laws)
