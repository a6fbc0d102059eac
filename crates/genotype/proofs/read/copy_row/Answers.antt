-- `genotype::read::copy_row` meets its contract: up to i the entries are copied. Assumes nothing.
use Rattle.allele.proofs.SlicesLaws.{same_first}
use Rattle.genotype.proofs.KeepLaws.{room_even, copy_first, copy_turn, copy_past}
use Rattle.genotype.proofs.read.copy_row.Goals as goal

pub loop-i-init : goal.loop-i-init
loop-i-init c = (same_first _, copy_first (room_even c.args.kept.now.parallel c.requires.kept) (room_even c.args.row.now.parallel c.requires.room))

pub loop-i-preserved : goal.loop-i-preserved
loop-i-preserved c =
    let s = c.loop-i.invariant.0 in
    (record { numbers = s.numbers; missing = s.missing; phased = s.phased }, copy_turn c.loop-i.invariant.1 c.loop-i-test.true)

pub returns-clause-copies : goal.returns-clause-copies
returns-clause-copies c = copy_past c.loop-i.invariant.1 c.loop-i-test.false
