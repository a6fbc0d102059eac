-- `genotype::lay::lay` meets its contract: the alleles from `at` on are still to be judged, and, where the text is a list, to be stored from k on. Assumes nothing.
use Rattle.std.proofs.Common.{rules, arith, ◌≡◌, max}
use Rattle.allele.proofs.SlicesLaws.{same_first, same_more}
use Rattle.genotype.proofs.LayLaws.{lay_turn, laws}
use Rattle.genotype.proofs.lay.lay.Goals as goal

pub returns-then-is_empty-clause-lays : goal.returns-then-is_empty-clause-lays
returns-then-is_empty-clause-lays c = search (rules, laws)

pub loop-at-init : goal.loop-at-init
loop-at-init c = (same_first _, search (rules, laws))

pub loop-at-smaller : goal.loop-at-smaller
loop-at-smaller c = search (rules, laws)

pub loop-at-preserved : goal.loop-at-preserved
loop-at-preserved c =
    let m : c.max.result ≡ max c.loop-at.whole.most c.in-Ok.allele.number = c.max.ensures in
    (same_more c.loop-at.invariant.0 c.store.ensures.same_slices, lay_turn _ _ _ _ _ _ c.loop-at.whole _ c.loop-at.invariant.1 c.step_at.ensures _ _ c.in-Ok.is c.store.ensures.stores (omega arith) (omega arith))

pub returns-in_default-clause-lays : goal.returns-in_default-clause-lays
returns-in_default-clause-lays c = search (rules, laws)

pub returns-in-Err-clause-lays : goal.returns-in-Err-clause-lays
returns-in-Err-clause-lays c = search (rules, laws)

pub returns-clause-lays : goal.returns-clause-lays
returns-clause-lays c = search (rules, laws)
