-- Two products are taken, factor by factor; the one over the other is the binomial. Assumes nothing.
use Rattle.numbering.proofs.CountLaws.{Counting}
use Rattle.numbering.proofs.shape.Shape.count.Given as goal

abbrev pub invariant-loop-i : goal.invariant-loop-i
invariant-loop-i l = Counting l.self.ploidy l.self.alleles l.over l.under l.i
