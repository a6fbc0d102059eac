-- `alleles::read::fill` meets its contract: the alleles laid, and those left from a place of the text on, are its list. Assumes nothing.
use Rattle.alleles.proofs.FillLaws.{Filling}
use Rattle.alleles.proofs.read.fill.Given as goal

abbrev pub invariant-loop-place : goal.invariant-loop-place
invariant-loop-place l = Filling l.text l.row l.place-index l.at
