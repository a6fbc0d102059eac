-- The ploidy falls at each call of `numbering::number::number_to` to itself. Assumes nothing.
use Rattle.numbering.proofs.number.+number_to.Given as goal

abbrev pub decreases-number_to : goal.decreases-number_to
decreases-number_to l = l.ploidy
