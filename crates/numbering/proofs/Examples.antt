-- The tables of VCF 4.4, section 1.6.2: diploid over 2 and 3 alleles, triploid over 2. Assumes nothing.
use mathlib.Core.Path.{◌≡◌, refl}
use mathlib.Core.List.{[], ◌∷◌}
use Rattle.numbering.specs.Ordering.{followed, ordering}
use Rattle.numbering.specs.Closed.{choose, sum_from, closed_sum}

pub two_of_two : ordering 2 2 ≡ (0 ∷ 0 ∷ []) ∷ (0 ∷ 1 ∷ []) ∷ (1 ∷ 1 ∷ []) ∷ []
unfolding ordering followed
two_of_two = refl

pub two_of_three : ordering 2 3 ≡ (0 ∷ 0 ∷ []) ∷ (0 ∷ 1 ∷ []) ∷ (1 ∷ 1 ∷ []) ∷ (0 ∷ 2 ∷ []) ∷ (1 ∷ 2 ∷ []) ∷ (2 ∷ 2 ∷ []) ∷ []
unfolding ordering followed
two_of_three = refl

pub three_of_two : ordering 3 2 ≡ (0 ∷ 0 ∷ 0 ∷ []) ∷ (0 ∷ 0 ∷ 1 ∷ []) ∷ (0 ∷ 1 ∷ 1 ∷ []) ∷ (1 ∷ 1 ∷ 1 ∷ []) ∷ []
unfolding ordering followed
three_of_two = refl

-- ploidy 1 lists the alleles
pub one_of_three : ordering 1 3 ≡ (0 ∷ []) ∷ (1 ∷ []) ∷ (2 ∷ []) ∷ []
unfolding ordering followed
one_of_three = refl

pub number_of_three : closed_sum (1 ∷ 1 ∷ 2 ∷ []) ≡ 6
unfolding closed_sum sum_from choose
number_of_three = refl
