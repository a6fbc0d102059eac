-- The phasing that alleles imply, by their first. Assumes nothing.
use mathlib.Core.Path.{◌≡◌, refl}
use mathlib.Core.Bool.{true, ◌&&◌}
use mathlib.Core.List.{List, [], ◌∷◌}
use Rattle.allele.specs.Means.{all_phased}
use Rattle.allele.specs.declared.allele.Allele.{Allele}

pub phased_none : all_phased [] ≡ true
unfolding all_phased
phased_none = refl

pub phased_more : (a : Allele) (as' : List Allele) → all_phased (a ∷ as') ≡ (a.phased && all_phased as')
unfolding all_phased
phased_more a as' = refl
