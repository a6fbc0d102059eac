-- A list's three columns, allele by allele. Assumes nothing.
use mathlib.Core.Path.{◌≡◌, refl}
use mathlib.Core.List.{List, [], ◌∷◌}
use lib.ListN.{length, length-map}
use Rattle.text.specs.Pick.{one_if}
use Rattle.allele.specs.Row.{numbers_of, missing_of, phased_of}
use Rattle.allele.specs.declared.allele.Allele.{Allele}

pub numbers_of_none : numbers_of [] ≡ []
unfolding numbers_of
numbers_of_none = refl

pub missing_of_none : missing_of [] ≡ []
unfolding missing_of
missing_of_none = refl

pub phased_of_none : phased_of [] ≡ []
unfolding phased_of
phased_of_none = refl

module _ (a : Allele) (as' : List Allele) where
  pub numbers_of_more : numbers_of (a ∷ as') ≡ a.number ∷ numbers_of as'
  unfolding numbers_of
  numbers_of_more = refl

  pub missing_of_more : missing_of (a ∷ as') ≡ one_if a.missing ∷ missing_of as'
  unfolding missing_of
  missing_of_more = refl

  pub phased_of_more : phased_of (a ∷ as') ≡ one_if a.phased ∷ phased_of as'
  unfolding phased_of
  phased_of_more = refl

module _ (as' : List Allele) where
  pub numbers_of_length : length (numbers_of as') ≡ length as'
  unfolding numbers_of
  numbers_of_length = length-map as' _

  pub missing_of_length : length (missing_of as') ≡ length as'
  unfolding missing_of
  missing_of_length = length-map as' _

  pub phased_of_length : length (phased_of as') ≡ length as'
  unfolding phased_of
  phased_of_length = length-map as' _
