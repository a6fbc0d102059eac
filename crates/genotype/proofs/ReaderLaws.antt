-- What the readers of the demands answer and leave, by their definitions. Assumes nothing.
use Prim.Native.Nat.{ℕ}
use mathlib.Core.Path.{◌≡◌, refl}
use mathlib.Core.List.{List}
use lib.ListN.{length}
use Rattle.allele.specs.Reading.{reading_of}
use Rattle.allele.specs.declared.allele.Allele.{Allele}
use Rattle.genotype.specs.Answers.{text_answer, checked_answer, row_read, row_within}
use Rattle.genotype.specs.Demands.{reader, checked_reader}

module _ (t : List ℕ) (row : List Allele) where
  pub reader_answer : (reader t row).answer ≡ text_answer t (length row)
  unfolding reader
  reader_answer = refl

  pub reader_row : (reader t row).row ≡ row_read t row
  unfolding reader
  reader_row = refl

module _ (count : ℕ) (t : List ℕ) (row : List Allele) where
  pub checked_answer_lem : (checked_reader count t row).answer ≡ checked_answer count t (reading_of t) (length row)
  unfolding checked_reader
  checked_answer_lem = refl

  pub checked_row : (checked_reader count t row).row ≡ row_within count t row
  unfolding checked_reader
  checked_row = refl
