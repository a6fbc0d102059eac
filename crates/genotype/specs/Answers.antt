-- What the readers answer, and what they leave in the lent row (docs/RULES.md, "Genotypes"). Assumes nothing.
use Rattle.std.specs.Prelude.{ℕ, ◌≡◌, Bool, ◌&&◌, List, [], ◌∷◌, length, ltb, eqb}
use Rattle.std.proofs.Math.Option.{Option, some, none}
use Rattle.text.specs.Pick.{pick}
use Rattle.text.specs.Answer.{Answer, says}
use Rattle.text.specs.Over.{laid, room_for}
use Rattle.text.specs.First.{first_where}
use Rattle.lists.specs.AlternateBases.{alt_count}
use Rattle.allele.specs.Reading.{Reading, list, bad, empty, reading_of, list_of, fault_at}
use Rattle.allele.specs.Row.{numbers_of, missing_of, phased_of}
use Rattle.allele.specs.declared.allele.Allele.{Allele}
use Rattle.genotype.specs.Paper.{Read, read_paper}

-- ---- judged whole, and room last

-- what the reading of t answers: so many alleles where the row holds them, else 17; 12 with the index of the first piece that is
-- none and the place of the byte at fault; or 11
unfoldable pub read_answer : List ℕ → Reading → ℕ → Answer
read_answer t (list as') room = room_for (length as') room
read_answer t (bad k) room = says 12 (k ∷ fault_at t k ∷ [])
read_answer t empty room = says 11 []

-- ---- checked against ALT

-- the index of the first allele above the count, the first of these having index k
unfoldable pub first_above : ℕ → ℕ → List Allele → Option ℕ
first_above count k as' = first_where (λ (a : Allele). ltb count a.number) k as'

-- 20 after 12 and before 17
unfoldable pub above_answer : Option ℕ → Answer → Answer
above_answer (some k) a = says 20 (k ∷ [])
above_answer none a = a

unfoldable pub checked_answer : ℕ → List ℕ → Reading → ℕ → Answer
unfolding read_answer
checked_answer count t r room = above_answer (first_above count 0 (list_of r)) (read_answer t r room)

-- ---- of a text

abbrev pub text_answer : List ℕ → ℕ → Answer
text_answer t room = read_answer t (reading_of t) room

-- and with no allele above what an ALT column counts
abbrev pub checked_text : List ℕ → List ℕ → ℕ → Answer
checked_text t alt room = checked_answer (alt_count alt) t (reading_of t) room

-- ---- the row

-- whether three lengths are one
abbrev pub one_length : ℕ → ℕ → ℕ → Bool
one_length n m p = eqb n m && eqb n p

-- 16 first, where they are not
unfoldable pub row_answer : List ℕ → List ℕ → List ℕ → Answer → Answer
row_answer n m p a = pick (one_length (length n) (length m) (length p)) a (says 16 [])

abbrev pub slices_answer : List ℕ → List ℕ → List ℕ → List ℕ → Answer
slices_answer t n m p = row_answer n m p (text_answer t (length n))

abbrev pub checked_slices : List ℕ → List ℕ → List ℕ → List ℕ → List ℕ → Answer
checked_slices t alt n m p = row_answer n m p (checked_text t alt (length n))

-- r is the answer a, and slices that held n, m and p are left with the list laid over them where it is done
pub record Reads (a : Answer) (as' : List Allele) (n m p : List ℕ) (r : Read) (n' m' p' : List ℕ) : Type 0 where
  pub answer : read_paper r ≡ a
  pub numbers : n' ≡ laid a (numbers_of as') n
  pub missing : m' ≡ laid a (missing_of as') m
  pub phased : p' ≡ laid a (phased_of as') p

abbrev pub ReadsText : List ℕ → List ℕ → List ℕ → List ℕ → Read → List ℕ → List ℕ → List ℕ → Type 0
ReadsText t n m p r n' m' p' = Reads (slices_answer t n m p) (list_of (reading_of t)) n m p r n' m' p'

abbrev pub ReadsChecked : List ℕ → List ℕ → List ℕ → List ℕ → List ℕ → Read → List ℕ → List ℕ → List ℕ → Type 0
ReadsChecked t alt n m p r n' m' p' = Reads (checked_slices t alt n m p) (list_of (reading_of t)) n m p r n' m' p'

-- a row of records, with the list laid over it where the answer is done
abbrev pub row_read : List ℕ → List Allele → List Allele
row_read t row = laid (text_answer t (length row)) (list_of (reading_of t)) row

-- and with no allele above a count, or above what an ALT column counts
abbrev pub row_within : ℕ → List ℕ → List Allele → List Allele
row_within count t row = laid (checked_answer count t (reading_of t) (length row)) (list_of (reading_of t)) row

abbrev pub row_checked : List ℕ → List ℕ → List Allele → List Allele
row_checked t alt row = row_within (alt_count alt) t row
