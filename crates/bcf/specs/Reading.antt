-- What a vector reads as, and what its reader answers (docs/RULES.md, "Genotypes in BCF"): its entries, the codes before the first that
-- is negative, and behind them nothing but padding. Assumes nothing.
use Rattle.std.specs.Prelude.{ℕ, zero, suc, ◌+◌, ◌-◌, ◌*◌, ◌/◌, ◌%◌, ◌≡◌, Bool, true, ◌&&◌, List, [], ◌∷◌, map, length, take, drop, eqb, ltb, Result}
use Rattle.std.proofs.Math.Option.{Option, some, none}
use Rattle.text.specs.Pick.{pick}
use Rattle.text.specs.Same.{same}
use Rattle.text.specs.Answer.{Answer, says}
use Rattle.text.specs.Over.{laid, room_for}
use Rattle.allele.specs.Row.{numbers_of, missing_of, phased_of}
use Rattle.allele.specs.declared.allele.Allele.{Allele}
use Rattle.genotype.specs.Answers.{row_answer}
use Rattle.bcf.specs.Layout.{size, padding, bytes_of}
use Rattle.bcf.specs.Paper.{read_paper}
use Rattle.bcf.specs.declared.width.Width.{Width}
use Rattle.bcf.specs.declared.width.Width.TheVariants.{W8, W16, W32}
use Rattle.bcf.specs.declared.read.ReadError.{ReadError}

-- ---- an entry

-- the first value whose sign bit is set
unfoldable pub negative : Width → ℕ
negative W8 = 128
negative W16 = 32768
negative W32 = 2147483648

-- the allele that has a code: below 2 it is missing, and has the number 0
unfoldable pub allele_by : ℕ → Allele
allele_by c = record { number = c / 2 - 1; missing = ltb c 2; phased = eqb (c % 2) 1 }

-- the number whose bytes these are, the lowest first
unfoldable pub number_by : List ℕ → ℕ
number_by [] = 0
number_by (b ∷ s) = b + 256 * number_by s

-- ---- entries

-- n entries of k bytes each
unfoldable pub entries_from : ℕ → ℕ → List ℕ → List ℕ
entries_from k zero v = []
entries_from k (suc n) v = number_by (take k v) ∷ entries_from k n (drop k v)

-- as many as the bytes hold
unfoldable pub entries_in : Width → List ℕ → List ℕ
entries_in w v = entries_from (size w) (length v / size w) v

-- those before the first that is negative
unfoldable pub codes_in : Width → List ℕ → List ℕ
codes_in w [] = []
codes_in w (e ∷ es) = pick (ltb e (negative w)) (e ∷ codes_in w es) []

unfoldable pub list_in : Width → List ℕ → List Allele
list_in w es = map allele_by (codes_in w es)

unfoldable pub only_padding : Width → List ℕ → Bool
only_padding w [] = true
only_padding w (e ∷ es) = eqb e (padding w) && only_padding w es

-- some code, and then padding alone
unfoldable pub is_vector : Width → List ℕ → Bool
is_vector w es = ltb 0 (length (codes_in w es)) && only_padding w (drop (length (codes_in w es)) es)

-- ---- bytes

-- the bytes are those of their entries, so none is left over, and these are a vector
unfoldable pub readable : Width → List ℕ → Bool
readable w v = same (bytes_of w (entries_in w v)) v && is_vector w (entries_in w v)

unfoldable pub list_read : Width → List ℕ → List Allele
list_read w v = list_in w (entries_in w v)

-- ---- the answer

-- 26, then 17
unfoldable pub vector_answer : Width → List ℕ → ℕ → Answer
vector_answer w v room = pick (readable w v) (room_for (length (list_read w v)) room) (says 26 [])

-- 16 first
abbrev pub slices_answer : Width → List ℕ → List ℕ → List ℕ → List ℕ → Answer
slices_answer w v n m p = row_answer n m p (vector_answer w v (length n))

-- r is the answer, and slices that held n, m and p are left with the list laid over them where it is done
pub record ReadsAs (a : Answer) (as' : List Allele) (n m p : List ℕ) (r : Result ℕ ReadError) (n' m' p' : List ℕ) : Type 0 where
  pub answer : read_paper r ≡ a
  pub numbers : n' ≡ laid a (numbers_of as') n
  pub missing : m' ≡ laid a (missing_of as') m
  pub phased : p' ≡ laid a (phased_of as') p

abbrev pub ReadsVector : Width → List ℕ → List ℕ → List ℕ → List ℕ → Result ℕ ReadError → List ℕ → List ℕ → List ℕ → Type 0
ReadsVector w v n m p = ReadsAs (slices_answer w v n m p) (list_read w v) n m p

-- ---- told the width

-- the width of which an entry has so many bytes
unfoldable pub width_by : ℕ → Option Width
width_by b = pick (eqb b 1) (some W8) (pick (eqb b 2) (some W16) (pick (eqb b 4) (some W32) none))

-- 27 first, where there is none
unfoldable pub told_answer : Option Width → List ℕ → List ℕ → List ℕ → List ℕ → Answer
told_answer none v n m p = says 27 []
told_answer (some w) v n m p = slices_answer w v n m p

unfoldable pub told_list : Option Width → List ℕ → List Allele
told_list none v = []
told_list (some w) v = list_read w v

abbrev pub ReadsTold : ℕ → List ℕ → List ℕ → List ℕ → List ℕ → Result ℕ ReadError → List ℕ → List ℕ → List ℕ → Type 0
ReadsTold b v n m p = ReadsAs (told_answer (width_by b) v n m p) (told_list (width_by b) v) n m p
