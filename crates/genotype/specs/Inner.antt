-- What the private functions of this crate promise each other; of three slices also those of `bcf`. Assumes nothing.
use Rattle.std.specs.Prelude.{ℕ, ◌-◌, ◌≤◌, ◌≡◌, Bool, true, ◌||◌, List, [], ◌∷◌, length, get_or, take, eqb, Result, Ok, Err}
use Rattle.std.specs.Prelude as P
use Rattle.std.proofs.Math.Option.{Option, some, none}
use Rattle.text.specs.Answer.{Answer, says}
use Rattle.text.specs.Over.{over}
use Rattle.text.specs.Pick.{pick, within}
use Rattle.lists.specs.AlternateBases.{alt_count}
use Rattle.allele.specs.Reading.{Reading, list, bad, empty, is_mark, reading_of, list_of, fault_at}
use Rattle.allele.specs.Row.{numbers_of, missing_of, phased_of}
use Rattle.allele.specs.declared.allele.Allele.{Allele}
use Rattle.allele.specs.declared.row.RowMut.{RowMut}
use Rattle.genotype.specs.Answers.{first_above, Reads}
use Rattle.genotype.specs.Paper.{Read, read_paper}
use Rattle.genotype.specs.declared.read.ReadError.{ReadError}
use Rattle.genotype.specs.declared.lay.Whole.{Whole}

-- ---- the whole text

-- the text reads as a list
pub record ListMeant (t : List ℕ) : Type 0 where
  pub is : reading_of t ≡ list (list_of (reading_of t))

-- a text judged whole, whatever the room: so many alleles, 11, or 12 with the index of the first piece that is none and the place of
-- the byte at fault
unfoldable pub whole_answer : List ℕ → Reading → Answer
whole_answer t (list as') = says 0 (length as' ∷ [])
whole_answer t (bad k) = says 12 (k ∷ fault_at t k ∷ [])
whole_answer t empty = says 11 []

-- no allele is above a number
pub record NoneAbove (as' : List Allele) (most : ℕ) : Type 0 where
  pub is : (count : ℕ) → most ≤ count → first_above count 0 as' ≡ none

-- how many alleles a text that was judged whole has
abbrev pub counted : Result Whole ReadError → Read
counted (Ok w) = Ok w.count
counted (Err e) = Err e

-- the answer of a text, and a number that no allele is above where it reads as a list
pub record Judged (t : List ℕ) (w : Result Whole ReadError) : Type 0 where
  pub answer : read_paper (counted w) ≡ whole_answer t (reading_of t)
  pub most : (v : Whole) → w ≡ Ok v → ListMeant t → NoneAbove (list_of (reading_of t)) v.most

-- an index, or none
unfoldable pub above_paper : P.Option ℕ → Option ℕ
above_paper (P.Some k) = some k
above_paper P.None = none

-- ---- three slices

-- so many entries fit each slice
pub record Room (k : ℕ) (n m p : List ℕ) : Type 0 where
  pub numbers : k ≤ length n
  pub missing : k ≤ length m
  pub phased : k ≤ length p

-- a list laid over the slices
pub record Laid (as' : List Allele) (n m p n' m' p' : List ℕ) : Type 0 where
  pub numbers : n' ≡ over (numbers_of as') n
  pub missing : m' ≡ over (missing_of as') m
  pub phased : p' ≡ over (phased_of as') p

-- a text judged whole, and laid over slices that hold its list
pub record Lays (t n m p : List ℕ) (w : Result Whole ReadError) (n' m' p' : List ℕ) : Type 0 where
  pub judged : Judged t w
  pub laid : ListMeant t → Room (length (list_of (reading_of t))) n m p → Laid (list_of (reading_of t)) n m p n' m' p'

-- the first k entries of slices copied to others
pub record Copies (k : ℕ) (a b c n m p n' m' p' : List ℕ) : Type 0 where
  pub numbers : n' ≡ over (take k a) n
  pub missing : m' ≡ over (take k b) m
  pub phased : p' ≡ over (take k c) p

-- slices that begin with a list
pub record Keeps (as' : List Allele) (a b c : List ℕ) : Type 0 where
  pub room : Room (length as') a b c
  pub numbers : take (length as') a ≡ numbers_of as'
  pub missing : take (length as') b ≡ missing_of as'
  pub phased : take (length as') c ≡ phased_of as'

-- with that of a text, where it has at most eight alleles
pub record Kept (t a b c : List ℕ) : Type 0 where
  pub is : ListMeant t → length (list_of (reading_of t)) ≤ 8 → Keeps (list_of (reading_of t)) a b c

-- the text reads as a list of k alleles, and there is room for it
pub record Fillable (t : List ℕ) (k room : ℕ) : Type 0 where
  pub meant : ListMeant t
  pub count : length (list_of (reading_of t)) ≡ k
  pub few : k ≤ room

-- ---- the same of a row

abbrev pub LaidIn : List Allele → RowMut → RowMut → Type 0
LaidIn as' row row' = Laid as' row.numbers.now row.missing.now row.phased.now row'.numbers.now row'.missing.now row'.phased.now

abbrev pub LaysIn : List ℕ → RowMut → Result Whole ReadError → RowMut → Type 0
LaysIn t row w row' = Lays t row.numbers.now row.missing.now row.phased.now w row'.numbers.now row'.missing.now row'.phased.now

abbrev pub CopiesIn : ℕ → RowMut → RowMut → RowMut → Type 0
CopiesIn k kept row row' =
    Copies k kept.numbers.now kept.missing.now kept.phased.now row.numbers.now row.missing.now row.phased.now row'.numbers.now row'.missing.now row'.phased.now

abbrev pub KeptIn : List ℕ → RowMut → Type 0
KeptIn t kept = Kept t kept.numbers.now kept.missing.now kept.phased.now

abbrev pub ReadsIn : Answer → List Allele → RowMut → Read → RowMut → Type 0
ReadsIn a as' row r row' = Reads a as' row.numbers.now row.missing.now row.phased.now r row'.numbers.now row'.missing.now row'.phased.now

-- ---- a pair

-- `.` or a digit
unfoldable pub is_body : ℕ → Bool
is_body b = eqb b 46 || within 48 57 b

-- two such bytes with a mark between
pub record Pair (t : List ℕ) : Type 0 where
  pub three : length t ≡ 3
  pub first : is_body (get_or t 0 0) ≡ true
  pub mark : is_mark (get_or t 1 0) ≡ true
  pub second : is_body (get_or t 2 0) ≡ true

-- the allele that such a byte is
unfoldable pub byte_worth : ℕ → ℕ
byte_worth b = pick (eqb b 46) 0 (b - 48)

abbrev pub byte_allele : Bool → ℕ → Allele
byte_allele phased b = record { number = byte_worth b; missing = eqb b 46; phased = phased }

-- both have the phasing of the mark
unfoldable pub pair_of : List ℕ → List Allele
pair_of t = byte_allele (eqb (get_or t 1 0) 124) (get_or t 0 0) ∷ byte_allele (eqb (get_or t 1 0) 124) (get_or t 2 0) ∷ []

-- it is told only where it is one, and the row holds it
pub record FindsPair (t : List ℕ) (room : ℕ) (r : Bool) : Type 0 where
  pub pair : r ≡ true → Pair t
  pub fits : r ≡ true → 2 ≤ room

-- and only where an ALT column has both alleles
pub record KnowsPair (t alt : List ℕ) (room : ℕ) (r : Bool) : Type 0 where
  pub found : FindsPair t room r
  pub known : r ≡ true → first_above (alt_count alt) 0 (pair_of t) ≡ none
