-- What a genotype text reads as, and which of its bytes is at fault (docs/RULES.md, "Genotypes"): cut it, read each piece. Assumes nothing.
use Rattle.std.specs.Prelude.{ℕ, zero, suc, ◌+◌, Bool, true, false, ◌||◌, List, [], ◌∷◌, map, length, drop, eqb}
use Rattle.std.proofs.Math.Option.{Option, some, none}
use Rattle.text.specs.Pick.{pick, one_if}
use Rattle.text.specs.Answer.{Answer, says}
use Rattle.text.specs.Same.{same}
use Rattle.text.specs.Place.{placed}
use Rattle.pieces.specs.Before.{before_either}
use Rattle.decimal.specs.Decimal.{value_of, fault_of}
use Rattle.pieces.specs.Pieces.{lacks}
use Rattle.allele.specs.declared.allele.Allele.{Allele}

-- ---- the text, cut before each mark other than at its first byte

-- `|` or `/`
unfoldable pub is_mark : ℕ → Bool
is_mark b = eqb b 124 || eqb b 47

-- the bytes before the first mark
unfoldable pub head_of : List ℕ → List ℕ
head_of s = before_either 124 47 s

-- the pieces from the first mark on
unfoldable pub marked_pieces : List ℕ → List (List ℕ)
marked_pieces [] = []
marked_pieces (b ∷ s) = pick (is_mark b) ((b ∷ head_of s) ∷ marked_pieces s) (marked_pieces s)

unfoldable pub pieces_of : List ℕ → List (List ℕ)
pieces_of [] = []
pieces_of (b ∷ s) = (b ∷ head_of s) ∷ marked_pieces s

-- ---- a piece

unfoldable pub numbered : Bool → Option ℕ → Option Allele
numbered phased (some n) = some (record { number = n; missing = false; phased = phased })
numbered phased none = none

-- without its mark: `.` is missing, else it is a decimal
unfoldable pub bodied : Bool → List ℕ → Option Allele
bodied phased t = pick (same t (46 ∷ [])) (some (record { number = 0; missing = true; phased = phased })) (numbered phased (value_of t))

-- `|` is phased, `/` unphased, and a piece with no mark is as implied
unfoldable pub allele_in : Bool → List ℕ → Option Allele
allele_in implied [] = none
allele_in implied (b ∷ s) = pick (eqb b 124) (bodied true s) (pick (eqb b 47) (bodied false s) (bodied implied (b ∷ s)))

-- ---- the text

-- what the text after the first byte implies: unphased where it has any `/`, else phased
unfoldable pub implied_by : List ℕ → Bool
implied_by s = lacks 47 s

unfoldable pub implied_of : List ℕ → Bool
implied_of [] = true
implied_of (b ∷ s) = implied_by s

-- each piece as an allele, where it is one
unfoldable pub parts_of : List ℕ → List (Option Allele)
parts_of t = map (allele_in (implied_of t)) (pieces_of t)

-- a list of alleles; or the index of the first piece that is none; or the text is empty
pub data Reading : Type 0 where
  list : List Allele → Reading
  bad : ℕ → Reading
  empty : Reading

-- the piece with index k before what the others read as
unfoldable pub with : Allele → Reading → Reading
with a (list as') = list (a ∷ as')
with a (bad k) = bad k
with a empty = empty

-- the pieces from index k on
unfoldable pub gathered : ℕ → List (Option Allele) → Reading
gathered k [] = list []
gathered k (none ∷ ps) = bad k
gathered k (some a ∷ ps) = with a (gathered (k + 1) ps)

unfoldable pub reading_of : List ℕ → Reading
reading_of [] = empty
reading_of (b ∷ s) = gathered 0 (parts_of (b ∷ s))

unfoldable pub list_of : Reading → List Allele
list_of (list as') = as'
list_of (bad k) = []
list_of empty = []

-- ---- the byte at fault

-- a piece that is no allele is read as a decimal, past its mark: where that has its fault
unfoldable pub piece_fault : List ℕ → ℕ
piece_fault [] = 0
piece_fault (b ∷ s) = pick (is_mark b) (1 + fault_of s) (fault_of (b ∷ s))

-- the same of the piece with index k, past all bytes of those before it
unfoldable pub fault_in : ℕ → List (List ℕ) → ℕ
fault_in k [] = 0
fault_in zero (p ∷ ps) = piece_fault p
fault_in (suc k) (p ∷ ps) = length p + fault_in k ps

unfoldable pub fault_at : List ℕ → ℕ → ℕ
fault_at t k = fault_in k (pieces_of t)

-- ---- one step

-- the next place, and the allele
abbrev pub found_answer : ℕ → Allele → Answer
found_answer next a = says 0 (next ∷ a.number ∷ one_if a.missing ∷ one_if a.phased ∷ [])

-- or 12, and the place of the byte at fault
unfoldable pub allele_answer : ℕ → ℕ → Option Allele → Answer
allele_answer next fault (some a) = found_answer next a
allele_answer next fault none = says 12 (fault ∷ [])

-- the first allele of a text, and the place past it where the text stands at the place `at`
abbrev pub first_of : List ℕ → Option Allele
first_of [] = none
first_of (b ∷ s) = allele_in (implied_by s) (b ∷ head_of s)

abbrev pub past_first : ℕ → List ℕ → ℕ
past_first at [] = at
past_first at (b ∷ s) = at + 1 + length (head_of s)

unfoldable pub first_answer : ℕ → List ℕ → Answer
unfolding allele_answer
first_answer at [] = says 10 []
first_answer at (b ∷ s) = allele_answer (past_first at (b ∷ s)) (at + piece_fault (b ∷ head_of s)) (first_of (b ∷ s))

-- 11 where the text is empty, 10 at the end of any other
unfoldable pub from_answer : List ℕ → ℕ → Answer
unfolding first_answer
from_answer [] at = says 11 []
from_answer (b ∷ s) at = first_answer at (drop at (b ∷ s))

-- 6 beyond the text
unfoldable pub step_answer : List ℕ → ℕ → Answer
unfolding from_answer
step_answer t at = placed at t (from_answer t at)
