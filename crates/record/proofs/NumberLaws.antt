-- A list by its numbers, one by one: so a record has the numbers that it is made of; and the numbers of places. Assumes nothing.
use Prim.Native.Nat.{ℕ, zero, suc, ◌+◌}
use mathlib.Core.Path.{◌≡◌, refl, sym, ap, ◌∙◌}
use mathlib.Core.List.{List, [], ◌∷◌}
use native.Mathlib.Omega.{arith}
use lib.ListN.{length, get_or, drop, drop_of_length-le}
use lib.Seq.{drop-cons}
use Rattle.record.specs.Ending.{ending_number}
use Rattle.record.specs.Place.{passed, range_of, ends_of, numbers_of}
use Rattle.record.specs.Paper.{ending_of, record_places, record_values, record_numbers, record_with}
use Rattle.record.specs.Promises.{GivesEnding, GivesNumbers, MakesRecord}
use Rattle.record.specs.declared.ending.Ending.{Ending}
use Rattle.record.specs.declared.place.Record.{Record}

-- ---- a list by its numbers

-- the n numbers of a list from the place k on
one_by_one : ℕ → ℕ → List ℕ → List ℕ
one_by_one zero k l = []
one_by_one (suc n) k l = get_or l k 0 ∷ one_by_one n (suc k) l

one_by_one_lem : (n k : ℕ) (l : List ℕ) → length l ≡ k + n → one_by_one n k l ≡ drop k l
unfolding one_by_one
one_by_one_lem zero k l e = sym (drop_of_length-le l {i = k} (omega arith))
one_by_one_lem (suc n) k l e = ap (λ (r : List ℕ). get_or l k 0 ∷ r) (one_by_one_lem n (suc k) l (omega arith)) ∙ sym (drop-cons l k 0 (omega arith))

module _ (l : List ℕ) where
  pub eleven : length l ≡ 11 → get_or l 0 0 ∷ get_or l 1 0 ∷ get_or l 2 0 ∷ get_or l 3 0 ∷ get_or l 4 0 ∷ get_or l 5 0 ∷ get_or l 6 0 ∷ get_or l 7 0 ∷ get_or l 8 0 ∷ get_or l 9 0 ∷ get_or l 10 0 ∷ [] ≡ l
  unfolding one_by_one
  eleven n = one_by_one_lem 11 0 l n

  pub twenty : length l ≡ 20 → get_or l 0 0 ∷ get_or l 1 0 ∷ get_or l 2 0 ∷ get_or l 3 0 ∷ get_or l 4 0 ∷ get_or l 5 0 ∷ get_or l 6 0 ∷ get_or l 7 0 ∷ get_or l 8 0 ∷ get_or l 9 0 ∷ get_or l 10 0 ∷ get_or l 11 0 ∷ get_or l 12 0 ∷ get_or l 13 0 ∷ get_or l 14 0 ∷ get_or l 15 0 ∷ get_or l 16 0 ∷ get_or l 17 0 ∷ get_or l 18 0 ∷ get_or l 19 0 ∷ [] ≡ l
  unfolding one_by_one
  twenty n = one_by_one_lem 20 0 l n

  pub last_four : length l ≡ 20 → drop 16 l ≡ get_or l 16 0 ∷ get_or l 17 0 ∷ get_or l 18 0 ∷ get_or l 19 0 ∷ []
  unfolding one_by_one
  last_four n = sym (one_by_one_lem 4 16 l n)

-- ---- the numbers of places

pub ends_none : ends_of [] ≡ []
unfolding ends_of
ends_none = refl

pub ends_odd : (start : ℕ) → ends_of (start ∷ []) ≡ []
unfolding ends_of
ends_odd start = refl

pub ends_more : (start len : ℕ) (places : List ℕ) → ends_of (start ∷ len ∷ places) ≡ (start + len) ∷ ends_of places
unfolding ends_of
ends_more start len places = refl

pub numbers_are : (places : List ℕ) → numbers_of places ≡ get_or places 0 0 ∷ ends_of places
unfolding numbers_of
numbers_are places = refl

-- ---- the numbers of a record

-- where its fields end
abbrev pub record_ends : Record → List ℕ
record_ends r = r.chrom ∷ r.pos ∷ r.id ∷ r.reference ∷ r.alt ∷ r.qual ∷ r.filter ∷ r.info ∷ r.format ∷ r.end ∷ []

pub record_numbers_lem : (r : Record) → record_numbers r ≡ r.start ∷ record_ends r
unfolding record_numbers
record_numbers_lem r = refl

pub record_values_lem : (r : Record) → record_values r ≡ ending_number (ending_of r.ending) ∷ record_places r
unfolding record_values
record_values_lem r = refl

pub made_record : (ending : Ending) (l : List ℕ) → length l ≡ 11
    → MakesRecord ending l (record { ending = ending; start = get_or l 0 0; chrom = get_or l 1 0; pos = get_or l 2 0; id = get_or l 3 0; reference = get_or l 4 0; alt = get_or l 5 0; qual = get_or l 6 0; filter = get_or l 7 0; info = get_or l 8 0; format = get_or l 9 0; end = get_or l 10 0 })
unfolding record_numbers
made_record ending l n = (refl, eleven l n)

-- its places are those of the record with its numbers, whatever the ending
pub places_with : (ending : Ending) {numbers : List ℕ} (r : Record) → record_numbers r ≡ numbers → record_places r ≡ record_places (record_with ending numbers)
unfolding record_numbers record_with record_places range_of passed
places_with ending r e = rw (← e)

-- the record with an ending and numbers has that ending
pub with_ending : (ending : Ending) (numbers : List ℕ) → GivesEnding (record_with ending numbers) ending
unfolding record_with
with_ending ending numbers = refl

pub given_numbers : (r : Record) → GivesNumbers r (r.start ∷ r.chrom ∷ r.pos ∷ r.id ∷ r.reference ∷ r.alt ∷ r.qual ∷ r.filter ∷ r.info ∷ r.format ∷ r.end ∷ [])
unfolding record_numbers
given_numbers r = refl

pub ruleset laws = (made_record, given_numbers)
