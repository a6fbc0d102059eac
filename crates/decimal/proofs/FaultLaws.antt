-- The first place at which a decimal stops, place by place: by the definition; and what the digits up to a place are worth. Assumes nothing.
use Prim.Native.Nat.{ℕ, zero, suc, ◌+◌, ◌-◌, ◌*◌, ◌≤◌, ◌<◌}
use mathlib.Core.Path.{◌≡◌, sym, ◌∙◌}
use mathlib.Core.Bool.{Bool, true, false, not, or-true}
use mathlib.Core.List.{List}
use native.Mathlib.Omega.{arith}
use native.Mathlib.Numerals.{add-one}
use lib.ListN.{length, get_or, take}
use lib.Seq.{take-suc}
use borrow.Author.Tests.{lt-ltb, le-ltb}
use Rattle.text.specs.Pick.{pick}
use Rattle.decimal.specs.Decimal.{is_digit, worth, stops_at, first_place, digits_fault}
use Rattle.decimal.proofs.Digits.{worth_snoc}

-- ---- the first place

module _ (test : ℕ → Bool) (i n : ℕ) where
  pub place_here : test i ≡ true → first_place test i (suc n) ≡ i
  unfolding first_place
  place_here e = rw e

  pub place_later : test i ≡ false → first_place test i (suc n) ≡ first_place test (i + 1) n
  unfolding first_place
  place_later e = rw e

-- it is one of these places, or the one behind them
place_within : (test : ℕ → Bool) (i n : ℕ) → first_place test i n ≤ i + n
unfolding first_place
place_within test i zero = omega arith
place_within test i (suc n) = by (test i) (place_within test (i + 1) n)
  where
    by : (t : Bool) → first_place test (i + 1) n ≤ i + 1 + n → pick t i (first_place test (i + 1) n) ≤ i + suc n
    by true h = omega arith
    by false h = omega arith

pub fault_within : (s : List ℕ) → digits_fault s ≤ length s
unfolding digits_fault
fault_within s = let h = place_within (stops_at s) 0 (length s) in omega arith

-- ---- whether a decimal stops at a place

-- one digit more
pub worth_take : (s : List ℕ) (i : ℕ) → i < length s → worth (take (i + 1) s) ≡ worth (take i s) * 10 + (get_or s i 0 - 48)
worth_take s i h = rw (add-one, take-suc s i 0 h) (worth_snoc (take i s) (get_or s i 0))

module _ (s : List ℕ) (i : ℕ) where
  pub stops_digit : is_digit (get_or s i 0) ≡ false → stops_at s i ≡ true
  unfolding stops_at
  stops_digit e = rw e

  pub stops_over : 18446744073709551615 < worth (take (i + 1) s) → stops_at s i ≡ true
  unfolding stops_at
  stops_over h = rw (lt-ltb _ _ h) (or-true (not (is_digit (get_or s i 0))))

  pub stops_not : is_digit (get_or s i 0) ≡ true → worth (take (i + 1) s) ≤ 18446744073709551615 → stops_at s i ≡ false
  unfolding stops_at
  stops_not e h = rw (e, le-ltb _ _ h)

-- ---- the first fault of digits

-- no place before i is one
pub record Unstopped (s : List ℕ) (i : ℕ) : Type 0 where
  pub within : i ≤ length s
  pub same : first_place (stops_at s) i (length s - i) ≡ digits_fault s

pub unstopped_first : (s : List ℕ) → Unstopped s 0
unfolding digits_fault
unstopped_first s = let z : length s - 0 ≡ length s = omega arith in record { within = omega arith; same = rw z }

module _ {s : List ℕ} {i : ℕ} (g : Unstopped s i) (h : i < length s) where
  left : length s - i ≡ suc (length s - (i + 1))
  left = omega arith

  pub unstopped_turn : stops_at s i ≡ false → Unstopped s (i + 1)
  unstopped_turn e =
      record { within = omega arith; same = sym (place_later (stops_at s) i (length s - (i + 1)) e) ∙ (rw left at g.same) }

  pub stopped : stops_at s i ≡ true → i ≡ digits_fault s
  stopped e = sym (place_here (stops_at s) i (length s - (i + 1)) e) ∙ (rw left at g.same)
