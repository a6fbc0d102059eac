-- Laws of digits and of what they are worth, from the first digit on and from the last. Assumes nothing.
use Prim.Native.Nat.{ℕ, ◌+◌, ◌-◌, ◌*◌, ◌≤◌}
use mathlib.Core.Path.{◌≡◌, sym}
use mathlib.Core.Bool.{true, ◌&&◌, and_assoc, and-true, and-eq-true_iff}
use mathlib.Core.List.{List, [], ◌∷◌, ◌++◌}
use native.Mathlib.Omega.{arith}
use native.Mathlib.Nat.{pow-suc}
use native.Mathlib.Numerals.{add-one}
use lib.ListN.{length-append}
use lib.Dec.{leb}
use borrow.Author.Tests.{le-leb, leb-true}
use Rattle.decimal.specs.Decimal.{is_digit, all_digits, worth}

-- ---- the test

pub digit_yes : (b : ℕ) → 48 ≤ b → b ≤ 57 → is_digit b ≡ true
unfolding is_digit
digit_yes b p q = simp (le-leb _ _ p, le-leb _ _ q)

pub digit_range : (b : ℕ) → is_digit b ≡ true → (48 ≤ b) × (b ≤ 57)
unfolding is_digit
digit_range b e = let g = (and-eq-true_iff (leb 48 b) (leb b 57)).0 e in (leb-true 48 b g.0, leb-true b 57 g.1)

pub digits_cons : (b : ℕ) (s : List ℕ) → all_digits (b ∷ s) ≡ true → (is_digit b ≡ true) × (all_digits s ≡ true)
unfolding all_digits
digits_cons b s e = (and-eq-true_iff (is_digit b) (all_digits s)).0 e

-- ---- one digit more at the end

pub digits_snoc : (s : List ℕ) (d : ℕ) → all_digits (s ++ d ∷ []) ≡ (all_digits s && is_digit d)
unfolding all_digits
digits_snoc [] d = and-true (is_digit d)
digits_snoc (b ∷ s) d = rw (digits_snoc s d) (sym (and_assoc (is_digit b) (all_digits s) (is_digit d)))

pub worth_snoc : (s : List ℕ) (d : ℕ) → worth (s ++ d ∷ []) ≡ worth s * 10 + (d - 48)
unfolding worth
worth_snoc [] d = omega arith
worth_snoc (b ∷ s) d = rw (worth_snoc s d, length-append s (d ∷ []), add-one, pow-suc) (omega arith)
