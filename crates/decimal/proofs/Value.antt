-- What a text with a value is, and how a caller reads the answer. Assumes nothing.
use Prim.Native.Nat.{ℕ, ◌≤◌}
use mathlib.Core.Path.{◌≡◌, refl, ap}
use mathlib.Core.Bool.{Bool, true, false, ◌&&◌, and-eq-true_iff}
use mathlib.Core.List.{List, [], ◌∷◌}
use mathlib.Core.Option.{Option, some, none}
use native.Mathlib.Omega.{arith}
use lib.Dec.{leb, eqb}
use Rattle.std.specs.Prelude.{Ok, Err}
use borrow.Author.Tests.{le-leb, leb-true, eqb-true, ne_eqb}
use Rattle.text.specs.Pick.{pick}
use Rattle.decimal.specs.Demands.{Digits, Decimal, bare, signed}
use Rattle.decimal.specs.Decimal.{all_digits, worth, digits_value, value_of, fault_of, value_answer, decimal_answer}
use Rattle.decimal.specs.Paper.{number_paper}
use Rattle.decimal.specs.declared.read.BadDecimal.{BadDecimal}
use Rattle.decimal.proofs.Digits.{digit_range, digits_cons}

-- ---- a text with a value is digits, or '+' and digits

pub digits_are : (s : List ℕ) (n : ℕ) → digits_value s ≡ some n → Digits s n × (n ≤ 18446744073709551615)
unfolding digits_value
digits_are [] n e = let z : ◌≡◌ {A = ℕ} 0 1 = cc in absurd (omega arith)
digits_are (b ∷ s) n e = by (all_digits (b ∷ s) && leb (worth (b ∷ s)) 18446744073709551615) refl e
  where
    by : (t : Bool) → (all_digits (b ∷ s) && leb (worth (b ∷ s)) 18446744073709551615) ≡ t → pick t (some (worth (b ∷ s))) none ≡ some n
        → Digits (b ∷ s) n × (n ≤ 18446744073709551615)
    by true h e =
        let g = (and-eq-true_iff (all_digits (b ∷ s)) (leb (worth (b ∷ s)) 18446744073709551615)).0 h in
        let v : worth (b ∷ s) ≡ n = cc in
        (record { one = omega arith; digits = g.0; value = v }, rw v at (leb-true (worth (b ∷ s)) 18446744073709551615 g.1))
    by false h e = let z : ◌≡◌ {A = ℕ} 0 1 = cc in absurd (omega arith)

pub value_decimal : (t : List ℕ) (n : ℕ) → value_of t ≡ some n → Decimal t n
unfolding value_of
value_decimal [] n e = let z : ◌≡◌ {A = ℕ} 0 1 = cc in absurd (omega arith)
value_decimal (b ∷ s) n e = by (eqb b 43) refl e
  where
    by : (t : Bool) → eqb b 43 ≡ t → pick t (digits_value s) (digits_value (b ∷ s)) ≡ some n → Decimal (b ∷ s) n
    by true h e = let g = digits_are s n e in rw (eqb-true b 43 h) (signed g.0 g.1)
    by false h e = let g = digits_are (b ∷ s) n e in bare g.0 g.1

pub digits_told : (s : List ℕ) {n : ℕ} → Digits s n → n ≤ 18446744073709551615 → digits_value s ≡ some n
unfolding digits_value
digits_told [] g h = absurd (omega arith)
digits_told (b ∷ s) g h =
    let w : worth (b ∷ s) ≤ 18446744073709551615 = rw g.value h in
    rw (g.digits, le-leb _ _ w) (ap some g.value)

pub digits_value_lem : (s : List ℕ) {n : ℕ} → Digits s n → n ≤ 18446744073709551615 → value_of s ≡ some n
unfolding value_of
digits_value_lem [] g h = absurd (omega arith)
digits_value_lem (b ∷ s) g h =
    let r = digit_range b (digits_cons b s g.digits).0 in
    rw (ne_eqb b 43 (λ q. absurd (omega arith))) (digits_told (b ∷ s) g h)

pub decimal_value : (t : List ℕ) {n : ℕ} → Decimal t n → value_of t ≡ some n
unfolding value_of
decimal_value t (bare g h) = digits_value_lem t g h
decimal_value t (signed {s} g h) = digits_told s g h

-- ---- the answer, read back

module _ (o : Option ℕ) (f : ℕ) where
  pub answer_value : {n : ℕ} → number_paper (Ok n) ≡ value_answer o f → o ≡ some n
  unfolding number_paper value_answer
  answer_value {n} e = by o e
    where
      by : (o : Option ℕ) → number_paper (Ok n) ≡ value_answer o f → o ≡ some n
      by (some m) e = cc
      by none e = cc

  pub answer_bad : {b : BadDecimal} → number_paper (Err b) ≡ value_answer o f → (o ≡ none) × (b.at ≡ f)
  unfolding number_paper value_answer
  answer_bad {b} e = by o e
    where
      by : (o : Option ℕ) → number_paper (Err b) ≡ value_answer o f → (o ≡ none) × (b.at ≡ f)
      by (some m) e = (cc, cc)
      by none e = (refl, cc)

pub told_value : (n : ℕ) (t : List ℕ) → number_paper (Ok n) ≡ decimal_answer t → value_of t ≡ some n
unfolding decimal_answer
told_value n t e = answer_value (value_of t) (fault_of t) e

pub told_bad : (b : BadDecimal) (t : List ℕ) → number_paper (Err b) ≡ decimal_answer t → (value_of t ≡ none) × (b.at ≡ fault_of t)
unfolding decimal_answer
told_bad b t e = answer_bad (value_of t) (fault_of t) e
