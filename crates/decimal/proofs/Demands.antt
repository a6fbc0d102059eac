-- What is printed reads back, and no other text that reads so is as short: a number and how many digits spell it settle which digits they are. Assumes nothing.
use Prim.Native.Nat.{ℕ, suc, ◌+◌, ◌-◌, ◌*◌, ◌/◌, ◌%◌, ◌^◌, ◌≤◌, ◌<◌}
use mathlib.Core.Path.{◌≡◌, refl, sym, ap, ap₂, ◌∙◌}
use mathlib.Core.Bool.{true, and-eq-true_iff}
use mathlib.Core.List.{List, [], ◌∷◌, ◌++◌}
use native.Mathlib.Omega.{arith}
use native.Mathlib.Nat.{pow-suc, zero-mul, zero-add}
use native.Mathlib.Numerals.{add-one}
use native.Mathlib.Decide.{dec_lt}
use lib.ListN.{length, length-append}
use borrow.Author.Tests.{ne_eqb}
use Rattle.decimal.specs.Decimal.{is_digit, all_digits, worth, digits_value, value_of}
use Rattle.decimal.specs.Shortest.{shortest}
use Rattle.decimal.specs.Demands.{Digits, Decimal, bare, signed, ReadsDecimals, ReadsAlone, PassesZeros, ReadsBack, NoneShorter}
use Rattle.text.proofs.Lists.{by_snoc}
use Rattle.decimal.proofs.Digits.{digit_range, digits_snoc, worth_snoc}
use Rattle.decimal.proofs.Shortest.{length_bound, last_digits, shortest_last}
use Rattle.decimal.proofs.Lead.{shortest_plain}
use Rattle.decimal.proofs.Value.{digits_are, digits_told, value_decimal, digits_value_lem, decimal_value}

pub reads_decimals : ReadsDecimals value_of
unfolding ReadsDecimals
reads_decimals t n = (value_decimal t n, decimal_value t)

pub reads_alone : ReadsAlone digits_value
reads_alone t n = (digits_are t n, λ g. digits_told t g.0 g.1)

zero_first : (b : ℕ) (s : List ℕ) → digits_value (48 ∷ b ∷ s) ≡ digits_value (b ∷ s)
unfolding digits_value all_digits is_digit worth
zero_first b s = simp (zero-mul, zero-add)

pub passes_zeros : PassesZeros value_of
unfolding value_of
passes_zeros = record { bare = λ b s h. rw (ne_eqb b 43 h) (zero_first b s); signed = zero_first }

pub reads_back : ReadsBack shortest value_of
reads_back n h = digits_value_lem (shortest n) (shortest_plain n).spelled h

-- ---- digits, from their last

-- worth less than ten to their number, and the last digits of what they are worth
record Spelled (s : List ℕ) : Type 0 where
  bound : worth s < 10 ^ length s
  last : s ≡ last_digits (length s) (worth s)

spelled_more : (s : List ℕ) (d : ℕ) → (all_digits s ≡ true → Spelled s) → all_digits (s ++ d ∷ []) ≡ true → Spelled (s ++ d ∷ [])
unfolding last_digits
spelled_more s d ih e =
    let a = (and-eq-true_iff (all_digits s) (is_digit d)).0 (sym (digits_snoc s d) ∙ e) in
    let r = digit_range d a.1 in
    let g = ih a.0 in
    let l : length (s ++ d ∷ []) ≡ suc (length s) = length-append s (d ∷ []) ∙ add-one (length s) in
    let b = g.bound in
    let x : (worth s * 10 + (d - 48)) / 10 ≡ worth s = omega arith in
    let y : 48 + (worth s * 10 + (d - 48)) % 10 ≡ d = omega arith in
    record {
      bound = rw (l, worth_snoc s d, pow-suc) (omega arith);
      last = rw (l, worth_snoc s d, x, y) (ap (λ (t : List ℕ). t ++ d ∷ []) g.last);
    }

digits_spelled : (s : List ℕ) → all_digits s ≡ true → Spelled s
unfolding worth last_digits
digits_spelled = by_snoc (λ (s : List ℕ). all_digits s ≡ true → Spelled s) (λ e. record { bound = omega arith; last = refl }) spelled_more

-- ---- none is shorter

module _ {s : List ℕ} {n : ℕ} (g : Digits s n) where
  least : length (shortest n) ≤ length s
  least =
      let k : length s ≡ suc (length s - 1) = let o = g.one in omega arith in
      rw k (length_bound (length s - 1) n (rw (g.value, k) at (digits_spelled s g.digits).bound))

  only : length s ≡ length (shortest n) → s ≡ shortest n
  only e = (digits_spelled s g.digits).last ∙ ap₂ last_digits e g.value ∙ sym (shortest_last n)

pub none_shorter : NoneShorter shortest value_of
none_shorter n t e d = by (value_decimal t n e) d
  where
    by : {t : List ℕ} → Decimal t n → (t ≡ shortest n → ⊥) → length (shortest n) < length t
    by (bare {s} g b) d =
        let l = least g in
        elim (dec_lt (length (shortest n)) (length s)) [ yes h ↦ h | no h ↦ absurd (d (only g (omega arith))) ]
    by (signed g b) d = let l = least g in omega arith
