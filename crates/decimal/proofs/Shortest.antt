-- Laws of a number's shortest decimal: its equations, how many digits it has, and what it is worth. Assumes nothing.
use Prim.Native.Nat.{ℕ, zero, suc, ◌+◌, ◌*◌, ◌/◌, ◌%◌, ◌^◌, ◌≤◌, ◌<◌}
use mathlib.Core.Path.{◌≡◌, refl, sym, ap, ◌∙◌}
use mathlib.Core.Bool.{true}
use mathlib.Core.List.{List, [], ◌∷◌, ◌++◌}
use native.Mathlib.Omega.{arith}
use native.Mathlib.Nat.{le_refl, le_of_eq, lt_trans, pow-suc, mul_assoc, div-lt_iff_lt-mul}
use native.Mathlib.Decide.{dec_lt}
use native.Mathlib.Numerals.{add-one}
use lib.ListN.{length, length-append}
use lib.Dec.{lit<}
use borrow.Author.Tests.{lt-ltb, le-ltb}
use Rattle.decimal.specs.Decimal.{all_digits, worth}
use Rattle.decimal.specs.Shortest.{shortest_by, shortest}
use Rattle.decimal.proofs.Digits.{digit_yes, digits_snoc, worth_snoc}

-- ---- its equations

by_one : (f n : ℕ) → n < 10 → shortest_by f n ≡ (48 + n) ∷ []
unfolding shortest_by
by_one zero n h = ap (λ (d : ℕ). (48 + d) ∷ []) (omega arith)
by_one (suc f) n h = rw (lt-ltb _ _ h, shortest_by)

by_more : (f n : ℕ) → 10 ≤ n → shortest_by (suc f) n ≡ shortest_by f (n / 10) ++ (48 + n % 10) ∷ []
unfolding shortest_by
by_more f n h = rw (le-ltb _ _ h, shortest_by)

-- any number of digits that is large enough gives the same
by_same : (f g n : ℕ) → n ≤ f → n ≤ g → shortest_by f n ≡ shortest_by g n
by_same zero g n p q = by_one zero n (omega arith) ∙ sym (by_one g n (omega arith))
by_same (suc f) zero n p q = by_one (suc f) n (omega arith) ∙ sym (by_one zero n (omega arith))
by_same (suc f) (suc g) n p q = by (dec_lt n 10) (by_same f g (n / 10))
  where
    by : Dec (n < 10) → (n / 10 ≤ f → n / 10 ≤ g → shortest_by f (n / 10) ≡ shortest_by g (n / 10)) → shortest_by (suc f) n ≡ shortest_by (suc g) n
    by (yes h) ih = by_one (suc f) n h ∙ sym (by_one (suc g) n h)
    by (no h) ih =
        let l : 10 ≤ n = omega arith in
        by_more f n l ∙ ap (λ (d : List ℕ). d ++ (48 + n % 10) ∷ []) (ih (omega arith) (omega arith)) ∙ sym (by_more g n l)

pub shortest_one : (n : ℕ) → n < 10 → shortest n ≡ (48 + n) ∷ []
unfolding shortest
shortest_one n h = by_one n n h

pub shortest_more : (n : ℕ) → 10 ≤ n → shortest n ≡ shortest (n / 10) ++ (48 + n % 10) ∷ []
unfolding shortest
shortest_more zero h = absurd (omega arith)
shortest_more (suc n) h = by_more n (suc n) h ∙ ap (λ (l : List ℕ). l ++ (48 + suc n % 10) ∷ []) (by_same n (suc n / 10) (suc n / 10) (omega arith) (le_refl _))

-- induction on the digits: a number below ten, and another from a tenth of it
pub by_tenths : (P : ℕ → Type 0) → ((n : ℕ) → n < 10 → P n) → ((n : ℕ) → 10 ≤ n → P (n / 10) → P n) → (n : ℕ) → P n
by_tenths P one more n = go n n (le_refl n)
  where
    go : (f n : ℕ) → n ≤ f → P n
    go zero n h = one n (omega arith)
    go (suc f) n h = elim (dec_lt n 10) [ yes l ↦ one n l | no l ↦ more n (omega arith) (go f (n / 10) (omega arith)) ]

-- ---- how many digits

pub length_one : (n : ℕ) → n < 10 → length (shortest n) ≡ 1
length_one n h = rw (shortest_one n h)

pub length_more : (n : ℕ) → 10 ≤ n → length (shortest n) ≡ length (shortest (n / 10)) + 1
length_more n h = rw (shortest_more n h) (length-append (shortest (n / 10)) _)

pub length_some : (n : ℕ) → 0 < length (shortest n)
length_some =
    by_tenths (λ (n : ℕ). 0 < length (shortest n))
    (λ n h. let e = length_one n h in omega arith)
    (λ n h ih. let e = length_more n h in omega arith)

-- a number below 10 ^ (k + 1) has at most k + 1 digits
pub length_bound : (k n : ℕ) → n < 10 ^ suc k → length (shortest n) ≤ suc k
length_bound zero n h = le_of_eq (length_one n h)
length_bound (suc k) n h =
    elim (dec_lt n 10) [
      | yes l ↦ let e = length_one n l in omega arith
      | no l ↦
          let e = length_more n (omega arith) in
          let i = length_bound k (n / 10) ((div-lt_iff_lt-mul (lit< tt)).1 (rw pow-suc at h)) in
          omega arith
    ]

-- and a number is below ten to as many as it has digits
pub below_power : (n : ℕ) → n < 10 ^ length (shortest n)
below_power =
    by_tenths (λ (n : ℕ). n < 10 ^ length (shortest n))
    (λ n h. rw (length_one n h) h)
    (λ n h ih. rw (length_more n h, add-one, pow-suc) (omega arith))

pub length_20 : (n : ℕ) → n < 2 ^ 64 → length (shortest n) ≤ 20
length_20 n h = length_bound 19 n (lt_trans h (lit< tt))

-- ---- its digits, and what they are worth

pub shortest_digits_only : (n : ℕ) → all_digits (shortest n) ≡ true
unfolding all_digits
shortest_digits_only =
    by_tenths (λ (n : ℕ). all_digits (shortest n) ≡ true)
    (λ n h. rw (shortest_one n h, digit_yes (48 + n) (omega arith) (omega arith)))
    (λ n h ih. rw (shortest_more n h, digits_snoc, ih, digit_yes (48 + n % 10) (omega arith) (omega arith)))

pub shortest_worth : (n : ℕ) → worth (shortest n) ≡ n
unfolding worth
shortest_worth =
    by_tenths (λ (n : ℕ). worth (shortest n) ≡ n)
    (λ n h. rw (shortest_one n h) (omega arith))
    (λ n h ih. rw (shortest_more n h, worth_snoc, ih) (omega arith))

-- ---- the last k digits of m

unfoldable pub last_digits : ℕ → ℕ → List ℕ
last_digits zero m = []
last_digits (suc k) m = last_digits k (m / 10) ++ (48 + m % 10) ∷ []

pub length_last : (k m : ℕ) → length (last_digits k m) ≡ k
unfolding last_digits
length_last zero m = refl
length_last (suc k) m = let e = length_last k (m / 10) in length-append (last_digits k (m / 10)) _ ∙ omega arith

-- a number's shortest decimal is as many of its last digits
pub shortest_last : (n : ℕ) → shortest n ≡ last_digits (length (shortest n)) n
unfolding last_digits
shortest_last =
    by_tenths (λ (n : ℕ). shortest n ≡ last_digits (length (shortest n)) n)
    (λ n h. rw (length_one n h, shortest_one n h) (ap (λ (d : ℕ). (48 + d) ∷ []) (omega arith)))
    (λ n h ih. rw (length_more n h, add-one) (shortest_more n h ∙ ap (λ (l : List ℕ). l ++ (48 + n % 10) ∷ []) ih))

-- the first of the last k + 1 digits, and the others
pub first_digit : (k d r : ℕ) → d < 10 → r < 10 ^ k → last_digits (suc k) (d * 10 ^ k + r) ≡ (48 + d) ∷ last_digits k r
unfolding last_digits
first_digit zero d r h l = ap (λ (x : ℕ). (48 + x) ∷ []) (omega arith)
first_digit (suc k) d r h l =
    let e : d * 10 ^ suc k ≡ d * 10 ^ k * 10 = rw pow-suc (sym (mul_assoc d (10 ^ k) 10)) in
    let m : ℕ = d * 10 ^ suc k + r in
    let q : m / 10 ≡ d * 10 ^ k + r / 10 = omega arith in
    let z : m % 10 ≡ r % 10 = omega arith in
    let i = first_digit k d (r / 10) h ((div-lt_iff_lt-mul (lit< tt)).1 (rw pow-suc at l)) in
    ap (λ (s : List ℕ). s ++ (48 + m % 10) ∷ []) (ap (last_digits (suc k)) q ∙ i) ∙ ap (λ (x : ℕ). ((48 + d) ∷ last_digits k (r / 10)) ++ (48 + x) ∷ []) z
