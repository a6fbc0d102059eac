-- A number's shortest decimal is its only one without a leading zero: by induction on the digits from the last. Assumes nothing.
use Prim.Native.Nat.{ℕ, ◌+◌, ◌-◌, ◌*◌, ◌/◌, ◌%◌, ◌^◌, ◌≤◌, ◌<◌, zero-le}
use mathlib.Core.Path.{◌≡◌, refl, sym, ap, ◌∙◌}
use mathlib.Core.Bool.{and-eq-true_iff}
use mathlib.Core.List.{List, [], ◌∷◌, ◌++◌}
use native.Mathlib.Omega.{arith}
use native.Mathlib.Nat.{mul-pos, pow-le-pow_right}
use native.Mathlib.Decide.{dec_lt}
use lib.ListN.{length, get_or, length-append, get_or-append}
use lib.Dec.{lit<}
use Rattle.text.proofs.Lists.{by_snoc}
use Rattle.decimal.specs.Demands.{Plain}
use Rattle.decimal.specs.Decimal.{is_digit, all_digits, worth}
use Rattle.decimal.specs.Shortest.{shortest}
use Rattle.decimal.proofs.Digits.{digit_range, digits_cons, digits_snoc, worth_snoc}
use Rattle.decimal.proofs.Shortest.{shortest_one, shortest_more, by_tenths, length_one, length_some, shortest_digits_only, shortest_worth}

-- ---- digits without a leading zero are the shortest

lead_worth : (b : ℕ) (s : List ℕ) → 48 < b → 1 ≤ worth (b ∷ s)
unfolding worth
lead_worth b s h =
    let p : 1 ≤ 10 ^ length s = pow-le-pow_right (lit< tt) {i = 0} zero-le in
    let q : 0 < b - 48 = omega arith in
    let m = mul-pos q p in
    omega arith

one_digit : (d n : ℕ) → Plain (d ∷ []) n → d ∷ [] ≡ shortest n
unfolding worth
one_digit d n g =
    let r = digit_range d (digits_cons d [] g.spelled.digits).0 in
    let v = g.spelled.value in
    let e : d ≡ 48 + n = omega arith in
    rw (shortest_one n (omega arith), e)

more_digits : (b : ℕ) (s : List ℕ) (d n : ℕ) → Plain ((b ∷ s) ++ d ∷ []) n → ((n : ℕ) → Plain (b ∷ s) n → b ∷ s ≡ shortest n)
    → (b ∷ s) ++ d ∷ [] ≡ shortest n
more_digits b s d n g ih =
    let a = (and-eq-true_iff (all_digits (b ∷ s)) (is_digit d)).0 (sym (digits_snoc (b ∷ s) d) ∙ g.spelled.digits) in
    let r = digit_range d a.1 in
    let q = digit_range b (digits_cons b s a.0).0 in
    let v : worth (b ∷ s) * 10 + (d - 48) ≡ n = sym (worth_snoc (b ∷ s) d) ∙ g.spelled.value in
    let long : 1 < length ((b ∷ s) ++ d ∷ []) = simp length-append (omega arith) in
    let z : b ≡ 48 → ⊥ = g.lead long in
    let w : 1 ≤ worth (b ∷ s) = lead_worth b s (omega arith) in
    let h : 10 ≤ n = omega arith in
    let x : n / 10 ≡ worth (b ∷ s) = omega arith in
    let y : 48 + n % 10 ≡ d = omega arith in
    rw (shortest_more n h, x, y) (ap (λ (l : List ℕ). l ++ d ∷ []) (ih (worth (b ∷ s)) (record { spelled = record { one = omega arith; digits = a.0; value = refl }; lead = λ _. z })))

pub plain_only : (s : List ℕ) (n : ℕ) → Plain s n → s ≡ shortest n
plain_only = by_snoc (λ (s : List ℕ). (n : ℕ) → Plain s n → s ≡ shortest n) (λ n g. let o = g.spelled.one in absurd (omega arith)) by
  where
    by : (s : List ℕ) (d : ℕ) → ((n : ℕ) → Plain s n → s ≡ shortest n) → (n : ℕ) → Plain (s ++ d ∷ []) n → s ++ d ∷ [] ≡ shortest n
    by [] d ih n g = one_digit d n g
    by (b ∷ s) d ih n g = more_digits b s d n g ih

-- ---- and the shortest has none

lead_some : (n : ℕ) → 1 ≤ n → get_or (shortest n) 0 0 ≡ 48 → ⊥
lead_some =
    by_tenths (λ (n : ℕ). 1 ≤ n → get_or (shortest n) 0 0 ≡ 48 → ⊥)
    (λ n h p e. let f = rw (shortest_one n h) at e in omega arith)
    (λ n h ih p e. ih (omega arith) (rw (shortest_more n h, get_or-append (shortest (n / 10)) ((48 + n % 10) ∷ []) 0 0 (length_some (n / 10))) at e))

shortest_no_zero : (n : ℕ) → 1 < length (shortest n) → get_or (shortest n) 0 0 ≡ 48 → ⊥
shortest_no_zero n h e = elim (dec_lt n 10) [ yes l ↦ absurd (let k = length_one n l in omega arith) | no l ↦ lead_some n (omega arith) e ]

pub shortest_plain : (n : ℕ) → Plain (shortest n) n
shortest_plain n =
    record { spelled = record { one = length_some n; digits = shortest_digits_only n; value = shortest_worth n }; lead = shortest_no_zero n }
