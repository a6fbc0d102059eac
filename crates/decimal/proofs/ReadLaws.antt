-- Reading a decimal from its first digit on: what the digits still to come make of the number so far. Assumes nothing.
use Prim.Native.Nat.{ℕ, ◌+◌, ◌-◌, ◌*◌, ◌^◌, ◌≤◌, ◌<◌, zero-le}
use mathlib.Core.Path.{◌≡◌, refl, sym, ap, ◌∙◌}
use mathlib.Core.Bool.{Bool, true, false, ◌&&◌, and-false}
use mathlib.Core.List.{List, [], ◌∷◌}
use mathlib.Core.Option.{Option, some, none}
use native.Mathlib.Nat.{pow-suc, mul-one, add-zero, mul-le-mul_left, pow-le-pow_right, le_trans}
use native.Mathlib.Omega.{arith}
use mir.Syntax.{w64}
use mir.Val.{Fits}
use lib.ListN.{length, get_or, take, drop, drop_of_length-le, length-drop}
use lib.Dec.{leb, lit<}
use borrow.Author.Tests.{le-leb, lt-leb, eq-eqb, ne_eqb}
use Rattle.std.specs.Prelude.{Result, Ok, Err}
use Rattle.std.specs.Char.{is_ascii_digit}
use Rattle.text.specs.Pick.{pick}
use Rattle.text.proofs.Lists.{here, rest_all}
use Rattle.decimal.specs.Decimal.{is_digit, all_digits, worth, digits_value, value_of, first_place, digits_fault, fault_of, value_answer, digits_answer, decimal_answer}
use Rattle.decimal.specs.Paper.{number_paper}
use Rattle.decimal.specs.declared.read.BadDecimal.{BadDecimal}
use Rattle.decimal.proofs.Digits.{digit_range}
use Rattle.decimal.proofs.Value.{answer_value, answer_bad}
use Rattle.decimal.proofs.FaultLaws.{fault_within, worth_take, stops_digit, stops_over, stops_not, Unstopped, unstopped_first, unstopped_turn, stopped}

-- ---- the value, where the test holds and it is not too much

bounded : Bool → ℕ → Option ℕ
bounded t v = pick (t && leb v 18446744073709551615) (some v) none

bounded_good : (v : ℕ) → v ≤ 18446744073709551615 → bounded true v ≡ some v
unfolding bounded
bounded_good v h = simp (le-leb _ _ h)

bounded_over : (t : Bool) (v : ℕ) → 18446744073709551615 < v → bounded t v ≡ none
unfolding bounded
bounded_over t v h = simp (lt-leb _ _ h, and-false)

bounded_no : (v : ℕ) → bounded false v ≡ none
unfolding bounded
bounded_no v = refl

-- ---- the number so far, a, before the digits l

sofar : ℕ → List ℕ → ℕ
sofar a l = a * 10 ^ length l + worth l

pub after : ℕ → List ℕ → Option ℕ
after a l = bounded (all_digits l) (sofar a l)

sofar_digit : (a b : ℕ) (l : List ℕ) → sofar a (b ∷ l) ≡ sofar (a * 10 + (b - 48)) l
unfolding sofar worth
sofar_digit a b l = simp pow-suc (omega arith)

sofar_least : (a : ℕ) (l : List ℕ) → a ≤ sofar a l
unfolding sofar
sofar_least a l =
    let p : 1 ≤ 10 ^ length l = pow-le-pow_right (lit< tt) {i = 0} zero-le in
    omega (arith, mul-le-mul_left a p)

sofar_zero : (l : List ℕ) → worth l ≡ sofar 0 l
unfolding sofar
sofar_zero l = omega arith

after_first : (b : ℕ) (s : List ℕ) → digits_value (b ∷ s) ≡ after 0 (b ∷ s)
unfolding digits_value after bounded
after_first b s = ap (bounded (all_digits (b ∷ s))) (sofar_zero (b ∷ s))

after_digit : (a b : ℕ) (l : List ℕ) → is_digit b ≡ true → after a (b ∷ l) ≡ after (a * 10 + (b - 48)) l
unfolding after all_digits
after_digit a b l h = simp (h, sofar_digit)

after_stop : (a b : ℕ) (l : List ℕ) → is_digit b ≡ false → after a (b ∷ l) ≡ none
unfolding after all_digits
after_stop a b l h = simp (h, bounded_no)

after_over : (a : ℕ) (l : List ℕ) → 18446744073709551615 < a → after a l ≡ none
unfolding after
after_over a l h = bounded_over (all_digits l) (sofar a l) (le_trans h (sofar_least a l))

after_none : (a : ℕ) → a ≤ 18446744073709551615 → after a [] ≡ some a
unfolding after all_digits sofar worth
after_none a h = simp (mul-one, add-zero, bounded_good a h)

-- ---- the answer, from the value

abbrev pub fault_at : ℕ → BadDecimal
fault_at k = record { at = k }

bad : (s : List ℕ) {k : ℕ} → digits_value s ≡ none → k ≡ digits_fault s → number_paper (Err (fault_at k)) ≡ digits_answer s
unfolding number_paper digits_answer value_answer
bad s e f = rw (e, f)

good : (s : List ℕ) (n : ℕ) → digits_value s ≡ some n → number_paper (Ok n) ≡ digits_answer s
unfolding number_paper digits_answer value_answer
good s n e = rw e

-- ---- the loop's invariant, and what each way through a turn makes of it

-- a is what the digits before i are worth: with those from i on it makes the value, and none of them is at fault
pub record Going (s : List ℕ) (a i : ℕ) : Type 0 where
  pub within : i ≤ length s
  pub fits : a ≤ 18446744073709551615
  pub same : after a (drop i s) ≡ digits_value s
  pub sofar : worth (take i s) ≡ a
  pub faultless : Unstopped s i

pub nothing : (s : List ℕ) → length s ≡ 0 → number_paper (Err (fault_at 0)) ≡ digits_answer s
unfolding digits_value digits_fault
nothing [] h = bad [] refl refl
nothing (b ∷ s) h = absurd (omega arith)

pub first : (s : List ℕ) → (length s ≡ 0 → ⊥) → Going s 0 0
unfolding worth
first [] n = absurd (n refl)
first (b ∷ s) n = record { within = omega arith; fits = omega arith; same = sym (after_first b s); sofar = refl; faultless = unstopped_first (b ∷ s) }

-- premises in the code's own words: the byte is a digit or not, the number so far is at most a tenth of the greatest, a digit d fits
module _ {s : List ℕ} {a i : ℕ} (g : Going s a i) (h : i < length s) where
  pub stop : {r : Bool} → r ≡ is_ascii_digit (get_or s i 0) → r ≡ false → number_paper (Err (fault_at i)) ≡ digits_answer s
  unfolding is_digit
  stop e f = bad s (sym (rw (here s i h) at g.same) ∙ after_stop a _ _ (sym e ∙ f)) (stopped g.faultless h (stops_digit s i (sym e ∙ f)))

  module _ {r : Bool} (e : r ≡ is_ascii_digit (get_or s i 0)) (f : r ≡ true) where
    digit : is_digit (get_or s i 0) ≡ true
    unfolding is_digit
    digit = sym e ∙ f

    step : after (a * 10 + (get_or s i 0 - 48)) (drop (i + 1) s) ≡ digits_value s
    step = sym (after_digit a (get_or s i 0) (drop (i + 1) s) digit) ∙ (rw (here s i h) at g.same)

    more : worth (take (i + 1) s) ≡ a * 10 + (get_or s i 0 - 48)
    more = rw g.sofar at (worth_take s i h)

    pub digit_low : 48 ≤ get_or s i 0
    digit_low = (digit_range _ digit).0

    pub turn : {d : ℕ} → d ≡ get_or s i 0 - 48 → a ≤ 1844674407370955161 → d ≤ 18446744073709551615 - a * 10 → Going s (a * 10 + d) (i + 1)
    turn q t k =
        let w = more in
        rw q
        (record {
          within = omega arith;
          fits = omega arith;
          same = step;
          sofar = w;
          faultless = unstopped_turn g.faultless h (stops_not s i digit (omega arith));
        })

    over : 18446744073709551615 < a * 10 + (get_or s i 0 - 48) → number_paper (Err (fault_at i)) ≡ digits_answer s
    over o =
        let w = more in
        bad s (sym step ∙ after_over _ _ o) (stopped g.faultless h (stops_over s i (omega arith)))

    pub over_tenth : 1844674407370955161 < a → number_paper (Err (fault_at i)) ≡ digits_answer s
    over_tenth o = over (omega arith)

    pub over_digit : {d : ℕ} → d ≡ get_or s i 0 - 48 → 18446744073709551615 - a * 10 < d → number_paper (Err (fault_at i)) ≡ digits_answer s
    over_digit q o = over (omega arith)

pub past : {s : List ℕ} {a i : ℕ} → Going s a i → length s ≤ i → number_paper (Ok a) ≡ digits_answer s
past {s} {a} {i} g h = good s a (sym (rw (drop_of_length-le s h) at g.same) ∙ after_none a g.fits)

-- ---- the sign

-- what stands behind it, as it is lent
module _ (r : Result ℕ BadDecimal) (s : List ℕ) (d : number_paper r ≡ digits_answer (take (length s - 1) (drop 1 s))) where
  behind : number_paper r ≡ digits_answer (drop 1 s)
  behind = rw (rest_all s 1) at d

  module _ {b : BadDecimal} (q : r ≡ Err b) where
    fault : (digits_value (drop 1 s) ≡ none) × (b.at ≡ digits_fault (drop 1 s))
    unfolding digits_answer
    fault = answer_bad (digits_value (drop 1 s)) (digits_fault (drop 1 s)) (rw q at behind)

    pub sign_fits : 1 ≤ length s → length s < 2 ^ 64 → Fits w64 (b.at + 1)
    sign_fits h w = let e = fault.1 in let l = fault_within (drop 1 s) in let n = length-drop 1 s in omega arith

    pub sign_fault : (length s ≡ 0 → ⊥) → get_or s 0 0 ≡ 43 → number_paper (Err (fault_at (b.at + 1))) ≡ decimal_answer s
    unfolding number_paper decimal_answer value_of fault_of value_answer
    sign_fault h e = by s h e fault.0 fault.1
      where
        by : (s : List ℕ) → (length s ≡ 0 → ⊥) → get_or s 0 0 ≡ 43 → digits_value (drop 1 s) ≡ none → b.at ≡ digits_fault (drop 1 s)
            → number_paper (Err (fault_at (b.at + 1))) ≡ decimal_answer s
        by [] h e v f = absurd (h refl)
        by (a ∷ t) h e v f = let z : b.at + 1 ≡ 1 + digits_fault t = omega arith in rw (eq-eqb a 43 e, v, z)

  pub sign_value : {n : ℕ} → r ≡ Ok n → (length s ≡ 0 → ⊥) → get_or s 0 0 ≡ 43 → number_paper (Ok n) ≡ decimal_answer s
  unfolding number_paper digits_answer decimal_answer value_of value_answer
  sign_value {n} q h e = by s h e (answer_value (digits_value (drop 1 s)) (digits_fault (drop 1 s)) (rw q at behind))
    where
      by : (s : List ℕ) → (length s ≡ 0 → ⊥) → get_or s 0 0 ≡ 43 → digits_value (drop 1 s) ≡ some n → number_paper (Ok n) ≡ decimal_answer s
      by [] h e v = absurd (h refl)
      by (b ∷ t) h e v = rw (eq-eqb b 43 e, v)

pub sign_none : (r : Result ℕ BadDecimal) (s : List ℕ) → number_paper r ≡ digits_answer s → length s < 1 → number_paper r ≡ decimal_answer s
unfolding digits_answer decimal_answer value_of fault_of digits_value digits_fault first_place
sign_none r [] d h = d
sign_none r (b ∷ s) d h = absurd (omega arith)

pub sign_not : (r : Result ℕ BadDecimal) (s : List ℕ) → number_paper r ≡ digits_answer s → (length s ≡ 0 → ⊥) → (get_or s 0 0 ≡ 43 → ⊥)
    → number_paper r ≡ decimal_answer s
unfolding digits_answer decimal_answer value_of fault_of
sign_not r [] d h e = absurd (h refl)
sign_not r (b ∷ s) d h e = simp (ne_eqb _ _ e) d

pub ruleset laws = (nothing, first, stop, digit_low, turn, over_tenth, over_digit, past, sign_none, sign_value, sign_fits, sign_fault, sign_not)
