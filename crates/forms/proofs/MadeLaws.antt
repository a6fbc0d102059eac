-- The tests of a form that can be made, each by the definition's part. Assumes nothing.
use Prim.Native.Nat.{ℕ, ◌+◌, ◌-◌, ◌*◌, ◌<◌, ◌≤◌}
use mathlib.Core.Path.{◌≡◌, refl, sym, ap, ◌∙◌}
use mathlib.Core.Bool.{Bool, true, false, ◌&&◌, ◌||◌, and-true, and-false}
use mathlib.Core.List.{List, [], ◌∷◌}
use native.Mathlib.Omega.{arith}
use native.Mathlib.Decide.{ℕ_discrete}
use lib.ListN.{length, get_or, take, drop}
use lib.Seq.{take_all}
use lib.Dec.{leb, eqb}
use borrow.Author.Tests.{le-leb, lt-leb, leb-true, leb-false, eq-eqb, ne_eqb}
use Rattle.text.proofs.SameLaws.{same_self, same_is, same_not}
use Rattle.record.specs.Ending.{Ending, nothing, feed, return_feed, ending_bytes}
use Rattle.record.specs.Paper.{ending_of}
use Rattle.record.specs.Promises.{SizesEnding}
use Rattle.record.specs.declared.ending.Ending.{Ending as DeclaredEnding}
use Rattle.record.proofs.EndingLaws.{nothing_bytes, feed_bytes, return_feed_bytes}
use Rattle.record.proofs.NumberLaws.{last_four}
use Rattle.forms.specs.Form.{end_at, chained, bare, ten_fields, limit, made}

-- ---- FORMAT and the samples empty at INFO's end

pub bare_drop : (places : List ℕ) → bare places ≡ true → drop 16 places ≡ end_at places 7 ∷ 0 ∷ end_at places 7 ∷ 0 ∷ []
unfolding bare
bare_drop places h = same_is _ _ h

pub drop_bare : (places : List ℕ) → drop 16 places ≡ end_at places 7 ∷ 0 ∷ end_at places 7 ∷ 0 ∷ [] → bare places ≡ true
unfolding bare
drop_bare places e = rw e (same_self (end_at places 7 ∷ 0 ∷ end_at places 7 ∷ 0 ∷ []))

module _ (places : List ℕ) (n : length places ≡ 20) where
  tail : drop 16 places ≡ get_or places 16 0 ∷ get_or places 17 0 ∷ get_or places 18 0 ∷ get_or places 19 0 ∷ []
  tail = last_four places n

  -- the four numbers are INFO's end, none, the same end and none
  pub record Tail : Type 0 where
    pub format : get_or places 16 0 ≡ end_at places 7
    pub none : get_or places 17 0 ≡ 0
    pub samples : get_or places 18 0 ≡ end_at places 7
    pub empty : get_or places 19 0 ≡ 0

  tail_is : drop 16 places ≡ end_at places 7 ∷ 0 ∷ end_at places 7 ∷ 0 ∷ [] → Tail
  tail_is e = let f = sym tail ∙ e in record { format = cc; none = cc; samples = cc; empty = cc }

  pub bare_is : bare places ≡ true → Tail
  bare_is h = tail_is (bare_drop places h)

  not_bare : (Tail → ⊥) → false ≡ bare places
  unfolding bare
  not_bare h = sym (same_not _ _ (λ e. h (tail_is e)))

  pub bare_format : (get_or places 17 0 ≡ 0 → ⊥) → false ≡ bare places
  bare_format h = not_bare (λ t. h t.none)

  pub bare_apart : (get_or places 18 0 ≡ get_or places 16 0 → ⊥) → false ≡ bare places
  bare_apart h = not_bare (λ t. h (t.samples ∙ sym t.format))

  pub bare_samples : (get_or places 19 0 ≡ 0 → ⊥) → false ≡ bare places
  bare_samples h = not_bare (λ t. h t.empty)

  pub bare_before : get_or places 16 0 < get_or places 14 0 → false ≡ bare places
  unfolding end_at
  bare_before h = not_bare (λ t. let f = t.format in omega arith)

  pub bare_at_lem : get_or places 17 0 ≡ 0 → get_or places 18 0 ≡ get_or places 16 0 → get_or places 19 0 ≡ 0 → get_or places 14 0 ≤ get_or places 16 0
      → eqb (get_or places 16 0 - get_or places 14 0) (get_or places 15 0) ≡ bare places
  unfolding bare end_at
  bare_at_lem a b c d = by (ℕ_discrete (get_or places 16 0 - get_or places 14 0) (get_or places 15 0))
    where
      by : Dec (get_or places 16 0 - get_or places 14 0 ≡ get_or places 15 0) → eqb (get_or places 16 0 - get_or places 14 0) (get_or places 15 0) ≡ bare places
      by (yes e) =
          let f : get_or places 16 0 ≡ get_or places 14 0 + get_or places 15 0 = omega arith in
          eq-eqb _ _ e ∙ sym (rw (tail, a, b, c, f) (same_self ((get_or places 14 0 + get_or places 15 0) ∷ 0 ∷ (get_or places 14 0 + get_or places 15 0) ∷ 0 ∷ [])))
      by (no h) = ne_eqb _ _ h ∙ not_bare (λ t. h (let f = t.format in omega arith))

-- ---- an input long enough

size_most : (e : Ending) → length (ending_bytes e) ≤ 2
size_most nothing = rw nothing_bytes (omega arith)
size_most feed = rw feed_bytes (omega arith)
size_most return_feed = rw return_feed_bytes (omega arith)

module _ (ending : DeclaredEnding) {size : ℕ} (s : SizesEnding ending size) where
  pub size_fits : size ≤ 9223372036854775807
  size_fits = let m = size_most (ending_of ending) in omega arith

  module _ (places : List ℕ) where
    pub within_far : 9223372036854775807 - size < get_or places 18 0 → false ≡ leb (end_at places 9 + length (ending_bytes (ending_of ending))) limit
    unfolding end_at limit
    within_far h = sym (lt-leb (get_or places 18 0 + get_or places 19 0 + length (ending_bytes (ending_of ending))) 9223372036854775807 (let m = size_fits in omega arith))

    pub within_by : get_or places 18 0 ≤ 9223372036854775807 - size
        → leb (get_or places 19 0) (9223372036854775807 - size - get_or places 18 0) ≡ leb (end_at places 9 + length (ending_bytes (ending_of ending))) limit
    unfolding end_at limit
    within_by h = by (leb (get_or places 19 0) (9223372036854775807 - size - get_or places 18 0)) refl
      where
        by : (b : Bool) → leb (get_or places 19 0) (9223372036854775807 - size - get_or places 18 0) ≡ b
            → b ≡ leb (get_or places 18 0 + get_or places 19 0 + length (ending_bytes (ending_of ending))) 9223372036854775807
        by true e = sym (le-leb (get_or places 18 0 + get_or places 19 0 + length (ending_bytes (ending_of ending))) 9223372036854775807 (let f = size_fits in let m = leb-true (get_or places 19 0) (9223372036854775807 - size - get_or places 18 0) e in omega arith))
        by false e = sym (lt-leb (get_or places 18 0 + get_or places 19 0 + length (ending_bytes (ending_of ending))) 9223372036854775807 (let f = size_fits in let m = leb-false (get_or places 19 0) (9223372036854775807 - size - get_or places 18 0) e in omega arith))

-- ---- all of it

module _ (places : List ℕ) (n : length places ≡ 20) where
  all_taken : take (2 * 10) places ≡ places
  all_taken = take_all 20 places (omega arith)

  ten_is : ten_fields places ≡ (chained places || (chained (take 16 places) && bare places))
  unfolding ten_fields
  ten_is = rw (eq-eqb _ _ n)

  module _ {b : Bool} (e : b ≡ chained (take (2 * 10) places)) where
    whole : b ≡ chained places
    whole = e ∙ ap chained all_taken

    pub ten_chained : b ≡ true → true ≡ ten_fields places
    ten_chained t = rw (ten_is, ← whole, t)

    module _ (f : b ≡ false) {c : Bool} (g : c ≡ chained (take (2 * 8) places)) where
      pub ten_bare : {d : Bool} → c ≡ true → d ≡ bare places → d ≡ ten_fields places
      ten_bare t h = rw (ten_is, ← whole, f, ← g, t) h

      pub ten_none : c ≡ false → false ≡ ten_fields places
      ten_none t = rw (ten_is, ← whole, f, ← g, t)

  module _ (ending : DeclaredEnding) {b : Bool} (e : b ≡ leb (end_at places 9 + length (ending_bytes (ending_of ending))) limit) where
    pub made_within : {c : Bool} → b ≡ true → c ≡ ten_fields places → c ≡ made (ending_of ending) places
    unfolding made
    made_within t h = rw (← e, t, and-true) h

    pub made_far : b ≡ false → false ≡ made (ending_of ending) places
    unfolding made
    made_far t = rw (← e, t, and-false)

pub ruleset laws =
    (bare_format, bare_apart, bare_samples, bare_before, bare_at_lem, size_fits, within_far, within_by, ten_chained, ten_bare, ten_none, made_within, made_far)
