-- Blocks without two bytes: what `before_either` says byte by byte, each way through the loop over blocks, and what callers need. Assumes nothing.
use Prim.Native.Nat.{ℕ, zero, suc, ◌+◌, ◌-◌, ◌<◌, ◌≤◌, zero-le}
use mathlib.Core.Path.{◌≡◌, refl, ◌∙◌, ap}
use mathlib.Core.List.{List, [], ◌∷◌}
use mathlib.Core.Bool.{Bool, true, false, ◌||◌}
use native.Mathlib.Omega.{arith}
use native.Mathlib.Nat.{add-zero}
use lib.ListN.{length, get_or, drop, length-drop, take}
use lib.Seq.{get_or-drop}
use lib.Dec.{eqb}
use borrow.Author.Tests.{eq-eqb, ne_eqb, eqb-false}
use Rattle.std.specs.Int.{from_bool}
use Rattle.text.specs.Pick.{pick}
use Rattle.text.specs.Flags.{OneIf, Neither, Each, Tells}
use Rattle.text.proofs.Lists.{here}
use Rattle.pieces.specs.Before.{before_either}
use Rattle.pieces.specs.Inner.{Quiet, quiet_length, Seeking}

-- ---- the bytes before the first of the two

pub before_none : (a b : ℕ) → before_either a b [] ≡ []
unfolding before_either
before_none a b = refl

module _ (a b x : ℕ) (s : List ℕ) where
  pub before_here : (eqb x a || eqb x b) ≡ true → before_either a b (x ∷ s) ≡ []
  unfolding before_either
  before_here e = rw e

  pub before_more : (eqb x a || eqb x b) ≡ false → before_either a b (x ∷ s) ≡ x ∷ before_either a b s
  unfolding before_either
  before_more e = rw e

-- they are the first of the text
pub before_take : (a b : ℕ) (s : List ℕ) → take (length (before_either a b s)) s ≡ before_either a b s
unfolding before_either
before_take a b [] = refl
before_take a b (x ∷ s) = by (eqb x a || eqb x b) (before_take a b s)
  where
    by : (t : Bool) → take (length (before_either a b s)) s ≡ before_either a b s
        → take (length (pick t [] (x ∷ before_either a b s))) (x ∷ s) ≡ pick t [] (x ∷ before_either a b s)
    by true h = refl
    by false h = ap (λ (l : List ℕ). x ∷ l) h

-- how many there are
pub quiet_cons : (a b x : ℕ) (s : List ℕ) → quiet_length a b (x ∷ s) ≡ pick (eqb x a || eqb x b) 0 (1 + quiet_length a b s)
unfolding quiet_length before_either
quiet_cons a b x s = by (eqb x a || eqb x b)
  where
    by : (t : Bool) → length (pick t [] (x ∷ before_either a b s)) ≡ pick t 0 (1 + length (before_either a b s))
    by true = refl
    by false = omega arith

pub quiet_none_left : (a b : ℕ) → quiet_length a b [] ≡ 0
unfolding quiet_length before_either
quiet_none_left a b = refl

-- no more than the text's
pub before_le : (a b : ℕ) (s : List ℕ) → length (before_either a b s) ≤ length s
unfolding before_either
before_le a b [] = zero-le
before_le a b (x ∷ s) = by (eqb x a || eqb x b) (before_le a b s)
  where
    by : (t : Bool) → length (before_either a b s) ≤ length s → length (pick t [] (x ∷ before_either a b s)) ≤ suc (length s)
    by true h = zero-le
    by false h = omega arith

pub quiet_most : (a b : ℕ) (s : List ℕ) → quiet_length a b s ≤ length s
unfolding quiet_length
quiet_most a b s = before_le a b s

-- none of them is one of the two
quiet_none : (a b : ℕ) (s : List ℕ) (k : ℕ) → k < quiet_length a b s → (get_or s k 0 ≡ a → ⊥) × (get_or s k 0 ≡ b → ⊥)
quiet_none a b [] k h = absurd (omega (arith, quiet_none_left a b))
quiet_none a b (x ∷ s) k h = by (eqb x a) (eqb x b) refl refl k (rw (quiet_cons a b x s) at h) (quiet_none a b s)
  where
    by : (t u : Bool) → eqb x a ≡ t → eqb x b ≡ u → (k : ℕ) → k < pick (t || u) 0 (1 + quiet_length a b s)
        → ((k : ℕ) → k < quiet_length a b s → (get_or s k 0 ≡ a → ⊥) × (get_or s k 0 ≡ b → ⊥)) → (get_or (x ∷ s) k 0 ≡ a → ⊥) × (get_or (x ∷ s) k 0 ≡ b → ⊥)
    by true u e f k h rest = absurd (omega arith)
    by false true e f k h rest = absurd (omega arith)
    by false false e f zero h rest = (eqb-false x a e, eqb-false x b f)
    by false false e f (suc k) h rest = rest k (omega arith)

-- past some of them stand the others
pub quiet_past : (a b : ℕ) (s : List ℕ) (n : ℕ) → n ≤ quiet_length a b s → quiet_length a b (drop n s) ≡ quiet_length a b s - n
quiet_past a b s zero h = omega arith
quiet_past a b [] (suc n) h = absurd (omega (arith, quiet_none_left a b))
quiet_past a b (x ∷ s) (suc n) h = rw (quiet_cons a b x s) (by (eqb x a || eqb x b) (rw (quiet_cons a b x s) at h) (quiet_past a b s n))
  where
    by : (t : Bool) → suc n ≤ pick t 0 (1 + quiet_length a b s) → (n ≤ quiet_length a b s → quiet_length a b (drop n s) ≡ quiet_length a b s - n)
        → quiet_length a b (drop n s) ≡ pick t 0 (1 + quiet_length a b s) - suc n
    by true h f = absurd (omega arith)
    by false h f = f (omega arith) ∙ omega arith

-- over bytes that are neither
pub quiet_over : (a b : ℕ) (s : List ℕ) (i k : ℕ) → i + k ≤ length s → Each (Neither a b) s i (i + k)
    → quiet_length a b (drop i s) ≡ k + quiet_length a b (drop (i + k) s)
quiet_over a b s i zero h f = rw add-zero (omega arith)
quiet_over a b s i (suc k) h f =
    let n = f i (omega arith) (omega arith) in
    let z : i + 1 + k ≡ i + suc k = omega arith in
    let e = rw z at (quiet_over a b s (i + 1) k (omega arith) (λ j p q. f j (omega arith) (omega arith))) in
    rw (here s i (omega arith), quiet_cons, ne_eqb _ _ n.no_first, ne_eqb _ _ n.no_second) (omega arith)

-- ---- the blocks

-- a test's answer as a number
pub one_from : {b c r : ℕ} → r ≡ from_bool (eqb b c) → OneIf b c r
one_from {b} {c} e = record { same = λ p. e ∙ rw (eq-eqb b c p); other = λ n. e ∙ rw (ne_eqb b c n) }

-- the first of the two from i on is the first from `at` on
pub record Passing (a b : ℕ) (s : List ℕ) (at i : ℕ) : Type 0 where
  pub within : i ≤ length s
  pub seeks : Seeking a b s at i

pub seek_start : {a b : ℕ} {s : List ℕ} {at : ℕ} → Seeking a b s at at
seek_start = record { same = refl }

pub pass_first : {a b : ℕ} {s : List ℕ} {at : ℕ} → at ≤ length s → Passing a b s at at
pass_first h = record { within = h; seeks = seek_start }

module _ {a b : ℕ} {s : List ℕ} {at i : ℕ} (g : Passing a b s at i) where
  pub pass_turn : {r : Bool} → 64 ≤ length s - i → Tells (Neither a b) s i r → r ≡ true → Passing a b s at (i + 64)
  pass_turn h t e =
      let w = g.within in
      let q = quiet_over a b s i 64 (omega arith) (t.yes e) in
      record { within = omega arith; seeks = record { same = omega (arith, g.seeks.same) } }

  pub pass_end : Seeking a b s at i
  pass_end = g.seeks

-- ---- for callers

-- up to a place that lies no further than the first of the two
pub quiet_to : {a b : ℕ} {s : List ℕ} {at r : ℕ} → at ≤ length s → at ≤ r → r ≤ at + quiet_length a b (drop at s) → Quiet a b s at r
quiet_to {a} {b} {s} {at} {r} h f e =
    let l = length-drop at s in
    let m = quiet_most a b (drop at s) in
    record { after = f; within = omega arith; no_first = λ k p q. (by k p q).0; no_second = λ k p q. (by k p q).1 }
  where
    by : (k : ℕ) → at ≤ k → k < r → (get_or s k 0 ≡ a → ⊥) × (get_or s k 0 ≡ b → ⊥)
    by k p q =
        let z : at + (k - at) ≡ k = omega arith in
        rw (get_or-drop, z) at (quiet_none a b (drop at s) (k - at) (omega arith))

pub ruleset laws = (one_from, seek_start, pass_first, pass_turn, pass_end)
