-- Two texts are the same bytes exactly when they are equal, and when they are pair by pair. Assumes nothing.
use Prim.Native.Nat.{ℕ}
use mathlib.Core.Path.{◌≡◌, refl, sym, ◌∙◌}
use mathlib.Core.Bool.{Bool, true, false, and-true, false≢true}
use mathlib.Core.List.{List, [], ◌∷◌}
use lib.Dec.{eqb}
use lib.Pointwise.{pointwise}
use borrow.Author.Tests.{eq-eqb, ne_eqb, eqb-true}
use Rattle.text.specs.Same.{same}

-- ---- clauses

pub same_none : same [] [] ≡ true
unfolding same
same_none = refl

same_step : (a b : ℕ) (s t : List ℕ) → a ≡ b → same (a ∷ s) (b ∷ t) ≡ same s t
unfolding same
same_step a b s t e = rw (eq-eqb a b e)

same_differ : (a b : ℕ) (s t : List ℕ) → (a ≡ b → ⊥) → same (a ∷ s) (b ∷ t) ≡ false
unfolding same
same_differ a b s t n = rw (ne_eqb a b n)

-- two texts of one byte are the same where their bytes are
pub same_byte : (a b : ℕ) → same (a ∷ []) (b ∷ []) ≡ eqb a b
unfolding same
same_byte a b = and-true (eqb a b)

-- ---- what the answer tells

pub same_self : (s : List ℕ) → same s s ≡ true
same_self [] = same_none
same_self (a ∷ s) = same_step a a s s refl ∙ same_self s

pub same_is : (s t : List ℕ) → same s t ≡ true → s ≡ t
unfolding same
same_is [] [] e = refl
same_is [] (b ∷ t) e = absurd (false≢true e)
same_is (a ∷ s) [] e = absurd (false≢true e)
same_is (a ∷ s) (b ∷ t) e = by (eqb a b) refl (same_is s t)
  where
    by : (x : Bool) → eqb a b ≡ x → (same s t ≡ true → s ≡ t) → a ∷ s ≡ b ∷ t
    by true q back = rw (eqb-true a b q, back (rw q at e))
    by false q back = absurd (false≢true (rw q at e))

-- texts that differ are told apart
pub same_not : (s t : List ℕ) → (s ≡ t → ⊥) → same s t ≡ false
same_not s t n = by (same s t) refl
  where
    by : (x : Bool) → same s t ≡ x → same s t ≡ false
    by true q = absurd (n (same_is s t q))
    by false q = q

-- and those that are the same only
pub same_other : (s t : List ℕ) → same s t ≡ false → s ≡ t → ⊥
same_other s t q e = false≢true (sym q ∙ (rw e (same_self t)))

-- ---- compared pair by pair

same_pairs : (s t : List ℕ) → pointwise eqb s t ≡ same s t
unfolding same
same_pairs [] [] = refl
same_pairs [] (b ∷ t) = refl
same_pairs (a ∷ s) [] = refl
same_pairs (a ∷ s) (b ∷ t) = rw (same_pairs s t)

pub told_pairs : (s t : List ℕ) {r : Bool} → r ≡ pointwise eqb s t → r ≡ same s t
told_pairs s t e = e ∙ same_pairs s t
