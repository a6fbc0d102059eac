-- A text is empty as its length says; its last byte is the one before its length, and comes off and back on. Assumes nothing.
use Prim.Native.Nat.{ℕ, suc, ◌-◌, ◌<◌}
use mathlib.Core.Path.{◌≡◌, refl, ap, ◌∙◌, sym}
use mathlib.Core.Bool.{true, false, true≢false, false≢true}
use mathlib.Core.List.{List, [], ◌∷◌, ◌++◌, drop_last}
use native.Mathlib.Omega.{arith}
use lib.ListN.{length, get_or, take, length-append}
use lib.Dec.{eqb}
use borrow.Author.Tests.{eq-eqb, ne_eqb, eqb-true}
use Rattle.text.specs.Bytes.{is_empty, ends_in}

-- ---- empty

pub empty_some : (t : List ℕ) → is_empty t ≡ false → 0 < length t
unfolding is_empty
empty_some [] h = absurd (true≢false h)
empty_some (b ∷ t) h = omega arith

pub none_empty : (t : List ℕ) → length t ≡ 0 → is_empty t ≡ true
unfolding is_empty
none_empty [] h = refl
none_empty (b ∷ t) h = absurd (omega arith)

pub some_empty : (t : List ℕ) → 0 < length t → is_empty t ≡ false
unfolding is_empty
some_empty [] h = absurd (omega arith)
some_empty (b ∷ t) h = refl

pub empty_is : (t : List ℕ) → is_empty t ≡ eqb (length t) 0
unfolding is_empty
empty_is [] = refl
empty_is (b ∷ t) = sym (ne_eqb (length (b ∷ t)) 0 (λ z. omega arith))

-- ---- without its last byte

pub last_take : (t : List ℕ) → drop_last t ≡ take (length t - 1) t
last_take [] = refl
last_take (a ∷ []) = refl
last_take (a ∷ b ∷ t) =
    let e : suc (suc (length t)) - 1 ≡ suc (suc (length t) - 1) = omega arith in
    rw e (ap (λ (z : List ℕ). a ∷ z) (last_take (b ∷ t)))

pub last_back : (t : List ℕ) (b : ℕ) → drop_last (t ++ b ∷ []) ≡ t
last_back [] b = refl
last_back (a ∷ []) b = refl
last_back (a ∷ c ∷ t) b = ap (λ (z : List ℕ). a ∷ z) (last_back (c ∷ t) b)

-- ---- the byte that ends it

ends_later : (b a : ℕ) (s : List ℕ) → 0 < length s → ends_in b (a ∷ s) ≡ ends_in b s
unfolding ends_in
ends_later b a [] h = absurd (omega arith)
ends_later b a (c ∷ s) h = refl

pub ends_none : (b : ℕ) (t : List ℕ) → length t ≡ 0 → ends_in b t ≡ false
unfolding ends_in
ends_none b [] h = refl
ends_none b (a ∷ t) h = absurd (omega arith)

pub ends_some : (b : ℕ) (t : List ℕ) → ends_in b t ≡ true → 0 < length t
unfolding ends_in
ends_some b [] h = absurd (false≢true h)
ends_some b (a ∷ t) h = omega arith

pub ends_at : (b : ℕ) (t : List ℕ) → 0 < length t → ends_in b t ≡ eqb (get_or t (length t - 1) 0) b
unfolding ends_in
ends_at b [] h = absurd (omega arith)
ends_at b (a ∷ []) h = refl
ends_at b (a ∷ c ∷ t) h =
    let e : suc (suc (length t)) - 1 ≡ suc (suc (length t) - 1) = omega arith in
    ends_later b a (c ∷ t) (omega arith) ∙ rw e (ends_at b (c ∷ t) (omega arith))

-- what stands behind another byte tells it
pub ends_behind : {a b : ℕ} → (a ≡ b → ⊥) → (s t : List ℕ) → ends_in b (s ++ a ∷ t) ≡ ends_in b t
unfolding ends_in
ends_behind {a} {b} n [] [] = ne_eqb a b n
ends_behind n [] (c ∷ t) = refl
ends_behind {a} {b} n (c ∷ s) t = ends_later b c (s ++ a ∷ t) (simp length-append (omega arith)) ∙ ends_behind n s t

-- a text with the byte behind it ends in it, and only such a text does
pub ends_last : (b : ℕ) (t : List ℕ) → ends_in b (t ++ b ∷ []) ≡ true
unfolding ends_in
ends_last b [] = eq-eqb b b refl
ends_last b (a ∷ t) = ends_later b a (t ++ b ∷ []) (simp length-append (omega arith)) ∙ ends_last b t

pub ends_is : (b : ℕ) (t : List ℕ) → ends_in b t ≡ true → drop_last t ++ b ∷ [] ≡ t
unfolding ends_in
ends_is b [] h = absurd (false≢true h)
ends_is b (a ∷ []) h = let e = eqb-true a b h in rw e
ends_is b (a ∷ c ∷ t) h = ap (λ (z : List ℕ). a ∷ z) (ends_is b (c ∷ t) h)
