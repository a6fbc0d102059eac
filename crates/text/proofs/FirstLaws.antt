-- The first element of which a test holds, by the first of the list: by its definition; and that a test which holds exactly where
-- something does finds the first of which that holds. Assumes nothing.
use Prim.Native.Nat.{ℕ, zero, suc, ◌+◌}
use mathlib.Core.Path.{◌≡◌, refl, sym, ap, ◌∙◌}
use mathlib.Core.Bool.{Bool, true, false, false≢true}
use mathlib.Core.Logic.{◌↔◌}
use mathlib.Core.List.{List, [], ◌∷◌}
use mathlib.Core.Option.{Option, some, none}
use native.Mathlib.Omega.{arith}
use native.Mathlib.Nat.{zero-add}
use Rattle.text.specs.First.{first_where, FirstOf, here, later}

module _ {X : Type 0} (test : X → Bool) (k : ℕ) where
  pub where_none : first_where test k [] ≡ none
  unfolding first_where
  where_none = refl

  module _ (x : X) (xs : List X) where
    pub where_here : test x ≡ true → first_where test k (x ∷ xs) ≡ some k
    unfolding first_where
    where_here e = rw e

    pub where_later : test x ≡ false → first_where test k (x ∷ xs) ≡ first_where test (k + 1) xs
    unfolding first_where
    where_later e = rw e

-- ---- what the test finds

module _ {X : Type 0} (test : X → Bool) {holds : X → Type 0} (exact : (x : X) → (test x ≡ true) ↔ holds x) where
  fails : (x : X) → (holds x → ⊥) → test x ≡ false
  fails x n = by (test x) refl
    where
      by : (b : Bool) → test x ≡ b → test x ≡ false
      by true e = absurd (n ((exact x).0 e))
      by false e = e

  first_where_lem : (xs : List X) (i : ℕ) → FirstOf holds xs i → (k : ℕ) → first_where test k xs ≡ some (k + i)
  first_where_lem [] i f k = elim f [ ]
  first_where_lem (x ∷ xs) zero (here h) k = where_here test k x xs ((exact x).1 h) ∙ ap some (omega arith)
  first_where_lem (x ∷ xs) (suc i) (later n f) k = where_later test k x xs (fails x n) ∙ first_where_lem xs i f (k + 1) ∙ ap some (omega arith)

  where_first : (xs : List X) (k : ℕ) {j : ℕ} → first_where test k xs ≡ some j → (i : ℕ) × FirstOf holds xs i
  where_first [] k e = let n = where_none test k in let z : ◌≡◌ {A = ℕ} 0 1 = cc in absurd (omega arith)
  where_first (x ∷ xs) k {j} e = by (test x) refl (λ f. where_first xs (k + 1) {j = j} f)
    where
      by : (b : Bool) → test x ≡ b → (first_where test (k + 1) xs ≡ some j → (i : ℕ) × FirstOf holds xs i) → (i : ℕ) × FirstOf holds (x ∷ xs) i
      by true t ih = (0, here ((exact x).0 t))
      by false t ih = let g = ih (sym (where_later test k x xs t) ∙ e) in (suc g.0, later (λ h. false≢true (sym t ∙ (exact x).1 h)) g.1)

  pub is_first : (xs : List X) {i : ℕ} → FirstOf holds xs i → first_where test 0 xs ≡ some i
  is_first xs {i} f = first_where_lem xs i f 0 ∙ ap some (zero-add i)

  pub first_is : (xs : List X) {j : ℕ} → first_where test 0 xs ≡ some j → FirstOf holds xs j
  first_is xs {j} e =
      let g = where_first xs 0 e in
      let f = is_first xs g.1 in
      let q : g.0 ≡ j = cc in
      rw q at g.1

  pub none_first : (xs : List X) → first_where test 0 xs ≡ none → (i : ℕ) → FirstOf holds xs i → ⊥
  none_first xs e i f = let g = is_first xs f in let z : ◌≡◌ {A = ℕ} 0 1 = cc in omega arith

  pub first_none : (xs : List X) → ((i : ℕ) → FirstOf holds xs i → ⊥) → first_where test 0 xs ≡ none
  first_none xs n = by (first_where test 0 xs) refl
    where
      by : (o : Option ℕ) → first_where test 0 xs ≡ o → first_where test 0 xs ≡ none
      by none e = e
      by (some j) e = absurd (n j (first_is xs e))
