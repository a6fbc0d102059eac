-- Lists of one length p laid one after the other: how long that is, what stands where, and that it is told by what stands where.
-- Assumes nothing.
use Prim.Native.Nat.{ℕ, zero, suc, ◌+◌, ◌*◌, ◌<◌}
use mathlib.Core.Path.{◌≡◌, refl, sym, ap, ap₂, ◌∙◌}
use mathlib.Core.List.{List, [], ◌∷◌, ◌++◌, append_assoc, flatten}
use native.Mathlib.Omega.{arith}
use native.Mathlib.Nat.{zero-mul, suc-mul}
use lib.ListN.{length, get_or, take, drop, length-append}
use lib.Seq.{take_at, take-add, drop-drop, drop-append-add}

module _ (p : ℕ) where
  abbrev pub Each : List (List ℕ) → Type 0
  Each gs = (i : ℕ) → i < length gs → length (get_or gs i []) ≡ p

  rest_each : (g : List ℕ) (gs : List (List ℕ)) → Each (g ∷ gs) → Each gs
  rest_each g gs a i h = a (suc i) (omega arith)

  -- one more of them
  one_more : (k : ℕ) → suc k * p ≡ p + k * p
  one_more k = let z = suc-mul k p in omega arith

  pub length_flat : (gs : List (List ℕ)) → Each gs → length (flatten gs) ≡ length gs * p
  unfolding flatten
  length_flat [] a = sym (zero-mul p)
  length_flat (g ∷ gs) a =
      let x = a 0 (omega arith) in
      let y = length_flat gs (rest_each g gs a) in
      let z = one_more (length gs) in
      length-append g (flatten gs) ∙ omega arith

  pub flat_at : (gs : List (List ℕ)) (rest : List ℕ) → Each gs → (i : ℕ) → i < length gs → take p (drop (i * p) (flatten gs ++ rest)) ≡ get_or gs i []
  unfolding flatten
  flat_at [] rest a i h = absurd (omega arith)
  flat_at (g ∷ gs) rest a zero h = rw (zero-mul, append_assoc g (flatten gs) rest) (take_at g (flatten gs ++ rest) p (a 0 (omega arith)))
  flat_at (g ∷ gs) rest a (suc i) h =
      let e : suc i * p ≡ length g + i * p = let x = a 0 (omega arith) in let z = one_more i in omega arith in
      rw (e, append_assoc g (flatten gs) rest, drop-append-add g (flatten gs ++ rest) (i * p)) (flat_at gs rest (rest_each g gs a) i (omega arith))

  pub flat_back : (gs : List (List ℕ)) (x : List ℕ) → ((i : ℕ) → i < length gs → take p (drop (i * p) x) ≡ get_or gs i []) → take (length gs * p) x ≡ flatten gs
  unfolding flatten
  flat_back [] x b = rw zero-mul refl
  flat_back (g ∷ gs) x b =
      let h : take p x ≡ g = rw zero-mul at (b 0 (omega arith)) in
      let t : take (length gs * p) (drop p x) ≡ flatten gs =
      flat_back gs (drop p x) (λ i l. ap (take p) (drop-drop (i * p) p x ∙ ap (λ (k : ℕ). drop k x) (sym (one_more i))) ∙ b (suc i) (omega arith)) in
      rw (one_more (length gs)) (take-add p (length gs * p) x ∙ ap₂ (λ (u v : List ℕ). u ++ v) h t)
