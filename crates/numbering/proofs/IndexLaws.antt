-- A genotype is first met at its number, since each is listed once; what is no genotype is met nowhere. Assumes nothing.
use Prim.Native.Nat.{ℕ, zero, suc, ◌<◌}
use mathlib.Core.Path.{◌≡◌, sym, ap, ◌∙◌}
use mathlib.Core.Bool.{true}
use mathlib.Core.Logic.{◌↔◌}
use mathlib.Core.List.{List, [], ◌∷◌}
use mathlib.Core.Option.{some, none}
use native.Mathlib.Omega.{arith}
use native.Mathlib.Nat.{le_of_suc-le-suc}
use lib.ListN.{length, get_or}
use Rattle.text.specs.First.{first_where, FirstOf, here, later}
use Rattle.text.specs.Same.{same}
use Rattle.text.proofs.FirstLaws.{is_first, first_none}
use Rattle.text.proofs.SameLaws.{same_self, same_is}
use Rattle.numbering.specs.Ordering.{ordering}
use Rattle.numbering.specs.Closed.{closed_sum}
use Rattle.numbering.specs.Demands.{Genotype}
use Rattle.numbering.proofs.OrderLaws.{length_ordering, listed, numbered, rises_genotype, genotype_stands}

module _ (g : List ℕ) where
  exact : (h : List ℕ) → (same h g ≡ true) ↔ (h ≡ g)
  exact h = (same_is h g, λ e. ap (λ (k : List ℕ). same k g) e ∙ same_self g)

  first_at : (gs : List (List ℕ)) (i : ℕ) → i < length gs → get_or gs i [] ≡ g → ((j : ℕ) → j < i → get_or gs j [] ≡ g → ⊥) → FirstOf (λ h. h ≡ g) gs i
  first_at [] i l e n = absurd (omega arith)
  first_at (h ∷ gs) zero l e n = here e
  first_at (h ∷ gs) (suc i) l e n = later (n 0 (omega arith)) (first_at gs i (le_of_suc-le-suc l) e (λ j w. n (suc j) (omega arith)))

  first_within : (gs : List (List ℕ)) (i : ℕ) → FirstOf (λ h. h ≡ g) gs i → (i < length gs) × (get_or gs i [] ≡ g)
  first_within [] i x = elim x [ ]
  first_within (h ∷ gs) zero (here e) = (omega arith, e)
  first_within (h ∷ gs) (suc i) (later n f) = let r = first_within gs i f in (let l = r.0 in omega arith, r.1)

  pub index_is : (p n : ℕ) → Genotype p n g → first_where (λ (h : List ℕ). same h g) 0 (ordering p n) ≡ some (closed_sum g)
  index_is p n f =
      let s = genotype_stands f in
      let k = length_ordering p n in
      is_first (λ (h : List ℕ). same h g) exact (ordering p n)
      (first_at (ordering p n) (closed_sum g) (let u = s.under in omega arith) s.there
      (λ j l e. let q = sym (numbered p n j (let u = s.under in omega arith)) ∙ ap closed_sum e in omega arith))

  pub index_none : (p n : ℕ) → (Genotype p n g → ⊥) → first_where (λ (h : List ℕ). same h g) 0 (ordering p n) ≡ none
  index_none p n z =
      first_none (λ (h : List ℕ). same h g) exact (ordering p n)
      (λ i f. let r = first_within (ordering p n) i f in z (rw r.1 at (rises_genotype (listed p n i r.0))))
