-- A text is empty, or means a list, or is broken, by what it reads as. Assumes nothing.
use Prim.Native.Nat.{ℕ, ◌+◌}
use mathlib.Core.Path.{◌≡◌, refl, sym, ap, ◌∙◌}
use mathlib.Core.List.{List, [], ◌∷◌}
use mathlib.Core.Option.{Option, some, none}
use native.Mathlib.Omega.{arith}
use lib.ListN.{length}
use Rattle.allele.specs.Reading.{Reading, list, bad, empty, with, gathered, reading_of, parts_of, fault_at}
use Rattle.allele.specs.Means.{Means, Broken}
use Rattle.allele.specs.Demands.{MeansOrBroken}
use Rattle.allele.specs.declared.allele.Allele.{Allele}
use Rattle.allele.proofs.ReadingLaws.{reading_some, reading_none}
use Rattle.allele.proofs.MeansLaws.{reads_means}
use Rattle.allele.proofs.BrokenLaws.{reads_broken}

-- pieces never read as the empty text
never_empty : (k : ℕ) (ps : List (Option Allele)) → gathered k ps ≡ empty → ⊥
unfolding gathered with
never_empty k [] e = let z : ◌≡◌ {A = ℕ} 0 1 = cc in omega arith
never_empty k (none ∷ ps) e = let z : ◌≡◌ {A = ℕ} 0 1 = cc in omega arith
never_empty k (some a ∷ ps) e = by (gathered (k + 1) ps) refl e (never_empty (k + 1) ps)
  where
    by : (r : Reading) → gathered (k + 1) ps ≡ r → with a r ≡ empty → (gathered (k + 1) ps ≡ empty → ⊥) → ⊥
    by (list as') g e n = let z : ◌≡◌ {A = ℕ} 0 1 = cc in omega arith
    by (bad j) g e n = let z : ◌≡◌ {A = ℕ} 0 1 = cc in omega arith
    by empty g e n = n g

pub reading_empty : (t : List ℕ) → reading_of t ≡ empty → t ≡ []
reading_empty [] e = refl
reading_empty (b ∷ s) e = absurd (never_empty 0 (parts_of (b ∷ s)) (sym (reading_some (b ∷ s) (λ z. omega arith)) ∙ e))

module _ (t : List ℕ) where
  pub means_some : {as' : List Allele} → Means t as' → t ≡ [] → ⊥
  means_some {as'} m e =
      let r = (reads_means t as').1 m in
      let n = reading_none t (ap length e) in
      let z : ◌≡◌ {A = ℕ} 0 1 = cc in
      omega arith

  pub broken_some : {k o : ℕ} → Broken t k o → t ≡ [] → ⊥
  broken_some {k} {o} g e =
      let r = ((reads_broken t k o).1 g).0 in
      let n = reading_none t (ap length e) in
      let z : ◌≡◌ {A = ℕ} 0 1 = cc in
      omega arith

  pub means_whole : {as' : List Allele} {k o : ℕ} → Means t as' → Broken t k o → ⊥
  means_whole {as'} {k} {o} m g =
      let r = (reads_means t as').1 m in
      let n = ((reads_broken t k o).1 g).0 in
      let z : ◌≡◌ {A = ℕ} 0 1 = cc in
      omega arith

  -- the first piece that is no allele is one piece, and its fault is at one place
  pub broken_one : {j k p o : ℕ} → Broken t j p → Broken t k o → (j ≡ k) × (p ≡ o)
  broken_one {j} {k} {p} {o} g h =
      let r = (reads_broken t j p).1 g in
      let n = (reads_broken t k o).1 h in
      let a = r.0 in
      let b = n.0 in
      let z : j ≡ k = cc in
      (z, sym r.1 ∙ rw z n.1)

pub means_or_broken : MeansOrBroken
means_or_broken = record { either = λ t e m g. by t e m g (reading_of t) refl; never_both = λ t as' k o. means_whole t }
  where
    by : (t : List ℕ) → (t ≡ [] → ⊥) → ((as' : List Allele) → Means t as' → ⊥) → ((k o : ℕ) → Broken t k o → ⊥) → (r : Reading) → reading_of t ≡ r → ⊥
    by t e m g (list as') q = m as' ((reads_means t as').0 q)
    by t e m g (bad k) q = g k (fault_at t k) ((reads_broken t k (fault_at t k)).0 (q, refl))
    by t e m g empty q = e (reading_empty t q)
