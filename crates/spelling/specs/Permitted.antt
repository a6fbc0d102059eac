-- Which texts are permitted spellings of a list of alleles, as a relation (docs/RULES.md, "Genotypes"). Assumes nothing.
use Rattle.std.specs.Prelude.{ℕ, ◌<◌, ◌≡◌, Bool, true, false, ◌&&◌, ◌||◌, List, [], ◌∷◌, ◌++◌, length, leb, ltb, eqb}
use Rattle.decimal.specs.Demands.{Plain}
use Rattle.allele.specs.Means.{mark_byte, all_phased}
use Rattle.allele.specs.declared.allele.Allele.{Allele}

-- an allele without its mark: `.`, or its number without sign or leading zeros
pub data Plainly (a : Allele) : List ℕ → Type 0 where
  dot : a.missing ≡ true → a.number ≡ 0 → Plainly a (46 ∷ [])
  number : {s : List ℕ} → a.missing ≡ false → Plain s a.number → Plainly a s

-- the alleles after the first, each with its mark
pub data Following : List Allele → List ℕ → Type 0 where
  none : Following [] []
  more : {b : ℕ} {a : Allele} {as' : List Allele} {s t : List ℕ} → b ≡ mark_byte a.phased → Plainly a s → Following as' t → Following (a ∷ as') (b ∷ s ++ t)

-- the first may have its mark from 4.4 on, and may lack it where its phasing is the implied one; nothing else is free
pub data Permitted (late : Bool) : List Allele → List ℕ → Type 0 where
  bare : {a : Allele} {as' : List Allele} {s t : List ℕ} → a.phased ≡ all_phased as' → Plainly a s → Following as' t → Permitted late (a ∷ as') (s ++ t)
  marked : {b : ℕ} {a : Allele} {as' : List Allele} {s t : List ℕ} → late ≡ true → b ≡ mark_byte a.phased → Plainly a s → Following as' t
      → Permitted late (a ∷ as') (b ∷ s ++ t)

-- a file format of 4.4 or later: major compared first, then minor
unfoldable pub from44 : ℕ → ℕ → Bool
from44 major minor = ltb 4 major || (eqb major 4 && leb 4 minor)

-- the one shortest text of those with a property: every other is longer
pub record TheShortest (P : List ℕ → Type 0) (t : List ℕ) : Type 0 where
  pub has : P t
  pub least : (u : List ℕ) → P u → (u ≡ t → ⊥) → length t < length u
