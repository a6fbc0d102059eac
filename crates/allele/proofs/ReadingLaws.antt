-- What a text reads as, and what an allele before a reading makes of it: by cases of the definitions. Assumes nothing.
use Prim.Native.Nat.{ℕ}
use mathlib.Core.Path.{◌≡◌, refl}
use mathlib.Core.List.{List, [], ◌∷◌}
use native.Mathlib.Omega.{arith}
use lib.ListN.{length}
use Rattle.allele.specs.Reading.{Reading, list, bad, empty, with, gathered, reading_of, list_of, parts_of}
use Rattle.allele.specs.declared.allele.Allele.{Allele}

-- a text that is not empty reads as its parts do
pub reading_some : (t : List ℕ) → (length t ≡ 0 → ⊥) → reading_of t ≡ gathered 0 (parts_of t)
unfolding reading_of
reading_some [] h = absurd (h refl)
reading_some (b ∷ s) h = refl

pub reading_none : (t : List ℕ) → length t ≡ 0 → reading_of t ≡ empty
unfolding reading_of
reading_none [] h = refl
reading_none (b ∷ s) h = absurd (omega arith)

-- a reading that is a list once it has an allele before it
pub with_list : (a : Allele) (r : Reading) {as' : List Allele} → with a r ≡ list as' → r ≡ list (list_of r)
unfolding with list_of
with_list a (list bs) e = refl
with_list a (bad k) e = cc
with_list a empty e = cc

pub with_cons : (a : Allele) (r : Reading) {as' : List Allele} → with a r ≡ list as' → list_of (with a r) ≡ a ∷ list_of r
unfolding with list_of
with_cons a (list bs) e = refl
with_cons a (bad k) e = cc
with_cons a empty e = cc
