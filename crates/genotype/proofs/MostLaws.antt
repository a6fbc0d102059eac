-- Numbers that are all at most a count: of no list, of one with an allele more, and of what a text means. Assumes nothing.
use Prim.Native.Nat.{ℕ, zero, suc, ◌≤◌, ◌<◌}
use mathlib.Core.Bool.{true}
use mathlib.Core.List.{List, [], ◌∷◌}
use native.Mathlib.Omega.{arith}
use lib.ListN.{length, get_or}
use Rattle.decimal.specs.Demands.{bare, signed}
use Rattle.allele.specs.Means as M
use Rattle.allele.specs.Means.{Body, Later, Means}
use Rattle.allele.specs.declared.allele.Allele.{Allele}
use Rattle.genotype.specs.Demands.{AtMost}

module _ {c : ℕ} where
  pub most_none : AtMost c []
  most_none = record { each = λ i h. absurd (omega arith) }

  pub most_more : {a : Allele} {as' : List Allele} → a.number ≤ c → AtMost c as' → AtMost c (a ∷ as')
  most_more {a} {as'} h g = record { each = by }
    where
      by : (i : ℕ) → i < length (a ∷ as') → (get_or (a ∷ as') i (record { number = 0; missing = true; phased = true })).number ≤ c
      by zero l = h
      by (suc i) l = g.each i (omega arith)

  pub most_first : {a : Allele} {as' : List Allele} → AtMost c (a ∷ as') → a.number ≤ c
  most_first g = g.each 0 (omega arith)

  pub most_rest : {a : Allele} {as' : List Allele} → AtMost c (a ∷ as') → AtMost c as'
  most_rest g = record { each = λ i h. g.each (suc i) (omega arith) }

-- ---- what a text means has numbers of at most 64 bits

body_fits : {t : List ℕ} {a : Allele} → Body t a → a.number ≤ 18446744073709551615
body_fits M.dot = omega arith
body_fits (M.number (bare g h)) = h
body_fits (M.number (signed g h)) = h

later_fits : {t : List ℕ} {as' : List Allele} → Later t as' → AtMost 18446744073709551615 as'
later_fits M.none = most_none
later_fits (M.more m b l) = most_more (body_fits b) (later_fits l)

pub means_fits : {t : List ℕ} {as' : List Allele} → Means t as' → AtMost 18446744073709551615 as'
means_fits (M.marked m b l) = most_more (body_fits b) (later_fits l)
means_fits (M.bare e b l) = most_more (body_fits b) (later_fits l)
