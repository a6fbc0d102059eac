-- The largest number of a list. Assumes nothing.
use Prim.Native.Nat.{ℕ, ◌≤◌, zero-le}
use mathlib.Core.List.{List, [], ◌∷◌}
use native.Mathlib.Omega.{arith}
use Rattle.allele.specs.declared.allele.Allele.{Allele}
use Rattle.genotype.specs.Demands.{AtMost}
use Rattle.genotype.proofs.MostLaws as A
use Rattle.bcf.specs.Writing.{most_of}

pub most_first : (a : Allele) (as' : List Allele) → a.number ≤ most_of (a ∷ as')
unfolding most_of
most_first a as' = omega arith

pub most_rest : (a : Allele) (as' : List Allele) → most_of as' ≤ most_of (a ∷ as')
unfolding most_of
most_rest a as' = omega arith

pub at_most : (c : ℕ) (as' : List Allele) → most_of as' ≤ c → AtMost c as'
at_most c [] h = A.most_none
at_most c (a ∷ as') h =
    let r = most_rest a as' in
    let f = most_first a as' in
    A.most_more (omega arith) (at_most c as' (omega arith))

pub most_at : (c : ℕ) (as' : List Allele) → AtMost c as' → most_of as' ≤ c
unfolding most_of
most_at c [] g = zero-le
most_at c (a ∷ as') g =
    let f = A.most_first g in
    let r = most_at c as' (A.most_rest g) in
    omega arith
