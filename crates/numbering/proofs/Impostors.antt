-- Functions that do not meet what is asked, each by one short input. Assumes nothing.
use Prim.Native.Nat.{ℕ}
use mathlib.Core.Path.{◌≡◌, refl, sym, ap, ◌∙◌}
use mathlib.Core.List.{List, [], ◌∷◌}
use native.Mathlib.Omega.{arith}
use lib.ListN.{get_or, take, drop}
use Rattle.text.specs.Answer.{says}
use Rattle.numbering.specs.Ordering.{followed, ordering}
use Rattle.numbering.specs.Closed.{choose, how_many, sum_from, closed_sum}
use Rattle.numbering.specs.Demands.{Genotype, Limits, Four}
use Rattle.numbering.proofs.NumberLaws.{never_falls_is}
use Rattle.numbering.specs.Inner.{never_falls}
use Rattle.numbering.proofs.Functions.{told, stood}

two : Limits 2 2
two = record { one = omega arith; eight = omega arith; some = omega arith; most = omega arith }

zero_one : Genotype 2 2 (0 ∷ 1 ∷ [])
unfolding never_falls
zero_one = (never_falls_is 2 (0 ∷ 1 ∷ [])).0 refl

module _ (f : Four) where
  numbered : f.number 2 (0 ∷ 1 ∷ []) ≡ says 0 (1 ∷ [])
  unfolding closed_sum sum_from choose
  numbered = f.numbers.is 2 (0 ∷ 1 ∷ []) two zero_one

  -- one that refuses all
  pub refuses_all : f.number 2 (0 ∷ 1 ∷ []) ≡ says 23 [] → ⊥
  refuses_all e = let n = numbered in let y : ◌≡◌ {A = ℕ} 0 23 = cc in omega arith

  -- one that counts from 1
  pub counts_from_one : f.number 2 (0 ∷ 1 ∷ []) ≡ says 0 (2 ∷ []) → ⊥
  counts_from_one e = let n = numbered in let y : ◌≡◌ {A = ℕ} 1 2 = cc in omega arith

  -- one that takes alleles that fall
  pub takes_falling : (i : ℕ) → f.number 2 (1 ∷ 0 ∷ []) ≡ says 0 (i ∷ []) → ⊥
  takes_falling i e = let k = told f.numbers 2 i (1 ∷ 0 ∷ []) e in let z = k.genotype.order 0 (omega arith) in omega arith

  -- one that judges the room before the number: there is no genotype 3, and no room
  pub room_first : (f.place 3 2 2 []).answer ≡ says 17 [] → ⊥
  unfolding ordering followed
  room_first e =
      let r = f.places.other 3 2 2 [] (λ g q t. let u = (stood f.numbers 2 2 3 g q t).under in omega arith) in
      let a = r.answer in
      let y : ◌≡◌ {A = ℕ} 17 23 = cc in
      omega arith

  -- one whose last allele stands in front: 0 0, 1 0, 1 1
  pub last_in_front : (f.list 2 2 (7 ∷ 7 ∷ 7 ∷ 7 ∷ 7 ∷ 7 ∷ [])).output ≡ 0 ∷ 0 ∷ 1 ∷ 0 ∷ 1 ∷ 1 ∷ [] → ⊥
  unfolding how_many choose
  last_in_front e =
      let h = f.lists.holds 2 2 3 (7 ∷ 7 ∷ 7 ∷ 7 ∷ 7 ∷ 7 ∷ []) (f.counts.is 2 2 two) (omega arith) in
      let x = sym (ap (λ (r : List ℕ). take 2 (drop 2 r)) e) ∙ h.each 1 (0 ∷ 1 ∷ []) refl numbered in
      let y : ◌≡◌ {A = ℕ} 1 0 = ap (λ (r : List ℕ). get_or r 0 0) x in
      omega arith

  -- one that goes on behind the last genotype
  pub goes_on : (f.list 1 1 (7 ∷ 7 ∷ [])).output ≡ 0 ∷ 0 ∷ [] → ⊥
  unfolding how_many choose
  goes_on e =
      let l : Limits 1 1 = record { one = omega arith; eight = omega arith; some = omega arith; most = omega arith } in
      let h = f.lists.holds 1 1 1 (7 ∷ 7 ∷ []) (f.counts.is 1 1 l) (omega arith) in
      let x = sym (ap (λ (r : List ℕ). drop 1 r) e) ∙ h.rest in
      let y : ◌≡◌ {A = ℕ} 0 7 = ap (λ (r : List ℕ). get_or r 0 0) x in
      omega arith
