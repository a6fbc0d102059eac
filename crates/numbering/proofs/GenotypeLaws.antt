-- The genotype of a number: its last allele sought, and the rest of it written. Assumes nothing.
use Prim.Native.Nat.{ℕ, zero, suc, ◌+◌, ◌-◌, ◌<◌, ◌≤◌}
use mathlib.Core.Path.{◌≡◌, refl, sym, ap, ◌∙◌}
use mathlib.Core.Bool.{true, false, and-false}
use mathlib.Core.List.{List, [], ◌∷◌, ◌++◌, append_assoc}
use native.Mathlib.Omega.{arith}
use native.Mathlib.Numerals.{add-one}
use lib.ListN.{length, get_or, drop, set, length-set, length-append}
use lib.Seq.{get_or-append-add}
use lib.Dec.{leb, ltb}
use borrow.Author.Tests.{le-leb, lt-leb, lt-ltb, le-ltb}
use Rattle.std.specs.Prelude.{Ok, Err}
use Rattle.text.specs.Over.{over}
use Rattle.text.proofs.Lists.{over_nil}
use Rattle.numbering.specs.Ordering.{followed, ordering}
use Rattle.numbering.specs.Closed.{how_many}
use Rattle.numbering.specs.Answers.{limits, genotype_answer, is_there}
use Rattle.numbering.specs.Inner.{ShapeOf}
use Rattle.numbering.specs.declared.shape.Shape.{Shape}
use Rattle.numbering.specs.Promises.{PlacesGenotype}
use Rattle.numbering.specs.Paper.{filled_paper}
use Rattle.numbering.specs.declared.genotype.FillError.TheVariants as F
use Rattle.numbering.proofs.OrderLaws.{count_none, count_empty, count_more, length_ordering, get_d_followed, listed, rises_ploidy}
use Rattle.numbering.proofs.Demands.{fewer_at}
use Rattle.numbering.proofs.LimitLaws.{Counted, counted}
use Rattle.numbering.proofs.StoreLaws.{stored}

-- ---- the last allele

-- it is below n, and not above a
pub record Seeking (i p n a : ℕ) : Type 0 where
  pub within : a ≤ n
  pub under : a < n → i < how_many p (a + 1)

pub seek_first : {i p n : ℕ} → Seeking i p n n
seek_first = record { within = omega arith; under = λ h. absurd (omega arith) }

none_below : (p : ℕ) → 0 < p → how_many p 0 ≡ 0
none_below zero h = absurd (omega arith)
none_below (suc p) h = count_empty p

module _ {i p n a c : ℕ} (s : Seeking i p n a) (e : c ≡ how_many p a) where
  pub seek_more : 0 < p → i < c → 0 < a
  seek_more h l = by a e
    where
      by : (a : ℕ) → c ≡ how_many p a → 0 < a
      by zero d = absurd (let z = none_below p h in omega arith)
      by (suc a) d = omega arith

  pub seek_less : 0 < p → i < c → a - 1 < a
  seek_less h l = let m = seek_more h l in omega arith

  pub seek_turn : 0 < p → i < c → Seeking i p n (a - 1)
  seek_turn h l = let m = seek_more h l in let w = s.within in let f : a - 1 + 1 ≡ a = omega arith in record { within = omega arith; under = λ u. rw f (omega arith) }

  below_all : i < how_many p n → c ≤ i → (a ≡ n → ⊥)
  below_all h l d = let f : how_many p a ≡ how_many p n = ap (how_many p) d in omega arith

  pub seek_within : i < how_many p n → c ≤ i → a < n
  seek_within h l = let w = s.within in let z = below_all h l in omega arith

  pub seek_low : c ≤ i → how_many p a ≤ i
  seek_low l = omega arith

  pub seek_under : i < how_many p n → c ≤ i → i < how_many p (a + 1)
  seek_under h l = s.under (seek_within h l)

-- ---- a genotype by its last allele

-- an element stored behind what lies over a list
over_set : (vs l : List ℕ) (k a : ℕ) → length vs ≡ k → k < length l → over (vs ++ a ∷ []) l ≡ over vs (set l k a)
unfolding over
over_set vs l k a e h =
    let f : length (vs ++ a ∷ []) ≡ k + 1 = length-append vs (a ∷ []) ∙ omega arith in
    rw (f, e) (append_assoc vs (a ∷ []) (drop (k + 1) l) ∙ ap (λ (r : List ℕ). vs ++ r) (sym (stored k a l h)))

module _ (i p n : ℕ) {a c : ℕ} (h : a < n) (e : c ≡ how_many p a) (l : how_many p a ≤ i) (u : i < how_many p (a + 1)) where
  pub rest_under : (p ≡ 0 → ⊥) → i - c < how_many (p - 1) (a + 1)
  rest_under z = by p z e l u
    where
      by : (p : ℕ) → (p ≡ 0 → ⊥) → c ≡ how_many p a → how_many p a ≤ i → i < how_many p (a + 1) → i - c < how_many (p - 1) (a + 1)
      by zero z e l u = absurd (z refl)
      by (suc q) z e l u =
          let f : suc q - 1 ≡ q = omega arith in
          let k = count_more q a in
          let v : i < how_many (suc q) (suc a) = rw add-one at u in
          rw (f, add-one) (omega arith)

  -- the genotype of what is left, and then the last allele
  pub by_last : (p ≡ 0 → ⊥) → get_or (ordering p n) i [] ≡ get_or (ordering (p - 1) (a + 1)) (i - c) [] ++ a ∷ []
  unfolding ordering
  by_last z = by p z e l u
    where
      by : (p : ℕ) → (p ≡ 0 → ⊥) → c ≡ how_many p a → how_many p a ≤ i → i < how_many p (a + 1) → get_or (ordering p n) i [] ≡ get_or (ordering (p - 1) (a + 1)) (i - c) [] ++ a ∷ []
      by zero z e l u = absurd (z refl)
      by (suc q) z e l u =
          let f : suc q - 1 ≡ q = omega arith in
          let k = count_more q a in
          let v : i < how_many (suc q) (suc a) = rw add-one at u in
          let x = length_ordering (suc q) a in
          let y = length_ordering (suc q) (suc a) in
          let w = length_ordering q (suc a) in
          let d : length (ordering (suc q) a) + (i - c) ≡ i = omega arith in
          rw (f, add-one)
          (fewer_at (suc q) (suc a) n i h (omega arith)
          ∙ ap (λ (j : ℕ). get_or (ordering (suc q) a ++ followed a (ordering q (suc a))) j []) (sym d)
          ∙ get_or-append-add (ordering (suc q) a) (followed a (ordering q (suc a))) (i - c) []
          ∙ get_d_followed a (ordering q (suc a)) (i - c) (omega arith))

  pub put_more : (l : List ℕ) {l' : List ℕ} → (p ≡ 0 → ⊥) → p ≤ length l
      → l' ≡ over (get_or (ordering (p - 1) (a + 1)) (i - c) []) (set l (p - 1) a) → l' ≡ over (get_or (ordering p n) i []) l
  put_more l z w o =
      let r = rest_under z in
      let k = length_ordering (p - 1) (a + 1) in
      let d = rises_ploidy (listed (p - 1) (a + 1) (i - c) (omega arith)) in
      o ∙ sym (over_set (get_or (ordering (p - 1) (a + 1)) (i - c) []) l (p - 1) a d (omega arith)) ∙ ap (λ (g : List ℕ). over g l) (sym (by_last z))

pub put_room : (l : List ℕ) (j v p : ℕ) → p ≤ length l → p - 1 ≤ length (set l j v)
put_room l j v p h = simp length-set (omega arith)

pub put_none : (i p n : ℕ) (l : List ℕ) → p ≡ 0 → i < how_many p n → l ≡ over (get_or (ordering p n) i []) l
unfolding ordering
put_none i p n l e h = by p e i h
  where
    by : (p : ℕ) → p ≡ 0 → (i : ℕ) → i < how_many p n → l ≡ over (get_or (ordering p n) i []) l
    by (suc p) e i h = absurd (omega arith)
    by zero e zero h = sym (over_nil l)
    by zero e (suc i) h = absurd (let k = count_none n in omega arith)

-- ---- the answer

module _ (i p n : ℕ) (l : List ℕ) where
  pub place_none : limits p n ≡ false → PlacesGenotype i p n l (Err F.NoGenotype) l
  unfolding filled_paper genotype_answer
  place_none f = record { answer = rw f; row = rw f }

  module _ {s : Shape} (v : ShapeOf p n s) {c : ℕ} (d : c ≡ how_many s.ploidy s.alleles) where
    k : Counted p n c
    k = counted v d

    pub place_past : c ≤ i → PlacesGenotype i p n l (Err F.NoGenotype) l
    unfolding filled_paper genotype_answer
    place_past h =
        let f : ltb i (length (ordering p n)) ≡ false = le-ltb i (length (ordering p n)) (let f = k.is in let m = length_ordering p n in omega arith) in
        record { answer = rw (f, and-false); row = rw (f, and-false) }

    module _ (h : i < c) where
      good : is_there i p n ≡ true
      good =
          let g : ltb i (length (ordering p n)) ≡ true = lt-ltb i (length (ordering p n)) (let f = k.is in let m = length_ordering p n in omega arith) in
          rw (k.within, g)

      pub place_short : length l < s.ploidy → PlacesGenotype i p n l (Err F.Short) l
      unfolding filled_paper genotype_answer
      place_short w = let f : leb p (length l) ≡ false = lt-leb _ _ (rw v.ploidy at w) in record { answer = rw (good, f); row = rw (good, f) }

      pub place_done : {l' : List ℕ} → s.ploidy ≤ length l → l' ≡ over (get_or (ordering s.ploidy s.alleles) i []) l → PlacesGenotype i p n l (Ok p) l'
      unfolding filled_paper genotype_answer
      place_done w o =
          let f : leb p (length l) ≡ true = le-leb _ _ (rw v.ploidy at w) in
          record { answer = rw (good, f); row = rw (good, f) (rw (v.ploidy, v.alleles) at o) }

      pub place_under : i < how_many p n
      place_under = let f = k.is in omega arith

pub ruleset laws = (seek_first, seek_more, seek_less, seek_turn, seek_within, seek_low, seek_under, rest_under, put_more, put_room, put_none, place_past, place_short, place_done)
