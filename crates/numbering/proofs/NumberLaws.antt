-- The number of a genotype: its alleles judged, and their counts added up. Assumes nothing.
use Prim.Native.Nat.{ℕ, zero, suc, ◌+◌, ◌-◌, ◌^◌, ◌<◌, ◌≤◌, zero-le}
use mathlib.Core.Path.{◌≡◌, refl, sym, ap, ◌∙◌}
use mathlib.Core.Bool.{Bool, true, false, ◌&&◌, and-false, and-eq-true_iff, false≢true, not}
use mathlib.Core.Logic.{◌↔◌, ◌⊎◌, inl, inr}
use mathlib.Core.List.{List, [], ◌∷◌}
use native.Mathlib.Omega.{arith}
use lib.ListN.{length, get_or, take, drop, drop_of_length-le}
use lib.Seq.{take-suc, length-take-le, get_or-take, take_all}
use lib.Dec.{leb, ltb}
use borrow.Author.Tests.{le-leb, lt-leb, leb-true, lt-ltb, le-ltb, ltb-true, not-true, not-false}
use Rattle.std.specs.Prelude.{Ok, Err}
use Rattle.text.specs.Pick.{pick}
use Rattle.text.specs.Answer.{says}
use Rattle.text.specs.First.{first_where}
use Rattle.text.specs.Same.{same}
use Rattle.text.proofs.Lists.{here}
use Rattle.numbering.specs.Ordering.{ordering}
use Rattle.numbering.specs.Closed.{how_many, closed_sum}
use Rattle.numbering.specs.Demands.{Genotype, Limits}
use Rattle.numbering.specs.Answers.{limits, indexed, number_answer}
use Rattle.numbering.specs.Inner.{never_falls, is_genotype}
use Rattle.numbering.specs.Paper.{number_paper}
use Rattle.numbering.specs.declared.counts.NoGenotype.{NoGenotype}
use Rattle.numbering.proofs.OrderLaws.{genotype_stands, number_none, number_snoc}
use Rattle.numbering.proofs.CountLaws.{count_small}
use Rattle.numbering.proofs.LimitLaws.{limited, limits_yes}
use Rattle.numbering.proofs.IndexLaws.{index_is, index_none}

-- ---- the judge

-- the alleles from i on rise from low on, where all do from 0 on
pub record Judging (n : ℕ) (g : List ℕ) (low i : ℕ) : Type 0 where
  pub within : i ≤ length g
  pub same : never_falls low n (drop i g) ≡ never_falls 0 n g

pub judge_first : {n : ℕ} {g : List ℕ} → Judging n g 0 0
judge_first = record { within = zero-le; same = refl }

module _ {n : ℕ} {g : List ℕ} {low i : ℕ} (j : Judging n g low i) where
  module _ (h : i < length g) where
    judge_here : never_falls low n (get_or g i 0 ∷ drop (i + 1) g) ≡ never_falls 0 n g
    judge_here = rw (here g i h) at j.same

    pub judge_wrong : (get_or g i 0 < low) ⊎ ((low ≤ get_or g i 0) × (n ≤ get_or g i 0)) → false ≡ never_falls 0 n g
    unfolding never_falls
    judge_wrong (inl l) = rw (← judge_here, lt-leb _ _ l)
    judge_wrong (inr l) = rw (← judge_here, le-ltb _ _ l.1, and-false)

    pub judge_turn : low ≤ get_or g i 0 → get_or g i 0 < n → Judging n g (get_or g i 0) (i + 1)
    unfolding never_falls
    judge_turn l w = record { within = omega arith; same = rw (le-leb _ _ l, lt-ltb _ _ w) at judge_here }

  pub judge_past : length g ≤ i → true ≡ never_falls 0 n g
  unfolding never_falls
  judge_past h = rw (drop_of_length-le g h) at j.same

-- ---- the test says what a genotype is

record Up (low n : ℕ) (g : List ℕ) : Type 0 where
  floor : (i : ℕ) → i < length g → low ≤ get_or g i 0
  below : (i : ℕ) → i < length g → get_or g i 0 < n
  order : (i : ℕ) → suc i < length g → get_or g i 0 ≤ get_or g (suc i) 0

up_cons : {low n k : ℕ} {g : List ℕ} → low ≤ k → k < n → Up k n g → Up low n (k ∷ g)
up_cons {low} {n} {k} {g} l h u = record { floor = floor'; below = below'; order = order' }
  where
    floor' : (i : ℕ) → i < suc (length g) → low ≤ get_or (k ∷ g) i 0
    floor' zero w = l
    floor' (suc i) w = let z = u.floor i (omega arith) in omega arith

    below' : (i : ℕ) → i < suc (length g) → get_or (k ∷ g) i 0 < n
    below' zero w = h
    below' (suc i) w = u.below i (omega arith)

    order' : (i : ℕ) → suc i < suc (length g) → get_or (k ∷ g) i 0 ≤ get_or g i 0
    order' zero w = u.floor 0 (omega arith)
    order' (suc i) w = u.order i (omega arith)

never_falls_up : (low n : ℕ) (g : List ℕ) → never_falls low n g ≡ true → Up low n g
unfolding never_falls
never_falls_up low n [] r = record { floor = λ i h. absurd (omega arith); below = λ i h. absurd (omega arith); order = λ i h. absurd (omega arith) }
never_falls_up low n (k ∷ g) r =
    let a = (and-eq-true_iff (leb low k) (ltb k n && never_falls k n g)).0 r in
    let b = (and-eq-true_iff (ltb k n) (never_falls k n g)).0 a.1 in
    up_cons (leb-true _ _ a.0) (ltb-true _ _ b.0) (never_falls_up k n g b.1)

up_never_falls : (low n : ℕ) (g : List ℕ) → Up low n g → never_falls low n g ≡ true
unfolding never_falls
up_never_falls low n [] u = refl
up_never_falls low n (k ∷ g) u =
    let r = up_never_falls k n g (record { floor = low_of; below = λ i h. u.below (suc i) (omega arith); order = λ i h. u.order (suc i) (omega arith) }) in
    rw (le-leb low k (u.floor 0 (omega arith)), lt-ltb k n (u.below 0 (omega arith))) r
  where
    low_of : (i : ℕ) → i < length g → k ≤ get_or g i 0
    low_of zero h = u.order 0 (omega arith)
    low_of (suc i) h = let x = low_of i (omega arith) in let y = u.order (suc i) (omega arith) in omega arith

pub never_falls_is : (n : ℕ) (g : List ℕ) → (never_falls 0 n g ≡ true) ↔ Genotype (length g) n g
never_falls_is n g = (
  (λ r. let u = never_falls_up 0 n g r in record { ploidy = refl; below = u.below; order = u.order }),
  (λ f. up_never_falls 0 n g (record { floor = λ i h. zero-le; below = f.below; order = f.order })),
)

-- ---- the sum

-- fewer alleles, from the first on
genotype_take : {p n : ℕ} (q : ℕ) (g : List ℕ) → q ≤ length g → Genotype p n g → Genotype q n (take q g)
genotype_take q g h f =
    let l = length-take-le q g h in
    record {
      ploidy = l;
      below = λ i w. rw (get_or-take q g i 0 (omega arith)) (f.below i (omega arith));
      order = λ i w. rw (get_or-take q g i 0 (omega arith), get_or-take q g (suc i) 0 (omega arith)) (f.order i (omega arith));
    }

number_take : (p : ℕ) (g : List ℕ) → 0 < p → p ≤ length g → closed_sum (take p g) ≡ closed_sum (take (p - 1) g) + how_many p (get_or g (p - 1) 0)
number_take zero g z h = absurd (omega arith)
number_take (suc q) g z h =
    let e : suc q - 1 ≡ q = omega arith in
    let l = length-take-le q g (omega arith) in
    rw (e, take-suc g q 0 h) (number_snoc (take q g) (get_or g q 0) ∙ rw l refl)

module _ {g : List ℕ} (f : Genotype (length g) 64 g) (short : length g ≤ 8) where
  pub number_small : (p : ℕ) → p ≤ length g → closed_sum (take p g) < 10639125640
  number_small p h = let s = genotype_stands (genotype_take p g h f) in let b = count_small p 64 (omega arith) (omega arith) in omega arith

  pub number_last : {p : ℕ} → (p ≡ 0 → ⊥) → p ≤ length g → get_or g (p - 1) 0 ≤ 64
  number_last {p} z h = let b = f.below (p - 1) (omega arith) in omega arith

  module _ {p r c : ℕ} (z : p ≡ 0 → ⊥) (h : p ≤ length g) (e : r ≡ closed_sum (take (p - 1) g)) (d : c ≡ how_many p (get_or g (p - 1) 0)) where
    pub number_more : r + c ≡ closed_sum (take p g)
    number_more = let t = number_take p g (omega arith) h in omega arith

    pub number_fits : r + c < 2 ^ 64
    number_fits = let t = number_more in let s = number_small p h in omega arith

pub number_zero : {p : ℕ} (g : List ℕ) → p ≡ 0 → 0 ≡ closed_sum (take p g)
number_zero g e = rw e (sym number_none)

-- ---- the answer

pub answer_is : (n : ℕ) (g : List ℕ) → limits (length g) n ≡ true → Genotype (length g) n g → number_answer n g ≡ says 0 (closed_sum g ∷ [])
unfolding number_answer indexed
answer_is n g l f = rw (l, index_is g (length g) n f)

pub answer_none : (n : ℕ) (g : List ℕ) → (Genotype (length g) n g → ⊥) → number_answer n g ≡ says 23 []
unfolding number_answer indexed
answer_none n g z = by (limits (length g) n)
  where
    by : (b : Bool) → pick b (indexed (first_where (λ (h : List ℕ). same h g) 0 (ordering (length g) n))) (says 23 []) ≡ says 23 []
    by true = rw (index_none g (length g) n z)
    by false = refl

pub answer_limits : (n : ℕ) (g : List ℕ) → limits (length g) n ≡ false → number_answer n g ≡ says 23 []
unfolding number_answer
answer_limits n g l = rw l

pub answer_wrong : (n : ℕ) (g : List ℕ) → (Limits (length g) n → Genotype (length g) n g → ⊥) → number_answer n g ≡ says 23 []
answer_wrong n g z = by (limits (length g) n) refl
  where
    by : (b : Bool) → limits (length g) n ≡ b → number_answer n g ≡ says 23 []
    by true e = answer_none n g (z (limited (sym e) refl))
    by false e = answer_limits n g e

-- ---- the test

module _ (n : ℕ) (g : List ℕ) {r : Bool} (e : r ≡ limits (length g) n) where
  pub genotype_limits : r ≡ false → r ≡ is_genotype n g
  unfolding is_genotype
  genotype_limits t = let f : limits (length g) n ≡ false = sym e ∙ t in rw (t, f)

  pub genotype_falls : {s : Bool} → r ≡ true → s ≡ never_falls 0 n g → s ≡ is_genotype n g
  unfolding is_genotype
  genotype_falls t d = let f : limits (length g) n ≡ true = sym e ∙ t in rw f d

-- what it tells
pub record Tested (n : ℕ) (g : List ℕ) : Type 0 where
  pub limits : Limits (length g) n
  pub genotype : Genotype (length g) n g

pub tested : (n : ℕ) (g : List ℕ) → is_genotype n g ≡ true → Tested n g
unfolding is_genotype
tested n g e =
    let a = (and-eq-true_iff (limits (length g) n) (never_falls 0 n g)).0 e in
    record { limits = limited (sym a.0) refl; genotype = (never_falls_is n g).0 a.1 }

pub untested : (n : ℕ) (g : List ℕ) → is_genotype n g ≡ false → Limits (length g) n → Genotype (length g) n g → ⊥
unfolding is_genotype
untested n g e l f = let k : (limits (length g) n && never_falls 0 n g) ≡ true = rw (limits_yes l, (never_falls_is n g).1 f) in false≢true (sym e ∙ k)

module _ (n : ℕ) (g : List ℕ) {r : Bool} (e : r ≡ is_genotype n g) where
  pub number_wrong : {no : NoGenotype} → not r ≡ true → number_paper (Err no) ≡ number_answer n g
  unfolding number_paper
  number_wrong t = sym (answer_wrong n g (untested n g (sym e ∙ not-true r t)))

  module _ (t : not r ≡ false) where
    told : Tested n g
    told = tested n g (sym e ∙ not-false r t)

    pub number_short : length g ≤ 8
    number_short = told.limits.eight

    pub number_genotype : Genotype (length g) 64 g
    number_genotype =
        let k = told.genotype in
        let m = told.limits.most in
        record { ploidy = refl; below = λ i h. (let z = k.below i h in omega arith); order = k.order }

    pub number_right : {v : ℕ} → v ≡ closed_sum (take (length g) g) → number_paper (Ok v) ≡ number_answer n g
    unfolding number_paper
    number_right {v} w =
        let x : v ≡ closed_sum g = w ∙ ap closed_sum (take_all (length g) g (omega arith)) in
        rw x (sym (answer_is n g (limits_yes told.limits) told.genotype))

pub ruleset laws = (judge_first, judge_wrong, judge_turn, judge_past, number_last, number_more, number_fits, number_zero, genotype_limits, genotype_falls, number_wrong, number_short, number_genotype, number_right)
