-- The four functions as asked: by the closed forms, by cases on the limits and on whether the alleles fall; and any four that do so answer
-- alike, since each genotype's place is told by its number. Assumes nothing.
use Prim.Native.Nat.{ℕ, ◌*◌, ◌<◌, ◌≤◌}
use mathlib.Core.Path.{◌≡◌, refl, sym, ap, ap₂, ◌∙◌}
use mathlib.Core.Bool.{Bool, true, false, false≢true, and-eq-true_iff}
use mathlib.Core.List.{List, [], ◌∷◌, ◌++◌, flatten}
use native.Mathlib.Omega.{arith}
use lib.ListN.{length, get_or, take, drop, take-append-drop, length-append, length-drop}
use lib.Seq.{drop_at}
use lib.Dec.{leb, ltb}
use borrow.Author.Tests.{lt-ltb, le-leb, lt-leb, leb-true, leb-false, ltb-true}
use Rattle.text.specs.Answer.{Answer, says}
use Rattle.text.specs.Outcome.{Outcome}
use Rattle.text.specs.Over.{over}
use Rattle.text.proofs.Lists.{over_is}
use Rattle.text.proofs.OutcomeLaws.{same_outcome}
use Rattle.numbering.specs.Ordering.{ordering}
use Rattle.numbering.specs.Closed.{how_many, closed_sum}
use Rattle.numbering.specs.Demands.{Genotype, Limits, Counts, Numbers, Refused, Places, Holds, Lists, Four, OneEach}
use Rattle.numbering.specs.Answers.{limits, count_answer, number_answer, genotype_answer, list_answer, is_there, genotype_left, all_left}
use Rattle.numbering.specs.Inner.{is_genotype}
use Rattle.numbering.proofs.OrderLaws.{length_ordering, listed, numbered, rises_ploidy, rises_genotype, genotype_stands}
use Rattle.numbering.proofs.LimitLaws.{limited, limits_yes, limits_no}
use Rattle.numbering.proofs.NumberLaws.{answer_is, answer_wrong, tested, untested}
use Rattle.numbering.proofs.FlatLaws.{flat_at, flat_back}
use Rattle.numbering.proofs.ListLaws.{length_all}

-- ---- answers with the row that is left

abbrev genotype_outcome : ℕ → ℕ → ℕ → List ℕ → Outcome
genotype_outcome i p n row = record { answer = genotype_answer i p n (length row); output = genotype_left i p n row }

abbrev list_outcome : ℕ → ℕ → List ℕ → Outcome
list_outcome p n row = record { answer = list_answer p n (length row); output = all_left p n row }

-- ---- what is known of a genotype, a number and the limits

pub counts : Counts count_answer
unfolding count_answer
counts = record { is = λ p n l. rw (limits_yes l, length_ordering p n); other = λ p n z. rw (limits_no z) }

pub numbers : Numbers number_answer
numbers = record { is = λ n g l f. answer_is n g (limits_yes l) f; other = answer_wrong }

-- the number i is given to g: it is a genotype within the limits, and i its closed sum
pub record Told (n i : ℕ) (g : List ℕ) : Type 0 where
  pub limits : Limits (length g) n
  pub genotype : Genotype (length g) n g
  pub sum : closed_sum g ≡ i

-- a genotype is told from what is none
data Judged (n : ℕ) (g : List ℕ) : Type 0 where
  fine : Limits (length g) n → Genotype (length g) n g → Judged n g
  wrong : (Limits (length g) n → Genotype (length g) n g → ⊥) → Judged n g

judged : (n : ℕ) (g : List ℕ) → Judged n g
judged n g = by (is_genotype n g) refl
  where
    by : (b : Bool) → is_genotype n g ≡ b → Judged n g
    by true e = let t = tested n g e in fine t.limits t.genotype
    by false e = wrong (untested n g e)

module _ {number : ℕ → List ℕ → Answer} (m : Numbers number) where
  pub told : (n i : ℕ) (g : List ℕ) → number n g ≡ says 0 (i ∷ []) → Told n i g
  told n i g e = by (judged n g)
    where
      by : Judged n g → Told n i g
      by (fine l f) = let s = m.is n g l f in record { limits = l; genotype = f; sum = cc }
      by (wrong z) = absurd (let s = m.other n g z in let y : ◌≡◌ {A = ℕ} 0 23 = cc in omega arith)

  -- what stands at i is given the number i
  there : (p n i : ℕ) → Limits p n → i < how_many p n → number n (get_or (ordering p n) i []) ≡ says 0 (i ∷ [])
  there p n i l h =
      let h' : i < length (ordering p n) = let e = length_ordering p n in omega arith in
      let r = listed p n i h' in
      let e = rises_ploidy r in
      m.is n (get_or (ordering p n) i []) (rw e l) (rw e (rises_genotype r)) ∙ ap (λ (k : ℕ). says 0 (k ∷ [])) (numbered p n i h')

each_long : (p n i : ℕ) → i < length (ordering p n) → length (get_or (ordering p n) i []) ≡ p
each_long p n i h = rises_ploidy (listed p n i h)

-- where g is given i, it stands there
pub record Stood (p n i : ℕ) (g : List ℕ) : Type 0 where
  pub limits : Limits p n
  pub under : i < length (ordering p n)
  pub here : get_or (ordering p n) i [] ≡ g

pub stood : {number : ℕ → List ℕ → Answer} → Numbers number → (p n i : ℕ) (g : List ℕ) → length g ≡ p → number n g ≡ says 0 (i ∷ []) → Stood p n i g
stood m p n i g e t =
    let k = told m n i g t in
    let f : Genotype p n g = rw e at k.genotype in
    let s = genotype_stands f in
    let q = k.sum in
    let w = length_ordering p n in
    record { limits = rw e at k.limits; under = let u = s.under in omega arith; here = rw q at s.there }

stood_at : {p n i : ℕ} {g : List ℕ} → Stood p n i g → is_there i p n ≡ true
stood_at {p} {n} {i} s = rw (limits_yes s.limits, lt-ltb i (length (ordering p n)) s.under)

at_limits : (p n i : ℕ) → is_there i p n ≡ true → Limits p n
at_limits p n i e = limited {r = limits p n} refl ((and-eq-true_iff (limits p n) (ltb i (length (ordering p n)))).0 e).0

at_under : (p n i : ℕ) → is_there i p n ≡ true → i < how_many p n
at_under p n i e =
    let v = ltb-true i (length (ordering p n)) ((and-eq-true_iff (limits p n) (ltb i (length (ordering p n)))).0 e).1 in
    let w = length_ordering p n in
    omega arith

-- ---- the genotype of a number

module _ {number : ℕ → List ℕ → Answer} (m : Numbers number) where
  module _ (i p n : ℕ) (row g : List ℕ) (e : length g ≡ p) (t : number n g ≡ says 0 (i ∷ [])) where
    good : is_there i p n ≡ true
    good = stood_at (stood m p n i g e t)

    place_done : p ≤ length row → (genotype_outcome i p n row).answer ≡ says 0 (p ∷ [])
    unfolding genotype_answer
    place_done h = rw (good, le-leb p (length row) h)

    place_written : p ≤ length row → (genotype_outcome i p n row).output ≡ over g row
    unfolding genotype_answer
    place_written h = rw (good, le-leb p (length row) h, (stood m p n i g e t).here) refl

    place_short : length row < p → Refused 17 row (genotype_outcome i p n row)
    unfolding genotype_answer
    place_short h = let f = lt-leb p (length row) h in record { answer = rw (good, f); left = rw (good, f) }

  place_other : (i p n : ℕ) (row : List ℕ) → ((g : List ℕ) → length g ≡ p → number n g ≡ says 0 (i ∷ []) → ⊥) → Refused 23 row (genotype_outcome i p n row)
  unfolding genotype_answer
  place_other i p n row z = by (is_there i p n) refl
    where
      by : (b : Bool) → is_there i p n ≡ b → Refused 23 row (genotype_outcome i p n row)
      by false e = record { answer = rw e; left = rw e }
      by true e =
          let h = at_under p n i e in
          absurd (z (get_or (ordering p n) i []) (each_long p n i (let k = length_ordering p n in omega arith)) (there m p n i (at_limits p n i e) h))

  pub places : Places number genotype_outcome
  places = record { done = place_done; written = place_written; short = place_short; other = place_other }

-- ---- all of them

-- a count that is told is that of the order
pub record OfOrder (p n c : ℕ) : Type 0 where
  pub within : limits p n ≡ true
  pub count : c ≡ length (ordering p n)

module _ {count : ℕ → ℕ → Answer} (k : Counts count) (p n : ℕ) where
  pub of_order : (c : ℕ) → count p n ≡ says 0 (c ∷ []) → OfOrder p n c
  of_order c e = by (limits p n) refl
    where
      by : (b : Bool) → limits p n ≡ b → OfOrder p n c
      by true l = record { within = l; count = let s = k.is p n (limited (sym l) refl) in let q : how_many p n ≡ c = cc in sym q ∙ sym (length_ordering p n) }
      by false l = absurd (let s = k.other p n (λ f. false≢true (sym l ∙ limits_yes f)) in let y : ◌≡◌ {A = ℕ} 0 23 = cc in omega arith)

  pub off_order : count p n ≡ says 23 [] → limits p n ≡ false
  off_order e = by (limits p n) refl
    where
      by : (b : Bool) → limits p n ≡ b → limits p n ≡ false
      by false l = l
      by true l = absurd (let s = k.is p n (limited (sym l) refl) in let y : ◌≡◌ {A = ℕ} 0 23 = cc in omega arith)

flat_long : (p n : ℕ) → length (flatten (ordering p n)) ≡ length (ordering p n) * p
flat_long p n = length_all p n ∙ ap (λ (c : ℕ). c * p) (sym (length_ordering p n))

module _ {count : ℕ → ℕ → Answer} (k : Counts count) {number : ℕ → List ℕ → Answer} (m : Numbers number) where
  module _ (p n c : ℕ) (row : List ℕ) (e : count p n ≡ says 0 (c ∷ [])) where
    room : length (flatten (ordering p n)) ≡ c * p
    room = flat_long p n ∙ ap (λ (j : ℕ). j * p) (sym (of_order k p n c e).count)

    list_done : c * p ≤ length row → (list_outcome p n row).answer ≡ says 0 (c ∷ [])
    unfolding list_answer
    list_done h = let q = of_order k p n c e in rw (q.within, le-leb (length (flatten (ordering p n))) (length row) (let r = room in omega arith), q.count)

    written : c * p ≤ length row → (list_outcome p n row).output ≡ flatten (ordering p n) ++ drop (c * p) row
    unfolding list_answer
    written h = rw ((of_order k p n c e).within, le-leb (length (flatten (ordering p n))) (length row) (let r = room in omega arith)) (over_is (flatten (ordering p n)) row ∙ rw room refl)

    list_holds : c * p ≤ length row → Holds number c p n row (list_outcome p n row).output
    list_holds h =
        let gs = ordering p n in
        let r = room in
        rw (written h)
        (record {
          size = length-append (flatten gs) (drop (c * p) row) ∙ (let d = length-drop (c * p) row in omega arith);
          rest = drop_at (flatten gs) (drop (c * p) row) (c * p) r;
          each = λ i g q t. let s = stood m p n i g q t in flat_at p gs (drop (c * p) row) (each_long p n) i s.under ∙ s.here;
        })

    list_short : length row < c * p → Refused 17 row (list_outcome p n row)
    unfolding list_answer
    list_short h =
        let f = lt-leb (length (flatten (ordering p n))) (length row) (let r = room in omega arith) in
        let q = (of_order k p n c e).within in
        record { answer = rw (q, f); left = rw (q, f) }

  list_other : (p n : ℕ) (row : List ℕ) → count p n ≡ says 23 [] → Refused 23 row (list_outcome p n row)
  unfolding list_answer
  list_other p n row e = let f = off_order k p n e in record { answer = rw f; left = rw f }

  pub lists : Lists count number list_outcome
  lists = record { done = list_done; holds = list_holds; short = list_short; other = list_other }

-- ---- any four

-- a row that holds them all is told by it
held : {number : ℕ → List ℕ → Answer} → Numbers number → (p n : ℕ) (row x : List ℕ) → Limits p n → Holds number (how_many p n) p n row x
    → x ≡ flatten (ordering p n) ++ drop (how_many p n * p) row
held m p n row x l h =
    let e = length_ordering p n in
    let t : take (how_many p n * p) x ≡ flatten (ordering p n) =
    rw e at (flat_back p (ordering p n) x (λ i u. h.each i (get_or (ordering p n) i []) (each_long p n i u) (there m p n i l (omega arith)))) in
    sym (take-append-drop (how_many p n * p) x) ∙ ap₂ (λ (y z : List ℕ). y ++ z) t h.rest

pub both_refused : {k : ℕ} {row : List ℕ} {o o' : Outcome} → Refused k row o → Refused k row o' → o ≡ o'
both_refused r r' = same_outcome (r.answer ∙ sym r'.answer) (r.left ∙ sym r'.left)

pub one_each : OneEach
unfolding OneEach
one_each f h = record { count = same_count; number = same_number; place = same_place; list = same_list }
  where
    same_count : (p n : ℕ) → f.count p n ≡ h.count p n
    same_count p n = by (limits p n) refl
      where
        by : (b : Bool) → limits p n ≡ b → f.count p n ≡ h.count p n
        by true e = let l = limited (sym e) refl in f.counts.is p n l ∙ sym (h.counts.is p n l)
        by false e = let z : Limits p n → ⊥ = λ l. false≢true (sym e ∙ limits_yes l) in f.counts.other p n z ∙ sym (h.counts.other p n z)

    same_number : (n : ℕ) (g : List ℕ) → f.number n g ≡ h.number n g
    same_number n g = by (judged n g)
      where
        by : Judged n g → f.number n g ≡ h.number n g
        by (fine l k) = f.numbers.is n g l k ∙ sym (h.numbers.is n g l k)
        by (wrong z) = f.numbers.other n g z ∙ sym (h.numbers.other n g z)

    same_place : (i p n : ℕ) (row : List ℕ) → f.place i p n row ≡ h.place i p n row
    same_place i p n row = by (is_there i p n) refl
      where
        nowhere : {number : ℕ → List ℕ → Answer} → Numbers number → is_there i p n ≡ false → (g : List ℕ) → length g ≡ p → number n g ≡ says 0 (i ∷ []) → ⊥
        nowhere m e g q t = false≢true (sym e ∙ stood_at (stood m p n i g q t))

        room : is_there i p n ≡ true → (b : Bool) → leb p (length row) ≡ b → f.place i p n row ≡ h.place i p n row
        room a b e = by b e
          where
            g : List ℕ
            g = get_or (ordering p n) i []

            q : length g ≡ p
            q = let u = at_under p n i a in each_long p n i (let k = length_ordering p n in omega arith)

            t : f.number n g ≡ says 0 (i ∷ [])
            t = there f.numbers p n i (at_limits p n i a) (at_under p n i a)

            t' : h.number n g ≡ says 0 (i ∷ [])
            t' = there h.numbers p n i (at_limits p n i a) (at_under p n i a)

            by : (b : Bool) → leb p (length row) ≡ b → f.place i p n row ≡ h.place i p n row
            by true e =
                let w = leb-true p (length row) e in
                same_outcome (f.places.done i p n row g q t w ∙ sym (h.places.done i p n row g q t' w)) (f.places.written i p n row g q t w ∙ sym (h.places.written i p n row g q t' w))
            by false e = let w = leb-false p (length row) e in both_refused (f.places.short i p n row g q t w) (h.places.short i p n row g q t' w)

        by : (b : Bool) → is_there i p n ≡ b → f.place i p n row ≡ h.place i p n row
        by false e = both_refused (f.places.other i p n row (nowhere f.numbers e)) (h.places.other i p n row (nowhere h.numbers e))
        by true e = room e (leb p (length row)) refl

    same_list : (p n : ℕ) (row : List ℕ) → f.list p n row ≡ h.list p n row
    same_list p n row = by (limits p n) refl
      where
        room : Limits p n → (b : Bool) → leb (how_many p n * p) (length row) ≡ b → f.list p n row ≡ h.list p n row
        room l true e =
            let w = leb-true (how_many p n * p) (length row) e in
            let c = f.counts.is p n l in
            let c' = h.counts.is p n l in
            same_outcome
            (f.lists.done p n (how_many p n) row c w ∙ sym (h.lists.done p n (how_many p n) row c' w))
            (held f.numbers p n row _ l (f.lists.holds p n (how_many p n) row c w) ∙ sym (held h.numbers p n row _ l (h.lists.holds p n (how_many p n) row c' w)))
        room l false e =
            let w = leb-false (how_many p n * p) (length row) e in
            both_refused (f.lists.short p n (how_many p n) row (f.counts.is p n l) w) (h.lists.short p n (how_many p n) row (h.counts.is p n l) w)

        by : (b : Bool) → limits p n ≡ b → f.list p n row ≡ h.list p n row
        by true e = let l = limited (sym e) refl in room l (leb (how_many p n * p) (length row)) refl
        by false e =
            let z : Limits p n → ⊥ = λ l. false≢true (sym e ∙ limits_yes l) in
            both_refused (f.lists.other p n row (f.counts.other p n z)) (h.lists.other p n row (h.counts.other p n z))

-- the four of this crate are such
pub ours : Four
ours =
    record {
      count = count_answer;
      number = number_answer;
      place = genotype_outcome;
      list = list_outcome;
      counts = counts;
      numbers = numbers;
      places = places numbers;
      lists = lists counts numbers;
    }
