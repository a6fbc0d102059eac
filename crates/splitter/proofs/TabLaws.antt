-- The tabs of a line, byte by byte: those that were seen, and those of what is left. Assumes nothing.
use Prim.Native.Nat.{ℕ, suc, ◌+◌, ◌≤◌, ◌<◌}
use mathlib.Core.Path.{◌≡◌, refl, sym, ap, ◌∙◌}
use mathlib.Core.Bool.{Bool, true, false}
use mathlib.Core.List.{List, [], ◌∷◌, ◌++◌, append_assoc, append-nil}
use native.Mathlib.Omega.{arith}
use native.Mathlib.Decide.{dec_lt, ℕ_discrete}
use lib.ListN.{length, get_or, set, replicate, drop, length-append, length-set, drop_of_length-le, get_or-replicate, get_or-append, get_or-eq_default}
use lib.Seq.{get_or-set_same, get_or-set_other, get_or-append_seam}
use lib.Dec.{eqb}
use borrow.Author.Tests.{eq-eqb, ne_eqb}
use Rattle.text.specs.Pick.{pick}
use Rattle.text.proofs.Lists.{here}
use Rattle.splitter.specs.Inner.{tabs_from, first_gap, last_start, Nine, Keeps}

-- ---- the next byte

module _ (t : List ℕ) (i : ℕ) (h : i < length t) where
  tab_here : get_or t i 0 ≡ 9 → tabs_from i (drop i t) ≡ i ∷ tabs_from (i + 1) (drop (i + 1) t)
  unfolding tabs_from
  tab_here e = rw (here t i h, eq-eqb _ _ e)

  pub tab_not : (get_or t i 0 ≡ 9 → ⊥) → tabs_from i (drop i t) ≡ tabs_from (i + 1) (drop (i + 1) t)
  unfolding tabs_from
  tab_not n = rw (here t i h, ne_eqb _ _ n)

-- ---- one tab more

module _ (end : ℕ) where
  -- it is the first with an empty column before it
  gap_new : (from : ℕ) (seen : List ℕ) (tab : ℕ) → first_gap end from seen ≡ end → tab ≡ last_start from seen → ((j : ℕ) → j < length seen → get_or seen j 0 < end)
      → first_gap end from (seen ++ tab ∷ []) ≡ tab
  unfolding first_gap last_start
  gap_new from [] tab g e b = rw (eq-eqb _ _ e)
  gap_new from (x ∷ seen) tab g e b = by (eqb x from) g (λ n. gap_new (x + 1) seen tab n e (λ j l. b (suc j) (omega arith)))
    where
      by : (q : Bool) → pick q x (first_gap end (x + 1) seen) ≡ end → (first_gap end (x + 1) seen ≡ end → first_gap end (x + 1) (seen ++ tab ∷ []) ≡ tab)
          → pick q x (first_gap end (x + 1) (seen ++ tab ∷ [])) ≡ tab
      by true z f = absurd (let l = b 0 (omega arith) in omega arith)
      by false z f = f z

  -- there is a column before it
  gap_none : (from : ℕ) (seen : List ℕ) (tab : ℕ) → (tab ≡ last_start from seen → ⊥) → first_gap end from (seen ++ tab ∷ []) ≡ first_gap end from seen
  unfolding first_gap last_start
  gap_none from [] tab n = rw (ne_eqb _ _ n)
  gap_none from (x ∷ seen) tab n = rw (gap_none (x + 1) seen tab n)

  -- another was the first
  gap_old : (from : ℕ) (seen : List ℕ) (tab : ℕ) → (first_gap end from seen ≡ end → ⊥) → first_gap end from (seen ++ tab ∷ []) ≡ first_gap end from seen
  unfolding first_gap
  gap_old from [] tab n = absurd (n refl)
  gap_old from (x ∷ seen) tab n = by (eqb x from) n (gap_old (x + 1) seen tab)
    where
      by : (q : Bool) → (pick q x (first_gap end (x + 1) seen) ≡ end → ⊥)
          → ((first_gap end (x + 1) seen ≡ end → ⊥) → first_gap end (x + 1) (seen ++ tab ∷ []) ≡ first_gap end (x + 1) seen)
          → pick q x (first_gap end (x + 1) (seen ++ tab ∷ [])) ≡ pick q x (first_gap end (x + 1) seen)
      by true m f = refl
      by false m f = f m

last_more : (from : ℕ) (seen : List ℕ) (tab : ℕ) → last_start from (seen ++ tab ∷ []) ≡ tab + 1
unfolding last_start
last_more from [] tab = refl
last_more from (x ∷ seen) tab = last_more (x + 1) seen tab

-- ---- the first nine

nine_first : (end : ℕ) → Nine [] end (replicate 9 end)
nine_first end = record { size = refl; each = λ j l. get_or-replicate 9 j end 0 l }

module _ {tabs : List ℕ} {end : ℕ} {ends : List ℕ} (g : Nine tabs end ends) (tab : ℕ) where
  pub nine_more : {count : ℕ} → count ≡ length tabs → count < 9 → Nine (tabs ++ tab ∷ []) end (set ends count tab)
  nine_more {count} e h = record { size = length-set ends count tab ∙ g.size; each = λ j l. by j l (dec_lt j count) (ℕ_discrete j count) }
    where
      by : (j : ℕ) → j < 9 → Dec (j < count) → Dec (j ≡ count) → get_or (set ends count tab) j 0 ≡ get_or (tabs ++ tab ∷ []) j end
      by j l (yes p) q =
          get_or-set_other ends count j tab 0 (λ z. omega arith) ∙ g.each j l ∙ sym (get_or-append tabs (tab ∷ []) end j (omega arith))
      by j l (no p) (yes q) =
          rw (q, get_or-set_same ends count tab 0 (let s = g.size in omega arith), e) (sym (get_or-append_seam tabs tab [] end))
      by j l (no p) (no q) =
          get_or-set_other ends count j tab 0 q ∙ g.each j l ∙ get_or-eq_default tabs end (omega arith)
          ∙ sym (get_or-eq_default (tabs ++ tab ∷ []) end (let m = length-append tabs (tab ∷ []) in omega arith))

  pub nine_full : {count : ℕ} → count ≡ length tabs → 9 ≤ count → Nine (tabs ++ tab ∷ []) end ends
  nine_full e h = record { size = g.size; each = λ j l. g.each j l ∙ sym (get_or-append tabs (tab ∷ []) end j (omega arith)) }

-- ---- the loop

-- up to the place i, these tabs were seen
pub record Looked (t : List ℕ) (at end i count : ℕ) (ends : List ℕ) (gap start : ℕ) : Type 0 where
  pub seen : List ℕ
  pub whole : tabs_from at (drop at t) ≡ seen ++ tabs_from i (drop i t)
  pub ended : end ≡ length t
  pub within : i ≤ length t
  pub before : (j : ℕ) → j < length seen → get_or seen j 0 < i
  pub few : count ≤ i
  pub counted : count ≡ length seen
  pub nine : Nine seen end ends
  pub gap_is : gap ≡ first_gap end at seen
  pub last : start ≡ last_start at seen

pub looked_first : {t : List ℕ} {at : ℕ} → at ≤ length t → Looked t at (length t) at 0 (replicate 9 (length t)) (length t) at
unfolding first_gap last_start
looked_first {t} {at} h =
    record {
      seen = [];
      whole = refl;
      ended = refl;
      within = h;
      before = λ j l. absurd (omega arith);
      few = omega arith;
      counted = refl;
      nine = nine_first (length t);
      gap_is = refl;
      last = refl;
    }

module _ {t : List ℕ} {at end i count : ℕ} {ends : List ℕ} {gap start : ℕ} (g : Looked t at end i count ends gap start) where
  pub looked_few : count ≤ length t
  looked_few = let f = g.few in let w = g.within in omega arith

  pub looked_all : end ≤ i → Keeps (tabs_from at (drop at t)) at (length t) (record { count = count; ends = ends; gap = gap; last = start })
  unfolding tabs_from
  looked_all h =
      let e = g.ended in
      let q : tabs_from at (drop at t) ≡ g.seen = g.whole ∙ ap (λ (l : List ℕ). g.seen ++ tabs_from i l) (drop_of_length-le t {i = i} (omega arith)) ∙ append-nil g.seen in
      rw (q, ← e)
      (record { count = g.counted; ends = g.nine; gap = g.gap_is; last = g.last })

  module _ (h : i < end) where
    pub looked_beside : (get_or t i 0 ≡ 9 → ⊥) → Looked t at end (i + 1) count ends gap start
    looked_beside n =
        let e = g.ended in
        record {
          seen = g.seen;
          whole = g.whole ∙ ap (λ (l : List ℕ). g.seen ++ l) (tab_not t i (omega arith) n);
          ended = e;
          within = omega arith;
          before = λ j l. (let b = g.before j l in omega arith);
          few = (let f = g.few in omega arith);
          counted = g.counted;
          nine = g.nine;
          gap_is = g.gap_is;
          last = g.last;
        }

    pub looked_tab : {ends' : List ℕ} {gap' : ℕ} → get_or t i 0 ≡ 9 → Nine (g.seen ++ i ∷ []) end ends' → gap' ≡ first_gap end at (g.seen ++ i ∷ [])
        → Looked t at end (i + 1) (count + 1) ends' gap' (i + 1)
    looked_tab e n p =
        let w = g.ended in
        record {
          seen = g.seen ++ i ∷ [];
          whole = g.whole ∙ ap (λ (l : List ℕ). g.seen ++ l) (tab_here t i (omega arith) e) ∙ sym (append_assoc g.seen (i ∷ []) (tabs_from (i + 1) (drop (i + 1) t)));
          ended = w;
          within = omega arith;
          before = λ j l. before j (dec_lt j (length g.seen)) l;
          few = (let f = g.few in omega arith);
          counted = (let c = g.counted in let l = length-append g.seen (i ∷ []) in omega arith);
          nine = n;
          gap_is = p;
          last = sym (last_more at g.seen i);
        }
      where
        before : (j : ℕ) → Dec (j < length g.seen) → j < length (g.seen ++ i ∷ []) → get_or (g.seen ++ i ∷ []) j 0 < i + 1
        before j (yes p) l = rw (get_or-append g.seen (i ∷ []) 0 j p) (let b = g.before j p in omega arith)
        before j (no p) l =
            let m = length-append g.seen (i ∷ []) in
            let q : j ≡ length g.seen = omega arith in
            rw (q, get_or-append_seam g.seen i [] 0) (omega arith)

    -- the three ways of the gap
    pub look_new : i ≡ start → gap ≡ end → i ≡ first_gap end at (g.seen ++ i ∷ [])
    look_new e q = sym (gap_new end at g.seen i (sym g.gap_is ∙ q) (e ∙ g.last) (λ j l. (let b = g.before j l in omega arith)))

    pub look_old : (gap ≡ end → ⊥) → gap ≡ first_gap end at (g.seen ++ i ∷ [])
    look_old n = g.gap_is ∙ sym (gap_old end at g.seen i (λ z. n (g.gap_is ∙ z)))

    pub look_none : (i ≡ start → ⊥) → gap ≡ first_gap end at (g.seen ++ i ∷ [])
    look_none n = g.gap_is ∙ sym (gap_none end at g.seen i (λ z. n (z ∙ sym g.last)))

pub ruleset laws = (looked_first, looked_few, looked_all)
