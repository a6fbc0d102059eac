-- Fields of which none is empty, each past one tab after the end of the one before: one field further at each turn. Assumes nothing.
use Prim.Native.Nat.{ℕ, zero, suc, ◌+◌, ◌-◌, ◌*◌, ◌<◌, ◌≤◌}
use mathlib.Core.Path.{◌≡◌, refl, sym, ap, ◌∙◌}
use mathlib.Core.Bool.{Bool, true, false, true≢false, false≢true, ◌&&◌, and-true, and-false, and-eq-true_iff}
use mathlib.Core.List.{List, [], ◌∷◌}
use native.Mathlib.Omega.{arith}
use native.Mathlib.Decide.{ℕ_discrete}
use lib.ListN.{length, get_or, take, drop, drop_of_length-le}
use lib.Seq.{length-take-le, get_or-take, drop-cons}
use lib.Dec.{ltb, eqb}
use borrow.Author.Tests.{lt-ltb, le-ltb, ltb-true, eq-eqb, ne_eqb, eqb-true}
use Rattle.forms.specs.Form.{end_at, chained_from, chained}
use Rattle.forms.specs.Inner.{follows}

-- ---- one field

pub record Chain (from start len : ℕ) (places : List ℕ) : Type 0 where
  pub starts : start ≡ from
  pub some : 0 < len
  pub rest : chained_from (from + len + 1) places ≡ true

pub chain_field : (from start len : ℕ) (places : List ℕ) → chained_from from (start ∷ len ∷ places) ≡ true → Chain from start len places
unfolding chained_from
chain_field from start len places h =
    let a = (and-eq-true_iff (eqb start from) (ltb 0 len && chained_from (from + len + 1) places)).0 h in
    let b = (and-eq-true_iff (ltb 0 len) (chained_from (from + len + 1) places)).0 a.1 in
    record { starts = eqb-true _ _ a.0; some = ltb-true _ _ b.0; rest = b.1 }

pub chain_none : (from : ℕ) → chained_from from [] ≡ true
unfolding chained_from
chain_none from = refl

-- a start has a length behind it
pub chain_single : (from start : ℕ) → chained_from from (start ∷ []) ≡ true → ⊥
unfolding chained_from
chain_single from start h = false≢true h

pub chain_on : (from start len : ℕ) (places : List ℕ) → start ≡ from → 0 < len → chained_from from (start ∷ len ∷ places) ≡ chained_from (from + len + 1) places
unfolding chained_from
chain_on from start len places e l = rw (eq-eqb _ _ e, lt-ltb _ _ l)

-- ---- where fields stand

pub end_is : (places : List ℕ) (i : ℕ) → end_at places i ≡ get_or places (2 * i) 0 + get_or places (2 * i + 1) 0
unfolding end_at
end_is places i = refl

start_next : (a b : ℕ) (places : List ℕ) (i : ℕ) → get_or (a ∷ b ∷ places) (2 * suc i) 0 ≡ get_or places (2 * i) 0
start_next a b places i = let e : 2 * suc i ≡ suc (suc (2 * i)) = omega arith in rw e

length_next : (a b : ℕ) (places : List ℕ) (i : ℕ) → get_or (a ∷ b ∷ places) (2 * suc i + 1) 0 ≡ get_or places (2 * i + 1) 0
length_next a b places i = let e : 2 * suc i + 1 ≡ suc (suc (2 * i + 1)) = omega arith in rw e

pub end_next : (a b : ℕ) (places : List ℕ) (i : ℕ) → end_at (a ∷ b ∷ places) (suc i) ≡ end_at places i
unfolding end_at
end_next a b places i = rw (start_next a b places i, length_next a b places i)

-- none starts before the first
starts_after : (from : ℕ) (places : List ℕ) → chained_from from places ≡ true → (j : ℕ) → 2 * j + 1 < length places → from ≤ get_or places (2 * j) 0
starts_after from [] h j l = absurd (omega arith)
starts_after from (start ∷ []) h j l = absurd (omega arith)
starts_after from (start ∷ len ∷ places) h zero l = let c = chain_field from start len places h in omega (arith, c.starts)
starts_after from (start ∷ len ∷ places) h (suc j) l =
    let c = chain_field from start len places h in
    let r = starts_after (from + len + 1) places c.rest j (omega arith) in
    rw (start_next start len places j) (omega arith)

-- none is empty
pub chain_some : (from : ℕ) (places : List ℕ) → chained_from from places ≡ true → (j : ℕ) → 2 * j + 1 < length places → 0 < get_or places (2 * j + 1) 0
chain_some from [] h j l = absurd (omega arith)
chain_some from (start ∷ []) h j l = absurd (omega arith)
chain_some from (start ∷ len ∷ places) h zero l = (chain_field from start len places h).some
chain_some from (start ∷ len ∷ places) h (suc j) l =
    rw (length_next start len places j) (chain_some (from + len + 1) places (chain_field from start len places h).rest j (omega arith))

-- and each ends past all before it
pub chain_rises : (from : ℕ) (places : List ℕ) → chained_from from places ≡ true → (i j : ℕ) → i < j → 2 * j + 1 < length places → end_at places i < end_at places j
chain_rises from [] h i j l m = absurd (omega arith)
chain_rises from (start ∷ []) h i j l m = absurd (omega arith)
chain_rises from (start ∷ len ∷ places) h i zero l m = absurd (omega arith)
chain_rises from (start ∷ len ∷ places) h zero (suc j) l m =
    let c = chain_field from start len places h in
    let r = starts_after (from + len + 1) places c.rest j (omega arith) in
    rw (end_next start len places j, end_is (start ∷ len ∷ places) 0, end_is places j) (omega (arith, c.starts))
chain_rises from (start ∷ len ∷ places) h (suc i) (suc j) l m =
    let c = chain_field from start len places h in
    rw (end_next start len places i, end_next start len places j) (chain_rises (from + len + 1) places c.rest i j (omega arith) (omega arith))

-- ---- the fields from one on

-- the first n fields from number i on
pub rest : List ℕ → ℕ → ℕ → List ℕ
rest places n i = drop (2 * i) (take (2 * n) places)

module _ (places : List ℕ) (n : ℕ) (h : 2 * n ≤ length places) where
  number : (k : ℕ) → k < 2 * n → get_or (take (2 * n) places) k 0 ≡ get_or places k 0
  number k l = get_or-take (2 * n) places k 0 l

  -- field i and those behind it
  rest_is : (i : ℕ) → i < n → rest places n i ≡ get_or places (2 * i) 0 ∷ get_or places (2 * i + 1) 0 ∷ rest places n (i + 1)
  unfolding rest
  rest_is i l =
      let t = length-take-le (2 * n) places h in
      let e : suc (2 * i) ≡ 2 * i + 1 = omega arith in
      let f : suc (2 * i + 1) ≡ 2 * (i + 1) = omega arith in
      drop-cons (take (2 * n) places) (2 * i) 0 (omega arith)
      ∙ rw (e, drop-cons (take (2 * n) places) (2 * i + 1) 0 (omega arith), f, number (2 * i) (omega arith), number (2 * i + 1) (omega arith))

  rest_none : rest places n n ≡ []
  unfolding rest
  rest_none = let t = length-take-le (2 * n) places h in drop_of_length-le (take (2 * n) places) {i = 2 * n} (omega arith)

-- ---- whether a field is followed

module _ (places : List ℕ) (i : ℕ) where
  pub followed_back : get_or places (2 * i + 2) 0 ≤ get_or places (2 * i) 0 → false ≡ follows places i
  unfolding follows end_at
  followed_back h = rw (ne_eqb (get_or places (2 * i + 2) 0) (get_or places (2 * i) 0 + get_or places (2 * i + 1) 0 + 1) (λ e. omega arith), and-false)

  pub followed_none : get_or places (2 * i + 1) 0 ≡ 0 → false ≡ follows places i
  unfolding follows
  followed_none h = rw (le-ltb 0 (get_or places (2 * i + 1) 0) (omega arith))

  pub followed_by : get_or places (2 * i) 0 < get_or places (2 * i + 2) 0 → (get_or places (2 * i + 1) 0 ≡ 0 → ⊥)
      → eqb (get_or places (2 * i + 2) 0 - get_or places (2 * i) 0 - 1) (get_or places (2 * i + 1) 0) ≡ follows places i
  unfolding follows end_at
  followed_by h n = rw (lt-ltb 0 (get_or places (2 * i + 1) 0) (omega arith)) (by (ℕ_discrete (get_or places (2 * i + 2) 0) (get_or places (2 * i) 0 + get_or places (2 * i + 1) 0 + 1)))
    where
      by : Dec (get_or places (2 * i + 2) 0 ≡ get_or places (2 * i) 0 + get_or places (2 * i + 1) 0 + 1)
          → eqb (get_or places (2 * i + 2) 0 - get_or places (2 * i) 0 - 1) (get_or places (2 * i + 1) 0) ≡ eqb (get_or places (2 * i + 2) 0) (get_or places (2 * i) 0 + get_or places (2 * i + 1) 0 + 1)
      by (yes e) = eq-eqb (get_or places (2 * i + 2) 0 - get_or places (2 * i) 0 - 1) (get_or places (2 * i + 1) 0) (omega arith) ∙ sym (eq-eqb _ _ e)
      by (no d) = ne_eqb (get_or places (2 * i + 2) 0 - get_or places (2 * i) 0 - 1) (get_or places (2 * i + 1) 0) (λ z. d (omega arith)) ∙ sym (ne_eqb _ _ d)

record Followed (places : List ℕ) (i : ℕ) : Type 0 where
  some : 0 < get_or places (2 * i + 1) 0
  next : get_or places (2 * i + 2) 0 ≡ get_or places (2 * i) 0 + get_or places (2 * i + 1) 0 + 1

followed : (places : List ℕ) (i : ℕ) → follows places i ≡ true → Followed places i
unfolding follows end_at
followed places i h =
    let a = (and-eq-true_iff (ltb 0 (get_or places (2 * i + 1) 0)) (eqb (get_or places (2 * i + 2) 0) (get_or places (2 * i) 0 + get_or places (2 * i + 1) 0 + 1))).0 h in
    record { some = ltb-true _ _ a.0; next = eqb-true _ _ a.1 }

follow : {places : List ℕ} {i : ℕ} → Followed places i → follows places i ≡ true
unfolding follows end_at
follow f = rw (lt-ltb _ _ f.some, eq-eqb _ _ f.next)

-- ---- the loop: the fields from number i on are chained exactly where all are

pub record Chaining (places : List ℕ) (n i : ℕ) : Type 0 where
  pub below : i < n
  pub enough : 2 * n ≤ length places
  pub same : chained (take (2 * n) places) ≡ chained_from (get_or places (2 * i) 0) (rest places n i)

pub chain_first : (places : List ℕ) (n : ℕ) → length places ≡ 20 → 1 ≤ n → n ≤ 10 → Chaining places n 0
unfolding chained rest
chain_first places n z h m = let l : 2 * n ≤ length places = omega arith in record { below = h; enough = l; same = rw (number places n l 0 (omega arith)) }

module _ {places : List ℕ} {n i : ℕ} (g : Chaining places n i) where
  start : ℕ
  start = get_or places (2 * i) 0

  len : ℕ
  len = get_or places (2 * i + 1) 0

  here : chained (take (2 * n) places) ≡ chained_from start (start ∷ len ∷ rest places n (i + 1))
  unfolding start len
  here = g.same ∙ ap (chained_from (get_or places (2 * i) 0)) (rest_is places n g.enough i g.below)

  pub chain_last : n - 1 ≤ i → ltb 0 (get_or places (2 * n - 1) 0) ≡ chained (take (2 * n) places)
  unfolding start len chained_from
  chain_last h =
      let b = g.below in
      let e : i + 1 ≡ n = omega arith in
      let f : 2 * n - 1 ≡ 2 * i + 1 = omega arith in
      sym (here ∙ rw (eq-eqb start start refl, e, f, rest_none places n g.enough, and-true))

  module _ (m : i < n - 1) where
    next : ℕ
    next = get_or places (2 * i + 2) 0

    more : rest places n (i + 1) ≡ next ∷ get_or places (2 * (i + 1) + 1) 0 ∷ rest places n (i + 1 + 1)
    unfolding next
    more =
        let e : 2 * (i + 1) ≡ 2 * i + 2 = omega arith in
        rest_is places n g.enough (i + 1) (omega arith) ∙ rw e

    pub chain_turn : follows places i ≡ true → Chaining places n (i + 1)
    unfolding start len next
    chain_turn t =
        let f = followed places i t in
        let e : 2 * (i + 1) ≡ 2 * i + 2 = omega arith in
        record {
          below = omega arith;
          enough = g.enough;
          same = here ∙ chain_on start start len (rest places n (i + 1)) refl f.some ∙ rw (e, f.next);
        }

    pub chain_broken : follows places i ≡ false → false ≡ chained (take (2 * n) places)
    unfolding start len next
    chain_broken t = sym (here ∙ by (chained_from start (start ∷ len ∷ rest places n (i + 1))) refl)
      where
        by : (b : Bool) → chained_from start (start ∷ len ∷ rest places n (i + 1)) ≡ b → chained_from start (start ∷ len ∷ rest places n (i + 1)) ≡ false
        by false e = e
        by true e =
            let c = chain_field start start len (rest places n (i + 1)) e in
            let d = chain_field (start + len + 1) next _ _ (ap (chained_from (start + len + 1)) (sym more) ∙ c.rest) in
            absurd (true≢false (sym (follow {places = places} {i = i} (record { some = c.some; next = d.starts })) ∙ t))

-- what `search` is given, with the test as the code has it
module _ {places : List ℕ} {n i : ℕ} {b : Bool} (g : Chaining places n i) (m : i < n - 1) (e : b ≡ follows places i) where
  pub chain_goes : b ≡ true → Chaining places n (i + 1)
  chain_goes t = chain_turn g m (sym e ∙ t)

  pub chain_stops : b ≡ false → false ≡ chained (take (2 * n) places)
  chain_stops t = chain_broken g m (sym e ∙ t)

pub ruleset laws = (followed_back, followed_none, followed_by, chain_first, chain_last, chain_goes, chain_stops)
