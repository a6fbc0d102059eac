-- Counting a byte: those passed and those to come are those of the whole; there is one piece more than separators. Assumes nothing.
use Prim.Native.Nat.{ℕ, ◌+◌, ◌-◌, ◌<◌, ◌≤◌, suc}
use mathlib.Core.Path.{◌≡◌, refl, sym, ◌∙◌}
use mathlib.Core.List.{List, [], ◌∷◌}
use mathlib.Core.Bool.{Bool, true, false}
use native.Mathlib.Omega.{arith}
use native.Mathlib.Decide.{ℕ_discrete}
use native.Mathlib.Nat.{zero-add, le_refl}
use lib.ListN.{length, get_or, drop, drop_of_length-le}
use lib.Dec.{eqb}
use borrow.Author.Tests.{eq-eqb, ne_eqb, eqb-true, eqb-false}
use Rattle.text.specs.Flags.{OneIf}
use Rattle.text.proofs.Lists.{here}
use Rattle.pieces.specs.Pieces.{count_of, lacks, pieces}
use Rattle.pieces.specs.Demands.{Free}
use Rattle.pieces.specs.Inner.{ShortPart, CountsPart}
use Rattle.pieces.proofs.PieceLaws.{free_nil, free_cons, free_head, free_tail, split_count, pieces_none, pieces_some}

-- the count, byte by byte
pub count_none : (b : ℕ) → count_of b [] ≡ 0
unfolding count_of
count_none b = refl

pub count_here : (b : ℕ) (s : List ℕ) {a : ℕ} → a ≡ b → count_of b (a ∷ s) ≡ 1 + count_of b s
unfolding count_of
count_here b s {a} e = rw (eq-eqb a b e)

pub count_other : (b : ℕ) (s : List ℕ) {a : ℕ} → (a ≡ b → ⊥) → count_of b (a ∷ s) ≡ count_of b s
unfolding count_of
count_other b s {a} h = rw (ne_eqb a b h) (zero-add _)

-- no more bytes are counted than there are
pub count_most : (b : ℕ) (s : List ℕ) → count_of b s ≤ length s
count_most b [] = omega (arith, count_none b)
count_most b (a ∷ s) = by (ℕ_discrete a b) (count_most b s)
  where
    by : Dec (a ≡ b) → count_of b s ≤ length s → count_of b (a ∷ s) ≤ suc (length s)
    by (yes e) l = omega (arith, count_here b s e)
    by (no n) l = omega (arith, count_other b s n)

pub counted_most : (b : ℕ) (s : List ℕ) {n : ℕ} → n ≡ count_of b s → n ≤ length s
counted_most b s e = rw e (count_most b s)

-- it is 0 exactly where the text is free of the byte
pub free_none : {b : ℕ} (s : List ℕ) → Free b s → count_of b s ≡ 0
free_none {b} [] f = count_none b
free_none {b} (a ∷ s) f = count_other b s (free_head f) ∙ free_none s (free_tail f)

pub none_free : {b : ℕ} (s : List ℕ) → count_of b s ≡ 0 → Free b s
none_free [] e = free_nil
none_free {b} (a ∷ s) e = by (ℕ_discrete a b) (none_free s)
  where
    by : Dec (a ≡ b) → (count_of b s ≡ 0 → Free b s) → Free b (a ∷ s)
    by (yes q) rest = absurd (omega (arith, count_here b s q))
    by (no n) rest = free_cons n (rest (sym (count_other b s n) ∙ e))

-- ---- a text that lacks a byte

pub lacks_is : (b : ℕ) (s : List ℕ) {n : ℕ} → n ≡ count_of b s → lacks b s ≡ eqb n 0
unfolding lacks
lacks_is b s e = rw e

pub lacks_yes : (b : ℕ) (s : List ℕ) {n : ℕ} → n ≡ count_of b s → n ≤ 0 → lacks b s ≡ true
lacks_yes b s {n} e h = lacks_is b s e ∙ eq-eqb n 0 (omega arith)

pub lacks_no : (b : ℕ) (s : List ℕ) {n : ℕ} → n ≡ count_of b s → 0 < n → lacks b s ≡ false
lacks_no b s {n} e h = lacks_is b s e ∙ ne_eqb n 0 (λ z. omega arith)

-- byte by byte
pub lacks_none : (b : ℕ) → lacks b [] ≡ true
unfolding lacks
lacks_none b = rw count_none

pub lacks_here : (b : ℕ) (s : List ℕ) {a : ℕ} → a ≡ b → lacks b (a ∷ s) ≡ false
lacks_here b s e = lacks_no b _ (sym (count_here b s e)) (omega arith)

pub lacks_other : (b : ℕ) (s : List ℕ) {a : ℕ} → (a ≡ b → ⊥) → lacks b (a ∷ s) ≡ lacks b s
unfolding lacks
lacks_other b s h = rw (count_other b s h)

-- exactly where it is free of the byte
pub lacks_free : {b : ℕ} (s : List ℕ) → lacks b s ≡ true → Free b s
unfolding lacks
lacks_free {b} s e = none_free s (eqb-true (count_of b s) 0 e)

pub free_lacks : {b : ℕ} (s : List ℕ) → Free b s → lacks b s ≡ true
unfolding lacks
free_lacks s f = rw (free_none s f)

-- ---- the loops

-- n bytes are b from the place `from` up to i, which lies no further than `end`
pub record Counting (b : ℕ) (s : List ℕ) (from end n i : ℕ) : Type 0 where
  pub begun : from ≤ i
  pub short : i ≤ end
  pub part : CountsPart b s from i n

pub count_first : {b : ℕ} {s : List ℕ} {from end : ℕ} → from ≤ end → Counting b s from end 0 from
count_first h = record { begun = le_refl _; short = h; part = record { few = omega arith; same = zero-add _ } }

module _ {b : ℕ} {s : List ℕ} {from end n i : ℕ} (g : Counting b s from end n i) where
  -- a part behind the part
  count_more : {j k : ℕ} → i ≤ j → j ≤ end → CountsPart b s i j k → Counting b s from end (n + k) j
  count_more h l p =
      let u = g.begun in
      let e = g.part.same in
      let f = g.part.few in
      let v = p.few in
      record { begun = omega arith; short = l; part = record { few = omega arith; same = omega (arith, p.same) } }

  -- one byte
  pub count_turn : {k : ℕ} → ShortPart s from end → i < end → OneIf (get_or s i 0) b k → Counting b s from end (n + k) (i + 1)
  count_turn {k} w h o = count_more (omega arith) (omega arith) (one_part i (omega (arith, w.within)) o)
    where
      one_part : (i : ℕ) {k : ℕ} → i < length s → OneIf (get_or s i 0) b k → CountsPart b s i (i + 1) k
      one_part i {k} h o = by (ℕ_discrete (get_or s i 0) b)
        where
          by : Dec (get_or s i 0 ≡ b) → CountsPart b s i (i + 1) k
          by (yes e) = record { few = omega (arith, o.same e); same = rw (here s i h) (omega (arith, o.same e, count_here b (drop (i + 1) s) e)) }
          by (no e) = record { few = omega (arith, o.other e); same = rw (here s i h) (omega (arith, o.other e, count_other b (drop (i + 1) s) e)) }

  pub count_fits : {k : ℕ} → ShortPart s from end → i < end → OneIf (get_or s i 0) b k → n + k < 256
  count_fits w h o = let t = count_turn w h o in omega (arith, t.part.few, w.short)

  pub count_past : end ≤ i → CountsPart b s from end n
  count_past h = let u = g.short in let z : i ≡ end = omega arith in rw z at g.part

-- the parts of a whole text
module _ {b : ℕ} {s : List ℕ} {n i : ℕ} (g : Counting b s 0 (length s) n i) where
  pub part_short : 192 < length s - i → ShortPart s i (i + 192)
  part_short h = record { after = omega arith; within = omega arith; short = omega arith }

  pub part_turn : {k r : ℕ} → 192 < length s - i → CountsPart b s i (i + 192) k → r ≡ k → Counting b s 0 (length s) (n + r) (i + 192)
  part_turn h p e = rw e (count_more g (omega arith) (omega arith) p)

  pub rest_short : length s - i ≤ 192 → ShortPart s i (length s)
  rest_short h = let l = g.short in record { after = l; within = le_refl _; short = omega arith }

  pub rest_last : {k r : ℕ} → CountsPart b s i (length s) k → r ≡ k → n + r ≡ count_of b s
  rest_last p e =
      let l = g.short in
      let c = count_more g l (le_refl _) p in
      rw e (omega (arith, rw (drop_of_length-le s (le_refl (length s)), count_none) at c.part.same))

-- ---- counting pieces

module _ (b : ℕ) (s : List ℕ) {r : Bool} (e : r ≡ eqb (length s) 0) where
  pub count_empty : r ≡ true → 0 ≡ length (pieces b s)
  count_empty q = rw (pieces_none b s (eqb-true _ _ (sym e ∙ q)))

  pub count_some : {k : ℕ} → r ≡ false → k ≡ count_of b s → k + 1 ≡ length (pieces b s)
  count_some q c = let n = eqb-false (length s) 0 (sym e ∙ q) in rw (c, pieces_some b s (omega arith)) (sym (split_count b s))

pub ruleset laws = (count_first, count_turn, count_fits, count_past, part_short, part_turn, rest_short, rest_last, count_empty, count_some)
