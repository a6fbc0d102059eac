-- What `split` gives, shown byte by byte of the text; and that no other list of pieces cuts it, piece by piece. Assumes nothing.
use Prim.Native.Nat.{ℕ, zero, suc, ◌+◌, ◌-◌, ◌<◌, ◌≤◌, suc-le-suc}
use mathlib.Core.Path.{◌≡◌, refl, sym, ap, ◌∙◌}
use mathlib.Core.List.{List, [], ◌∷◌, ◌++◌}
use mathlib.Core.Bool.{Bool, true, false}
use native.Mathlib.Omega.{arith}
use lib.ListN.{length, get_or, take, drop, length-take}
use lib.Seq.{get_or-take, get_or-drop}
use lib.Dec.{eqb}
use borrow.Author.Tests.{eqb-true, eqb-false, eq-eqb, ne_eqb}
use Rattle.text.specs.Pick.{pick, one_if}
use Rattle.pieces.specs.Pieces.{longer, split, pieces, joined, count_of}
use Rattle.pieces.specs.Demands.{Free, Cut}

-- ---- a piece free of the separator

-- the empty piece is
pub free_nil : {b : ℕ} → Free b []
free_nil = record { free = λ k h e. omega arith }

-- a piece is where its first byte and the rest are
pub free_cons : {b a : ℕ} {p : List ℕ} → (a ≡ b → ⊥) → Free b p → Free b (a ∷ p)
free_cons {b} {a} {p} h f = record { free = by }
  where
    by : (k : ℕ) → k < suc (length p) → get_or (a ∷ p) k 0 ≡ b → ⊥
    by zero l e = h e
    by (suc k) l e = f.free k (omega arith) e

-- and only there
pub free_head : {b a : ℕ} {p : List ℕ} → Free b (a ∷ p) → a ≡ b → ⊥
free_head f = f.free 0 (omega arith)

pub free_tail : {b a : ℕ} {p : List ℕ} → Free b (a ∷ p) → Free b p
free_tail f = record { free = λ k h. f.free (suc k) (suc-le-suc h) }

-- a part is where no byte of it, from one place of the text up to another, is the separator
pub part_free : (s : List ℕ) (b from end : ℕ) → from ≤ end → end ≤ length s → ((k : ℕ) → from ≤ k → k < end → get_or s k 0 ≡ b → ⊥) → Free b (take (end - from) (drop from s))
part_free s b from end h w f =
    record {
      free = λ k l e.
          (let m : k < end - from = (let t = length-take (end - from) (drop from s) in omega arith) in
          f (from + k) (omega arith) (omega arith) (sym (get_or-take (end - from) (drop from s) k 0 m ∙ get_or-drop from s k 0) ∙ e));
    }

-- two texts that are free of it are so together
pub free_append : {b : ℕ} (p : List ℕ) {q : List ℕ} → Free b p → Free b q → Free b (p ++ q)
free_append [] f g = g
free_append (a ∷ p) f g = free_cons (free_head f) (free_append p (free_tail f) g)

-- and each of them where they are so together
pub free_left : {b : ℕ} (p q : List ℕ) → Free b (p ++ q) → Free b p
free_left [] q f = free_nil
free_left (a ∷ p) q f = free_cons (free_head f) (free_left p q (free_tail f))

pub free_right : {b : ℕ} (p q : List ℕ) → Free b (p ++ q) → Free b q
free_right [] q f = f
free_right (a ∷ p) q f = free_right p q (free_tail f)

-- ---- the list that `split` gives

-- a separator ends an empty piece
pub split_mark : (b : ℕ) (s : List ℕ) → split b (b ∷ s) ≡ [] ∷ split b s
unfolding split
split_mark b s = rw (eq-eqb b b refl)

-- any other byte goes before the first piece
pub split_byte : {b a : ℕ} (s : List ℕ) → (a ≡ b → ⊥) → split b (a ∷ s) ≡ longer a (split b s)
unfolding split
split_byte s h = rw (ne_eqb _ _ h)

cut_nil : {b : ℕ} → Cut b [] ([] ∷ [])
unfolding joined
cut_nil {b} = record { some = omega arith; each = by; whole = refl }
  where
    by : (i : ℕ) → i < 1 → Free b (get_or ([] ∷ []) i [])
    by zero h = free_nil
    by (suc i) h = absurd (omega arith)

cut_mark : {b : ℕ} {s : List ℕ} (ps : List (List ℕ)) → Cut b s ps → Cut b (b ∷ s) ([] ∷ ps)
unfolding joined
cut_mark [] c = absurd (omega (arith, c.some))
cut_mark {b} (p ∷ ps) c = record { some = omega arith; each = by; whole = ap (λ (z : List ℕ). b ∷ z) c.whole }
  where
    by : (i : ℕ) → i < suc (suc (length ps)) → Free b (get_or ([] ∷ p ∷ ps) i [])
    by zero h = free_nil
    by (suc i) h = c.each i (omega arith)

cut_byte : {b a : ℕ} {s : List ℕ} (ps : List (List ℕ)) → (a ≡ b → ⊥) → Cut b s ps → Cut b (a ∷ s) (longer a ps)
unfolding longer joined
cut_byte [] h c = absurd (omega (arith, c.some))
cut_byte {b} {a} (p ∷ ps) h c = record { some = omega arith; each = by; whole = joined_longer ps ∙ ap (λ (z : List ℕ). a ∷ z) c.whole }
  where
    by : (i : ℕ) → i < suc (length ps) → Free b (get_or ((a ∷ p) ∷ ps) i [])
    by zero l = free_cons h (c.each 0 (omega arith))
    by (suc i) l = c.each (suc i) l

    joined_longer : (qs : List (List ℕ)) → joined b ((a ∷ p) ∷ qs) ≡ a ∷ joined b (p ∷ qs)
    joined_longer [] = refl
    joined_longer (q ∷ qs) = refl

-- split's list cuts the text
pub split_cut : (b : ℕ) (t : List ℕ) → Cut b t (split b t)
unfolding split
split_cut b [] = cut_nil
split_cut b (a ∷ s) = by (eqb a b) refl (split_cut b s)
  where
    by : (t : Bool) → eqb a b ≡ t → Cut b s (split b s) → Cut b (a ∷ s) (pick t ([] ∷ split b s) (longer a (split b s)))
    by true e c = rw (eqb-true a b e) (cut_mark _ c)
    by false e c = cut_byte _ (eqb-false a b e) c

-- it is never empty
pub split_some : (b : ℕ) (t : List ℕ) → 0 < length (split b t)
split_some b t = (split_cut b t).some

-- so it is not []
pub split_nil : (b : ℕ) (t : List ℕ) → split b t ≡ [] → ⊥
split_nil b t e = omega (arith, rw e at (split_some b t))

-- each piece is free of the separator
pub split_free : (b : ℕ) (t : List ℕ) (i : ℕ) → i < length (split b t) → Free b (get_or (split b t) i [])
split_free b t = (split_cut b t).each

-- joined, the pieces are the text
pub split_joined : (b : ℕ) (t : List ℕ) → joined b (split b t) ≡ t
split_joined b t = (split_cut b t).whole

-- the first piece is free of it
pub first_free : (b : ℕ) (t : List ℕ) {p : List ℕ} {ps : List (List ℕ)} → split b t ≡ p ∷ ps → Free b p
first_free b t h = rw h at (split_free b t 0 (split_some b t))

-- ---- pieces joined

pub joined_none : (b : ℕ) → joined b [] ≡ []
unfolding joined
joined_none b = refl

pub joined_one : (b : ℕ) (p : List ℕ) → joined b (p ∷ []) ≡ p
unfolding joined
joined_one b p = refl

pub joined_more : (b : ℕ) (p q : List ℕ) (ps : List (List ℕ)) → joined b (p ∷ q ∷ ps) ≡ p ++ b ∷ joined b (q ∷ ps)
unfolding joined
joined_more b p q ps = refl

-- ---- what `split` gives of given pieces

-- a text free of the separator is one piece
pub split_whole : {b : ℕ} (p : List ℕ) → Free b p → split b p ≡ p ∷ []
unfolding split longer
split_whole [] f = refl
split_whole (a ∷ p) f = split_byte p (free_head f) ∙ rw (split_whole p (free_tail f))

-- what stands before the first separator is the first piece
pub split_append : {b : ℕ} (p s : List ℕ) → Free b p → split b (p ++ b ∷ s) ≡ p ∷ split b s
unfolding longer
split_append {b} [] s f = split_mark b s
split_append {b} (a ∷ p) s f = split_byte (p ++ b ∷ s) (free_head f) ∙ rw (split_append p s (free_tail f))

-- pieces that are joined come back
pub split_back : (b : ℕ) (ps : List (List ℕ)) → 0 < length ps → ((i : ℕ) → i < length ps → Free b (get_or ps i [])) → split b (joined b ps) ≡ ps
unfolding joined
split_back b [] h e = absurd (omega arith)
split_back b (p ∷ []) h e = split_whole p (e 0 (omega arith))
split_back b (p ∷ q ∷ ps) h e =
    split_append p _ (e 0 (omega arith))
    ∙ ap (λ (z : List (List ℕ)). p ∷ z) (split_back b (q ∷ ps) (omega arith) (λ i l. e (suc i) (suc-le-suc l)))

-- no other list cuts the text
pub split_only : {b : ℕ} {t : List ℕ} (ps : List (List ℕ)) → Cut b t ps → ps ≡ split b t
split_only {b} ps c = rw (← c.whole) (sym (split_back b ps c.some c.each))

-- ---- the text that given pieces came from

-- one piece is the whole text
pub one_text_lem : (b : ℕ) {s p : List ℕ} → split b s ≡ p ∷ [] → s ≡ p
unfolding joined
one_text_lem b {s} e = sym (split_joined b s) ∙ ap (joined b) e

module _ (b : ℕ) (s : List ℕ) {p q : List ℕ} {ps : List (List ℕ)} (e : split b s ≡ p ∷ q ∷ ps) where
  -- of more, the first stands before a separator, and the others, joined, behind it
  pub more_text : s ≡ p ++ b ∷ joined b (q ∷ ps)
  unfolding joined
  more_text = sym (split_joined b s) ∙ ap (joined b) e

  -- where they are found again
  pub more_rest : split b (joined b (q ∷ ps)) ≡ q ∷ ps
  more_rest =
      let c : Cut b s (p ∷ q ∷ ps) = rw e at (split_cut b s) in
      split_back b (q ∷ ps) (omega arith) (λ i l. c.each (suc i) (suc-le-suc l))

-- ---- counting

length_longer : (a : ℕ) (ps : List (List ℕ)) → 0 < length ps → length (longer a ps) ≡ length ps
unfolding longer
length_longer a [] h = absurd (omega arith)
length_longer a (p ∷ ps) h = refl

-- there is one piece more than separators
pub split_count : (b : ℕ) (t : List ℕ) → length (split b t) ≡ count_of b t + 1
unfolding split count_of
split_count b [] = refl
split_count b (a ∷ s) = by (eqb a b) (split_count b s)
  where
    by : (t : Bool) → length (split b s) ≡ count_of b s + 1 → length (pick t ([] ∷ split b s) (longer a (split b s))) ≡ one_if t + count_of b s + 1
    by true e = omega arith
    by false e = let l = length_longer a (split b s) (split_some b s) in omega arith

-- ---- `pieces`

-- the empty text has none
pub pieces_none : (b : ℕ) (t : List ℕ) → length t ≡ 0 → pieces b t ≡ []
unfolding pieces
pieces_none b [] h = refl
pieces_none b (a ∷ s) h = absurd (omega arith)

-- any other text has those of `split`
pub pieces_some : (b : ℕ) (t : List ℕ) → 0 < length t → pieces b t ≡ split b t
unfolding pieces
pieces_some b [] h = absurd (omega arith)
pieces_some b (a ∷ s) h = refl
