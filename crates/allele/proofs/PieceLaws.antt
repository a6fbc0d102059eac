-- Cutting a text before each mark, shown byte by byte: the first piece, and the pieces of the text behind it. Assumes nothing.
use Prim.Native.Nat.{ℕ, ◌+◌, ◌≤◌, ◌<◌}
use mathlib.Core.Path.{◌≡◌, refl, sym, ap, ◌∙◌}
use mathlib.Core.List.{List, [], ◌∷◌, map}
use mathlib.Core.Bool.{Bool, true, false, false≢true, or-true}
use mathlib.Core.Option.{Option}
use native.Mathlib.Omega.{arith}
use native.Mathlib.Decide.{ℕ_discrete}
use lib.ListN.{length, get_or, take, drop, drop_of_length-le}
use lib.Seq.{drop-drop}
use borrow.Author.Tests.{eq-eqb, ne_eqb}
use Rattle.text.specs.Pick.{pick}
use Rattle.text.proofs.Lists.{here}
use Rattle.pieces.proofs.BlockLaws.{before_none, before_here, before_more, before_le, before_take}
use Rattle.allele.specs.Reading.{is_mark, head_of, marked_pieces, pieces_of, bodied, allele_in, implied_by, implied_of, parts_of}
use Rattle.allele.specs.declared.allele.Allele.{Allele}

-- ---- marks

pub mark_bar : (b : ℕ) → b ≡ 124 → is_mark b ≡ true
unfolding is_mark
mark_bar b e = simp (eq-eqb _ _ e)

pub mark_slash : (b : ℕ) → b ≡ 47 → is_mark b ≡ true
unfolding is_mark
mark_slash b e = simp (eq-eqb _ _ e, or-true)

pub mark_none : (b : ℕ) → (b ≡ 124 → ⊥) → (b ≡ 47 → ⊥) → is_mark b ≡ false
unfolding is_mark
mark_none b e f = simp (ne_eqb _ _ e, ne_eqb _ _ f)

-- ---- an allele by its first byte

module _ (implied : Bool) (b : ℕ) (s : List ℕ) where
  pub in_bar : b ≡ 124 → allele_in implied (b ∷ s) ≡ bodied true s
  unfolding allele_in
  in_bar e = rw (eq-eqb b 124 e)

  pub in_slash : b ≡ 47 → allele_in implied (b ∷ s) ≡ bodied false s
  unfolding allele_in
  in_slash e = rw (ne_eqb b 124 (λ q. omega arith), eq-eqb b 47 e)

  pub in_plain : (b ≡ 124 → ⊥) → (b ≡ 47 → ⊥) → allele_in implied (b ∷ s) ≡ bodied implied (b ∷ s)
  unfolding allele_in
  in_plain e f = rw (ne_eqb b 124 e, ne_eqb b 47 f)

-- a piece that begins with a mark is the same whatever is implied
marked_same : (i j : Bool) (b : ℕ) (s : List ℕ) → is_mark b ≡ true → allele_in i (b ∷ s) ≡ allele_in j (b ∷ s)
marked_same i j b s h = by (ℕ_discrete b 124) (ℕ_discrete b 47)
  where
    by : Dec (b ≡ 124) → Dec (b ≡ 47) → allele_in i (b ∷ s) ≡ allele_in j (b ∷ s)
    by (yes p) q = in_bar i b s p ∙ sym (in_bar j b s p)
    by (no p) (yes q) = in_slash i b s q ∙ sym (in_slash j b s q)
    by (no p) (no q) = absurd (false≢true (sym (mark_none b p q) ∙ h))

marked_all : (i j : Bool) (s : List ℕ) → map (allele_in i) (marked_pieces s) ≡ map (allele_in j) (marked_pieces s)
unfolding marked_pieces
marked_all i j [] = refl
marked_all i j (b ∷ s) = by (is_mark b) refl (marked_all i j s)
  where
    by : (t : Bool) → is_mark b ≡ t → map (allele_in i) (marked_pieces s) ≡ map (allele_in j) (marked_pieces s)
        → map (allele_in i) (pick t ((b ∷ head_of s) ∷ marked_pieces s) (marked_pieces s)) ≡ map (allele_in j) (pick t ((b ∷ head_of s) ∷ marked_pieces s) (marked_pieces s))
    by true m h = rw (h, marked_same i j b (head_of s) m)
    by false m h = h

-- ---- the bytes before the first mark

pub head_none : head_of [] ≡ []
unfolding head_of
head_none = before_none 124 47

module _ (b : ℕ) (s : List ℕ) where
  pub head_mark : is_mark b ≡ true → head_of (b ∷ s) ≡ []
  unfolding head_of is_mark
  head_mark m = before_here 124 47 b s m

  pub head_more : is_mark b ≡ false → head_of (b ∷ s) ≡ b ∷ head_of s
  unfolding head_of is_mark
  head_more m = before_more 124 47 b s m

pub head_le : (s : List ℕ) → length (head_of s) ≤ length s
unfolding head_of
head_le s = before_le 124 47 s

pub head_take : (s : List ℕ) → take (length (head_of s)) s ≡ head_of s
unfolding head_of
head_take s = before_take 124 47 s

-- ---- the first piece, and the others

-- the pieces from the first mark on are those of the text from there on
marked_pieces_lem : (s : List ℕ) → marked_pieces s ≡ pieces_of (drop (length (head_of s)) s)
unfolding marked_pieces pieces_of
marked_pieces_lem [] = rw head_none
marked_pieces_lem (b ∷ s) = by (is_mark b) refl (marked_pieces_lem s)
  where
    by : (t : Bool) → is_mark b ≡ t → marked_pieces s ≡ pieces_of (drop (length (head_of s)) s)
        → pick t ((b ∷ head_of s) ∷ marked_pieces s) (marked_pieces s) ≡ pieces_of (drop (length (head_of (b ∷ s))) (b ∷ s))
    by true m h = rw (head_mark b s m)
    by false m h = rw (head_more b s m) h

-- where a text begins with a mark, these are its pieces
pub pieces_marked : (t : List ℕ) → head_of t ≡ [] → pieces_of t ≡ marked_pieces t
pieces_marked t e = sym (rw e at (marked_pieces_lem t))

-- the pieces from a place of the text on
pub pieces_at : (t : List ℕ) (at : ℕ) → at < length t
    → pieces_of (drop at t) ≡ (get_or t at 0 ∷ head_of (drop (at + 1) t)) ∷ pieces_of (drop (at + 1 + length (head_of (drop (at + 1) t))) t)
unfolding pieces_of
pieces_at t at h =
    rw (here t at h, ← drop-drop (length (head_of (drop (at + 1) t))) (at + 1) t)
    (ap (λ (l : List (List ℕ)). (get_or t at 0 ∷ head_of (drop (at + 1) t)) ∷ l) (marked_pieces_lem (drop (at + 1) t)))

pub parts_first : (b : ℕ) (s : List ℕ) → parts_of (b ∷ s) ≡ allele_in (implied_by s) (b ∷ head_of s) ∷ map (allele_in (implied_by s)) (marked_pieces s)
unfolding parts_of pieces_of implied_of
parts_first b s = refl

-- where a text begins with a mark, so do all its pieces
pub parts_marked : (t : List ℕ) → head_of t ≡ [] → parts_of t ≡ map (allele_in (implied_of t)) (marked_pieces t)
unfolding parts_of
parts_marked t e = ap (map (allele_in (implied_of t))) (pieces_marked t e)

-- so the parts behind the first are those of the text behind it, whatever it implies itself
parts_cons : (b : ℕ) (s : List ℕ) → parts_of (b ∷ s) ≡ allele_in (implied_by s) (b ∷ head_of s) ∷ parts_of (drop (length (head_of s)) s)
unfolding parts_of
parts_cons b s =
    parts_first b s
    ∙ ap (λ (l : List (Option Allele)). allele_in (implied_by s) (b ∷ head_of s) ∷ l)
    (marked_all (implied_by s) (implied_of (drop (length (head_of s)) s)) s ∙ ap (map (allele_in (implied_of (drop (length (head_of s)) s)))) (marked_pieces_lem s))

pub parts_none : parts_of [] ≡ []
unfolding parts_of pieces_of
parts_none = refl

-- the same at a place of the text
pub parts_at : (t : List ℕ) (at : ℕ) → at < length t
    → parts_of (drop at t)
    ≡ allele_in (implied_by (drop (at + 1) t)) (get_or t at 0 ∷ head_of (drop (at + 1) t)) ∷ parts_of (drop (at + 1 + length (head_of (drop (at + 1) t))) t)
parts_at t at h = rw (here t at h, ← drop-drop (length (head_of (drop (at + 1) t))) (at + 1) t) (parts_cons (get_or t at 0) (drop (at + 1) t))

pub parts_end : (t : List ℕ) (at : ℕ) → length t ≤ at → parts_of (drop at t) ≡ []
parts_end t at h = rw (drop_of_length-le t {i = at} h) parts_none
