-- How a text is cut: bytes that are no marks stay together, up to what begins with a mark. Assumes nothing.
use Prim.Native.Nat.{ℕ, zero, suc}
use mathlib.Core.Path.{◌≡◌, refl, sym, ap, ◌∙◌}
use mathlib.Core.Bool.{Bool, true, false, false≢true}
use mathlib.Core.List.{List, [], ◌∷◌, ◌++◌}
use lib.ListN.{take}
use Rattle.pieces.specs.Pieces.{lacks}
use Rattle.pieces.proofs.CountLaws.{lacks_other}
use Rattle.allele.specs.Reading.{is_mark, head_of, marked_pieces}
use Rattle.allele.proofs.PieceLaws.{mark_bar, mark_slash, head_none, head_mark, head_more}

-- bytes that are no marks
pub data Quiet : List ℕ → Type 0 where
  none : Quiet []
  more : {b : ℕ} {s : List ℕ} → is_mark b ≡ false → Quiet s → Quiet (b ∷ s)

pub no_bar : (b : ℕ) → is_mark b ≡ false → b ≡ 124 → ⊥
no_bar b m e = false≢true (sym m ∙ mark_bar b e)

pub no_slash : (b : ℕ) → is_mark b ≡ false → b ≡ 47 → ⊥
no_slash b m e = false≢true (sym m ∙ mark_slash b e)

pub quiet_append : {s t : List ℕ} → Quiet s → Quiet t → Quiet (s ++ t)
quiet_append none r = r
quiet_append (more m q) r = more m (quiet_append q r)

pub quiet_take : (n : ℕ) {s : List ℕ} → Quiet s → Quiet (take n s)
quiet_take zero q = none
quiet_take (suc n) none = none
quiet_take (suc n) (more m q) = more m (quiet_take n q)

pub head_quiet : (t : List ℕ) {s : List ℕ} → Quiet s → head_of t ≡ [] → head_of (s ++ t) ≡ s
head_quiet t none e = e
head_quiet t (more {b} m q) e = head_more b _ m ∙ ap (λ (l : List ℕ). b ∷ l) (head_quiet t q e)

pub pieces_quiet : (t : List ℕ) {s : List ℕ} → Quiet s → marked_pieces (s ++ t) ≡ marked_pieces t
unfolding marked_pieces
pieces_quiet t none = refl
pieces_quiet t (more m q) = rw m (pieces_quiet t q)

pub lacks_quiet : (t : List ℕ) {s : List ℕ} → Quiet s → lacks 47 (s ++ t) ≡ lacks 47 t
lacks_quiet t none = refl
lacks_quiet t (more {b} m q) = lacks_other 47 _ (no_slash b m) ∙ lacks_quiet t q

-- what stands before the first mark is quiet
pub quiet_head : (s : List ℕ) → Quiet (head_of s)
quiet_head [] = rw head_none none
quiet_head (b ∷ s) = by (is_mark b) refl (quiet_head s)
  where
    by : (t : Bool) → is_mark b ≡ t → Quiet (head_of s) → Quiet (head_of (b ∷ s))
    by true m q = rw (head_mark b s m) none
    by false m q = rw (head_more b s m) (more m q)
