-- The size and columns of a line, by whether it has an LF, and what the line at a place of a window says of the line of the input there.
-- Assumes nothing.
use Prim.Native.Nat.{ℕ, ◌+◌, ◌<◌, ◌≤◌}
use mathlib.Core.Path.{◌≡◌, refl, sym, ◌∙◌}
use mathlib.Core.Bool.{Bool, true, false, true≢false}
use mathlib.Core.List.{List, ◌∷◌, ◌++◌, append_assoc}
use native.Mathlib.Omega.{arith}
use lib.ListN.{length, drop, length-append, length-drop}
use Rattle.pieces.specs.Demands.{Free}
use Rattle.pieces.proofs.PieceLaws.{free_append}
use Rattle.record.specs.Ending.{Ending, nothing, feed, return_feed}
use Rattle.line.specs.Line.{line, line_of}
use Rattle.line.specs.Demands.{Window, to_end}
use Rattle.record.proofs.EndingLaws.{nothing_bytes}
use Rattle.line.proofs.LineLaws.{AtFeed, none, one, at_feed}
use Rattle.line.proofs.ColumnLaws.{line_end, line_feed}
use Rattle.line.proofs.WholeLaws.{fed_line, window_fed}
use Rattle.listing.specs.Listing.{size_of, columns_of}
use Rattle.listing.specs.Turn.{is_whole}
use Rattle.listing.specs.Demands.{Holds}
use Rattle.listing.proofs.Windows.{left_from, left_last}

-- the place past the line that starts, or goes on, at a place
abbrev pub past_line : List ℕ → ℕ → ℕ
past_line s at = at + size_of (line_of (drop at s))

-- ---- a line without LF

module _ (u : List ℕ) (f : Free 10 u) where
  size_open : size_of (line_of u) ≡ length u
  unfolding size_of
  size_open = rw (line_end u f, nothing_bytes) (omega arith)

  whole_open : (last : Bool) → is_whole last (line_of u) ≡ last
  unfolding is_whole
  whole_open last = rw (line_end u f)

-- ---- a line with one

whole_ended : (last : Bool) (t : List ℕ) (e : Ending) (rest : List ℕ) → (e ≡ nothing → ⊥) → is_whole last (line t e rest) ≡ true
unfolding is_whole
whole_ended last t nothing rest h = absurd (h refl)
whole_ended last t feed rest h = refl
whole_ended last t return_feed rest h = refl

module _ (t : List ℕ) (f : Free 10 t) where
  pub size_feed : (rest : List ℕ) → size_of (line_of (t ++ 10 ∷ rest)) ≡ length t + 1
  unfolding size_of
  size_feed rest = rw (line_feed t rest f, (fed_line t).is rest) (fed_line t).long

  whole_feed : (rest : List ℕ) (last : Bool) → is_whole last (line_of (t ++ 10 ∷ rest)) ≡ true
  whole_feed rest last = rw (line_feed t rest f, (fed_line t).is rest) (whole_ended last _ _ rest (fed_line t).some)

  columns_feed : (x y : List ℕ) → columns_of (line_of (t ++ 10 ∷ x)) ≡ columns_of (line_of (t ++ 10 ∷ y))
  unfolding columns_of
  columns_feed x y = rw (line_feed t x f, line_feed t y f, (fed_line t).is x, (fed_line t).is y)

-- ---- any line

-- it lies in the input
pub size_within : (u : List ℕ) → size_of (line_of u) ≤ length u
size_within u = by (at_feed u)
  where
    by : AtFeed u → size_of (line_of u) ≤ length u
    by (none f) = omega (arith, size_open u f)
    by (one t rest f e) = rw e (simp length-append (omega (arith, size_feed t f rest)))

-- and has bytes, where the input has
pub size_some : (u : List ℕ) → 0 < length u → 0 < size_of (line_of u)
size_some u h = by (at_feed u)
  where
    by : AtFeed u → 0 < size_of (line_of u)
    by (none f) = omega (arith, size_open u f)
    by (one t rest f e) = rw e (omega (arith, size_feed t f rest))

-- passing over bytes without LF passes over part of a line
pub size_after : (u r : List ℕ) → Free 10 u → size_of (line_of (u ++ r)) ≡ length u + size_of (line_of r)
size_after u r g = by (at_feed r)
  where
    by : AtFeed r → size_of (line_of (u ++ r)) ≡ length u + size_of (line_of r)
    by (none f) =
        omega (arith, size_open r f, length-append u r, size_open (u ++ r) (free_append u g f))
    by (one t rest f e) =
        rw (e, ← append_assoc u t (10 ∷ rest))
        (omega (arith, size_feed t f rest, length-append u t, size_feed (u ++ t) (free_append u g f) rest))

pub whole_after : (last : Bool) (u r : List ℕ) → Free 10 u → is_whole last (line_of (u ++ r)) ≡ is_whole last (line_of r)
whole_after last u r g = by (at_feed r)
  where
    by : AtFeed r → is_whole last (line_of (u ++ r)) ≡ is_whole last (line_of r)
    by (none f) = whole_open (u ++ r) (free_append u g f) last ∙ sym (whole_open r f last)
    by (one t rest f e) =
        rw (e, ← append_assoc u t (10 ∷ rest)) (whole_feed (u ++ t) (free_append u g f) rest last ∙ sym (whole_feed t f rest last))

-- ---- the line at a place of a window

-- a whole one is the input's
pub record WholeLine (s : List ℕ) (at : ℕ) (w : List ℕ) (p : ℕ) : Type 0 where
  pub size : size_of (line_of (drop at s)) ≡ size_of (line_of (drop p w))
  pub columns : columns_of (line_of (drop at s)) ≡ columns_of (line_of (drop p w))
  pub window : Window s at w p

-- any other ends with the window, which is not the last, and the input's goes on there
pub record PartLine (s : List ℕ) (base : ℕ) (w : List ℕ) (p : ℕ) : Type 0 where
  pub end : past_line w p ≡ length w
  pub size : size_of (line_of (drop (base + p) s)) ≡ size_of (line_of (drop p w)) + size_of (line_of (drop (base + length w) s))

-- in any window
pub open_end : (last : Bool) (w : List ℕ) (p : ℕ) → p ≤ length w → is_whole last (line_of (drop p w)) ≡ false → (last ≡ false) × (past_line w p ≡ length w)
open_end last w p l e = by (at_feed (drop p w))
  where
    by : AtFeed (drop p w) → (last ≡ false) × (past_line w p ≡ length w)
    by (none f) = (sym (whole_open (drop p w) f last) ∙ e, omega (arith, size_open (drop p w) f, length-drop p w))
    by (one t rest f d) = absurd (true≢false (sym (whole_feed t f rest last) ∙ rw (← d) e))

module _ {s : List ℕ} {base : ℕ} {w : List ℕ} {last : Bool} (h : Holds s base w last) (p : ℕ) (l : p ≤ length w) where
  pub whole_line : is_whole last (line_of (drop p w)) ≡ true → WholeLine s (base + p) w p
  whole_line e = by (at_feed (drop p w))
    where
      by : AtFeed (drop p w) → WholeLine s (base + p) w p
      by (none f) =
          let d = left_last h p l (sym (whole_open (drop p w) f last) ∙ e) in
          record { size = rw d; columns = rw d; window = to_end (omega arith) l (sym d) }
      by (one t rest f d) =
          let r = drop (base + length w) s in
          let g : drop (base + p) s ≡ t ++ 10 ∷ (rest ++ r) = left_from h p l ∙ rw d (append_assoc t (10 ∷ rest) r) in
          record {
            size = rw (g, d) (size_feed t f (rest ++ r) ∙ sym (size_feed t f rest));
            columns = rw (g, d) (columns_feed t f (rest ++ r) rest);
            window = window_fed s (base + p) w p t rest (rest ++ r) f d g;
          }

  pub part_line : is_whole last (line_of (drop p w)) ≡ false → PartLine s base w p
  part_line e = by (at_feed (drop p w))
    where
      by : AtFeed (drop p w) → PartLine s base w p
      by (none f) =
          record {
            end = (open_end last w p l e).1;
            size = rw (left_from h p l, size_open (drop p w) f) (size_after (drop p w) (drop (base + length w) s) f);
          }
      by (one t rest f d) = absurd (true≢false (sym (whole_feed t f rest last) ∙ rw (← d) e))
