-- The buffer's line and the input's are one up to what follows the LF, so both answers are that line's, moved by both places. Assumes nothing.
use Prim.Native.Nat.{ℕ, suc, ◌+◌, ◌-◌, ◌<◌}
use mathlib.Core.Path.{◌≡◌, refl, sym, ap, ◌∙◌}
use mathlib.Core.Bool.{Bool, true, false}
use mathlib.Core.List.{List, [], ◌∷◌, ◌++◌}
use native.Mathlib.Omega.{arith}
use native.Mathlib.Nat.{add_comm}
use lib.ListN.{length, get_or, take, drop, length-take, length-drop, take-append-drop}
use lib.Seq.{take-suc, get_or-take, get_or-drop, append_snoc}
use lib.Dec.{eqb}
use borrow.Author.Tests.{eqb-true, eqb-false}
use Rattle.pieces.specs.Demands.{Free}
use Rattle.line.specs.Line.{fed, line_of, line_answer, read_answer}
use Rattle.line.specs.Demands.{FirstFeed, moved_places, moved, Window, through_feed, to_end, Windowed}
use Rattle.line.proofs.LineLaws.{read_end, read_line}
use Rattle.line.proofs.ColumnLaws.{line_feed}
use Rattle.line.proofs.WindowLaws.{line_moved, fed_same}

-- the line of a list that begins with a text and an LF
line_through : (n : ℕ) (l t : List ℕ) → Free 10 t → take n l ≡ t ++ 10 ∷ [] → line_of l ≡ fed t (drop n l)
line_through n l t f e =
    let p : t ++ 10 ∷ drop n l ≡ l = rw (← append_snoc t 10 (drop n l), ← e) (take-append-drop n l) in
    ap line_of (sym p) ∙ line_feed _ (drop n l) f

-- two lists that begin with it answer alike
through_same : (n : ℕ) (l m t : List ℕ) → Free 10 t → take n m ≡ t ++ 10 ∷ [] → take n l ≡ take n m
    → (from : ℕ) → line_answer from (line_of l) ≡ line_answer from (line_of m)
through_same n l m t f e d from = rw (line_through n l t f (d ∙ e), line_through n m t f e) (fed_same from t (drop n l) (drop n m))

-- what stands before the first LF, and with it
module _ {s : List ℕ} {at feed : ℕ} (f : FirstFeed s at feed) where
  unfed : Free 10 (take (feed - at) (drop at s))
  unfed = record { free = by }
    where
      by : (k : ℕ) → k < length (take (feed - at) (drop at s)) → get_or (take (feed - at) (drop at s)) k 0 ≡ 10 → ⊥
      by k h e =
          let l : k < feed - at = omega (arith, length-take (feed - at) (drop at s)) in
          f.first (at + k) (omega arith) (omega arith) (rw (get_or-take (feed - at) (drop at s) k 0 l, get_or-drop at s k 0) at e)

  through : take (feed + 1 - at) (drop at s) ≡ take (feed - at) (drop at s) ++ 10 ∷ []
  through =
      let n : feed + 1 - at ≡ suc (feed - at) = omega arith in
      let l : feed - at < length (drop at s) = simp length-drop (omega arith) in
      let p : at + (feed - at) ≡ feed = omega arith in
      rw (n, take-suc (drop at s) (feed - at) 0 l, get_or-drop at s (feed - at) 0, p, f.is)

module _ (s : List ℕ) (at : ℕ) (w : List ℕ) (p : ℕ) where
  -- two places in their lists, from which the lines answer alike
  both_lines : at < length s → p < length w → ((from : ℕ) → line_answer from (line_of (drop p w)) ≡ line_answer from (line_of (drop at s)))
      → moved at (read_answer w p) ≡ moved p (read_answer s at)
  both_lines h l e =
      rw (read_line w p l, read_line s at h, ← line_moved at p (line_of (drop p w)), ← line_moved p at (line_of (drop at s)), add_comm p at)
      (e (at + p))

  -- two ends
  both_ends : at ≡ length s → p ≡ length w → moved at (read_answer w p) ≡ moved p (read_answer s at)
  unfolding moved moved_places
  both_ends h l = rw (read_end w p l, read_end s at h, add_comm p at)

  -- a buffer that holds the line, or all that is left
  pub window_read : Window s at w p → moved at (read_answer w p) ≡ moved p (read_answer s at)
  window_read (through_feed {feed} f l e) =
      both_lines (omega arith) (omega arith)
      (through_same (feed + 1 - at) (drop p w) (drop at s) (take (feed - at) (drop at s)) (unfed f) (through f) e)
  window_read (to_end h l e) = by (eqb at (length s)) refl
    where
      left : length w - p ≡ length s - at
      left = sym (length-drop p w) ∙ ap length e ∙ length-drop at s

      by : (c : Bool) → eqb at (length s) ≡ c → moved at (read_answer w p) ≡ moved p (read_answer s at)
      by true c = let i = eqb-true at (length s) c in let j = left in both_ends i (omega arith)
      by false c =
          let i : at < length s = omega (arith, eqb-false at (length s) c) in
          let j = left in
          both_lines i (omega arith) (λ from. rw e)

pub windowed : Windowed read_answer
unfolding Windowed
windowed = window_read
