-- The line at a place is cut as the statement asks, and a cut is unique, so any such finder answers as ours; and what its answer tells callers.
-- Assumes nothing.
use Prim.Native.Nat.{ℕ, ◌+◌, ◌<◌, ◌≤◌}
use mathlib.Core.Path.{◌≡◌, refl, sym, ap, ◌∙◌}
use mathlib.Core.Bool.{Bool, true, false}
use mathlib.Core.List.{List, [], ◌∷◌, ◌++◌}
use native.Mathlib.Omega.{arith}
use Rattle.std.specs.Prelude.{Ok, Err}
use lib.ListN.{length, drop, length-append, length-drop}
use lib.Dec.{leb}
use borrow.Author.Tests.{leb-true, leb-false}
use Rattle.text.specs.Answer.{says}
use Rattle.record.specs.Ending.{Ending, ending_bytes, ending_number}
use Rattle.record.specs.Paper.{ending_of}
use Rattle.line.specs.declared.extent.Extent.{Extent}
use Rattle.line.specs.declared.extent.Beyond.{Beyond}
use Rattle.line.specs.Line.{Line, line, line_of, extent_answer, line_at_answer}
use Rattle.line.specs.Paper.{Lined, lined_paper}
use Rattle.line.specs.Promises.{FindsLine}
use Rattle.line.specs.Demands.{Reader, Extends, Extents, OneFinder}
use Rattle.record.proofs.EndingLaws.{ending_known}
use Rattle.line.proofs.ColumnLaws.{line_only, line_whole}
use Rattle.line.proofs.ExtentLaws.{at_beyond, at_inside}

-- ---- ours does so

extends : (s : List ℕ) (at : ℕ) (l : Line) → line_of (drop at s) ≡ l → Extends s at (extent_answer at l)
unfolding extent_answer
extends s at (line t e rest) q = record { text = t; ending = e; rest = rest; parts = line_whole (drop at s) q; is = refl }

pub extents : Extents line_at_answer
extents =
    record {
      beyond = at_beyond;
      inside = λ s at h. rw (at_inside s at h) (extends s at (line_of (drop at s)) refl);
    }

-- ---- and any other answers as ours

module _ (find : Reader) (g : Extents find) (s : List ℕ) (at : ℕ) where
  found_same : Extends s at (find s at) → find s at ≡ extent_answer at (line_of (drop at s))
  unfolding extent_answer
  found_same x = x.is ∙ rw (line_only x.parts)

  finds_same : find s at ≡ line_at_answer s at
  finds_same = by (leb at (length s)) refl
    where
      by : (b : Bool) → leb at (length s) ≡ b → find s at ≡ line_at_answer s at
      by true q = let h = leb-true at (length s) q in found_same (g.inside s at h) ∙ sym (at_inside s at h)
      by false q = let h = leb-false at (length s) q in g.beyond s at h ∙ sym (at_beyond s at h)

pub one_finder : OneFinder
unfolding OneFinder
one_finder find other g k s at = finds_same find g s at ∙ sym (finds_same other k s at)

-- ---- what an answer tells

-- the line at the place, where its text ends, and the place past it, which lies in the input
pub record Found (s : List ℕ) (at end : ℕ) (e : Ending) (next : ℕ) : Type 0 where
  pub text : List ℕ
  pub rest : List ℕ
  pub is : line_of (drop at s) ≡ line text e rest
  pub ends : end ≡ at + length text
  pub past : next ≡ at + length text + length (ending_bytes e)
  pub within : next ≤ length s

module _ (s : List ℕ) (at : ℕ) {x : Lined} (f : FindsLine s at x) where
  pub found : {y : Extent} → x ≡ Ok y → Found s at y.end (ending_of y.ending) y.next
  unfolding lined_paper extent_answer
  found {y} q = by (leb at (length s)) refl
    where
      told : at ≤ length s → (l : Line) → line_of (drop at s) ≡ l → says 0 (y.end ∷ ending_number (ending_of y.ending) ∷ y.next ∷ []) ≡ extent_answer at l → Found s at y.end (ending_of y.ending) y.next
      told h (line t d rest) p a =
          let n : ending_number (ending_of y.ending) ≡ ending_number d = cc in
          let z : ending_of y.ending ≡ d = ending_known _ _ n in
          let b : y.next ≡ at + length t + length (ending_bytes d) = cc in
          let w = ap length (line_whole (drop at s) p).whole in
          rw z
          (record {
            text = t;
            rest = rest;
            is = p;
            ends = (cc);
            past = b;
            within = omega (arith, length-drop at s, length-append t (ending_bytes d ++ rest), length-append (ending_bytes d) rest);
          })

      by : (b : Bool) → leb at (length s) ≡ b → Found s at y.end (ending_of y.ending) y.next
      by true p = let h = leb-true at (length s) p in told h (line_of (drop at s)) refl (rw q at f ∙ at_inside s at h)
      by false p = absurd (let y = rw q at f ∙ at_beyond s at (leb-false at (length s) p) in let z : ◌≡◌ {A = ℕ} 0 6 = cc in omega arith)

  pub beyond : {e : Beyond} → x ≡ Err e → length s < at
  unfolding lined_paper extent_answer
  beyond q = by (leb at (length s)) refl
    where
      none : (l : Line) → says 6 [] ≡ extent_answer at l → ⊥
      none (line t d rest) y = let z : ◌≡◌ {A = ℕ} 6 0 = cc in omega arith

      by : (b : Bool) → leb at (length s) ≡ b → length s < at
      by true p = absurd (none (line_of (drop at s)) (rw q at f ∙ at_inside s at (leb-true at (length s) p)))
      by false p = leb-false at (length s) p
