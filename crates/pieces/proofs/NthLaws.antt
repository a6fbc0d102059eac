-- A piece by its number: the step's piece is the first of those that are left, so each turn counts down by one. Assumes nothing.
use Prim.Native.Nat.{ℕ, zero, suc, ◌+◌, ◌-◌, ◌<◌, ◌≤◌}
use mathlib.Core.Path.{◌≡◌, refl, sym, ◌∙◌}
use mathlib.Core.List.{List, [], ◌∷◌}
use native.Mathlib.Omega.{arith}
use lib.ListN.{length, drop}
use Rattle.text.specs.Answer.{says}
use Rattle.text.specs.Range.{cut}
use Rattle.text.specs.declared.range.Range.{Range}
use Rattle.text.proofs.Lists.{cut_length}
use Rattle.pieces.specs.Pieces.{split, step_answer}
use Rattle.pieces.specs.Nth.{nth_in, nth_answer}
use Rattle.pieces.specs.Paper.{step_paper, nth_paper}
use Rattle.pieces.proofs.PieceLaws.{pieces_none, pieces_some}
use Rattle.pieces.proofs.StepLaws.{Further, Final, further_fits, final_fits, step_tells, rest_tells}
use Rattle.std.specs.Prelude.{Result, Ok, Err, Some, None}
use Rattle.pieces.specs.declared.step.Piece.{Piece}
use Rattle.pieces.specs.declared.step.Piece.TheVariants.{More, Last}
use Rattle.pieces.specs.declared.step.NoPiece.{NoPiece}

-- ---- each way through the loop

-- piece `left` of those from `at` on is piece n
pub record Counted (b : ℕ) (s : List ℕ) (n at left : ℕ) : Type 0 where
  pub within : at ≤ length s
  pub same : 0 < length s → nth_in at (split b (drop at s)) left ≡ nth_answer b s n

pub nth_first : (b : ℕ) (s : List ℕ) (n : ℕ) → Counted b s n 0 n
unfolding nth_answer
nth_first b s n = record { within = omega arith; same = λ h. rw (pieces_some b s h) }

nth_none : (b : ℕ) (s : List ℕ) (n : ℕ) → length s ≡ 0 → nth_answer b s n ≡ says 10 []
unfolding nth_answer nth_in
nth_none b s n h = rw (pieces_none b s h)

-- the first of the pieces
nth_here : (at : ℕ) (p : List ℕ) (ps : List (List ℕ)) (n : ℕ) → n ≡ 0 → nth_in at (p ∷ ps) n ≡ says 0 (at ∷ length p ∷ [])
unfolding nth_in
nth_here at p ps zero h = refl
nth_here at p ps (suc n) h = absurd (omega arith)

-- a later one
nth_later : (at : ℕ) (p : List ℕ) (ps : List (List ℕ)) (n : ℕ) → (n ≡ 0 → ⊥) → nth_in at (p ∷ ps) n ≡ nth_in (at + length p + 1) ps (n - 1)
unfolding nth_in
nth_later at p ps zero h = absurd (h refl)
nth_later at p ps (suc n) h = let e : suc n - 1 ≡ n = omega arith in rw e

nth_past : (at n : ℕ) → nth_in at [] n ≡ says 10 []
unfolding nth_in
nth_past at n = refl

-- the first of the pieces left is r
module _ {b n at left : ℕ} {s : List ℕ} {ps : List (List ℕ)} (r : Range) (g : Counted b s n at left) (some : 0 < length s)
    (fits : r.start + r.len ≤ length s) (f : split b (drop at s) ≡ cut r s ∷ ps) where
  at_first : r.start ≡ at → left ≡ 0 → nth_paper (Some r) ≡ nth_answer b s n
  unfolding nth_paper
  at_first e z = rw (e, ← cut_length r s fits) (sym (nth_here at (cut r s) ps left z) ∙ (rw f at (g.same some)))

  past_first : (left ≡ 0 → ⊥) → nth_in (at + r.len + 1) ps (left - 1) ≡ nth_answer b s n
  past_first z = rw (← cut_length r s fits) (sym (nth_later at (cut r s) ps left z) ∙ (rw f at (g.same some)))

module _ (b : ℕ) (s : List ℕ) (n at left : ℕ) (x : Result Piece NoPiece) (g : Counted b s n at left) (e : step_paper x ≡ step_answer b s at) where
  module _ (y : Piece) (t : x ≡ Ok y) where
    further : (r : Range) (next : ℕ) → y ≡ More r next → Further b s at r next
    further r next q = step_tells b s at (Ok (More r next)) (rw (t, q) at e)

    final : (r : Range) → y ≡ Last r → Final b s at r
    final r q = step_tells b s at (Ok (Last r)) (rw (t, q) at e)

    pub nth_more : (r : Range) (next : ℕ) → y ≡ More r next → left ≡ 0 → nth_paper (Some r) ≡ nth_answer b s n
    nth_more r next q z = let f = further r next q in let v = f.past in let w = f.within in at_first r g (omega arith) (further_fits f) f.pieces f.start z

    pub nth_turn : (r : Range) (next : ℕ) → y ≡ More r next → (left ≡ 0 → ⊥) → Counted b s n next (left - 1)
    nth_turn r next q z =
        let f = further r next q in
        record { within = f.within; same = λ h. rw f.past (rw f.past at (past_first r g h (further_fits f) f.pieces z)) }

    pub nth_falls : (r : Range) (next : ℕ) → y ≡ More r next → length s - next < length s - at
    nth_falls r next q = let f = further r next q in let v = f.past in let w = f.within in omega arith

    pub nth_last : (r : Range) → y ≡ Last r → left ≡ 0 → nth_paper (Some r) ≡ nth_answer b s n
    nth_last r q z = let f = final r q in at_first r g f.some (final_fits f) f.pieces f.start z

    pub nth_over : (r : Range) → y ≡ Last r → (left ≡ 0 → ⊥) → nth_paper None ≡ nth_answer b s n
    unfolding nth_paper
    nth_over r q z = let f = final r q in sym (nth_past _ _) ∙ past_first r g f.some (final_fits f) f.pieces z

  pub nth_nothing : (y : NoPiece) → x ≡ Err y → nth_paper None ≡ nth_answer b s n
  unfolding nth_paper
  nth_nothing y t = sym (nth_none b s n (rest_tells b s at y (rw t at e) g.within))

pub ruleset laws = (nth_first, nth_more, nth_turn, nth_falls, nth_last, nth_over, nth_nothing)
