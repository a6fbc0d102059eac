-- Our splitter, our step and our pieces by number meet what is asked of any: the first and the last by their laws, the step
-- piece by piece from a place on. Assumes nothing.
use Prim.Native.Nat.{ℕ, zero, suc, ◌+◌, ◌<◌, ◌≤◌}
use mathlib.Core.Path.{◌≡◌, refl, sym, ◌∙◌}
use mathlib.Core.List.{List, [], ◌∷◌}
use native.Mathlib.Omega.{arith}
use native.Mathlib.Nat.{add-zero}
use lib.ListN.{length, take, drop}
use Rattle.text.specs.Range.{range_at}
use Rattle.text.proofs.Lists.{cut_is, cut_length}
use Rattle.pieces.specs.Pieces.{split, pieces, piece_answer, step_answer}
use Rattle.pieces.specs.Nth.{nth_answer}
use Rattle.pieces.specs.Demands.{Splits, start_in, Stepper, Walk, last, more, Visits, OneWalk, Numbers}
use Rattle.pieces.proofs.PieceLaws.{split_cut, split_nil, split_only, pieces_some}
use Rattle.pieces.proofs.StepLaws.{first_taken, last_length, next_within, next_pieces, step_last, step_more}
use Rattle.pieces.proofs.NumberLaws.{start_first, start_later, piece_cuts, answer_past, answer_place}

-- split's list cuts the text, and no other does
pub splits : Splits split
splits = record { is = split_cut; only = λ b t ps c. split_only ps c }

walk : (b : ℕ) (t : List ℕ) (at : ℕ) (ps : List (List ℕ)) → 0 < length t → at ≤ length t → split b (drop at t) ≡ ps → Walk step_answer b t at ps
walk b t at [] n h e = absurd (split_nil b _ e)
walk b t at (p ∷ []) n h e =
    let l = last_length b t at e in
    rw (← first_taken b t at [] e) (last (step_last b t at h n e) (omega arith))
walk b t at (p ∷ q ∷ ps) n h e =
    let w = next_within b t at e in
    rw (← first_taken b t at (q ∷ ps) e)
    (more (step_more b t at e) refl w (walk b t (at + length p + 1) (q ∷ ps) n w (next_pieces b t at e)))

-- the steps from place 0 of a text that is not empty visit split's pieces, in order
pub visits : Visits step_answer split
unfolding Visits
visits b t n = walk b t 0 (split b t) n (omega arith) refl

-- which are those of a text that is not empty
pub visits_pieces : (b : ℕ) (t : List ℕ) → 0 < length t → Walk step_answer b t 0 (pieces b t)
unfolding Visits
visits_pieces b t n = rw (pieces_some b t n) (visits b t n)

-- a step that answers the same walks the same
pub walk_same : {step step' : Stepper} {b : ℕ} {t : List ℕ} {at : ℕ} {ps : List (List ℕ)} → ((k : ℕ) → step' b t k ≡ step b t k) → Walk step b t at ps
    → Walk step' b t at ps
walk_same h (last e l) = last (h _ ∙ e) l
walk_same h (more e p l w) = more (h _ ∙ e) p l (walk_same h w)

-- ---- at most one answer where a piece starts

taken_length : (t : List ℕ) (at n : ℕ) → at + n ≤ length t → length (take n (drop at t)) ≡ n
taken_length t at n h = rw (cut_is at n t) at (cut_length (range_at at n) t h)

-- a step that walks pieces answers the first of those that are left
module _ {step : Stepper} {b : ℕ} {t : List ℕ} where
  walk_first : {at : ℕ} {ps : List (List ℕ)} → Walk step b t at ps → step b t at ≡ piece_answer at ps
  unfolding piece_answer
  walk_first {at} (last {n = n} e l) = e ∙ rw (taken_length t at n (omega arith))
  walk_first {at} (more {n = n} e p l (last f m)) = e ∙ rw (taken_length t at n (omega arith), p)
  walk_first {at} (more {n = n} e p l (more f q m w)) = e ∙ rw (taken_length t at n (omega arith), p)

  walk_says : {at : ℕ} {ps : List (List ℕ)} → Walk step b t at ps → (n : ℕ) → n < length ps
      → step b t (at + start_in ps n) ≡ piece_answer (at + start_in ps n) (drop n ps)
  walk_says {at} w zero h = rw (start_first, add-zero) (walk_first w)
  walk_says {at} (last e l) (suc n) h = absurd (omega arith)
  walk_says {at} (more {n = m} {next = next} {ps = ps} e p l w) (suc n) h =
      let k = taken_length t at m (omega arith) in
      let f : at + start_in (take m (drop at t) ∷ ps) (suc n) ≡ next + start_in ps n = omega (arith, start_later (take m (drop at t)) ps n) in
      rw f (walk_says {at = next} w n (omega arith))

pub one_walk : OneWalk
unfolding OneWalk
one_walk step other b t at ps w v n h = walk_says w n h ∙ sym (walk_says v n h)

-- asked by number, the pieces are those of the list, in order
pub numbers : Numbers nth_answer pieces
numbers b t n = record { past = answer_past b t n; place = answer_place b t n; cuts = piece_cuts b t n }
