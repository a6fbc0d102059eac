-- Each step goes on as its number says, by what stands at the place; so the steps end, by induction on a bound of the bytes left. Assumes nothing.
use Prim.Native.Nat.{ℕ, zero, suc, ◌+◌, ◌-◌, ◌<◌, ◌≤◌}
use mathlib.Core.Path.{◌≡◌, refl, ap, ◌∙◌}
use mathlib.Core.List.{List, [], ◌∷◌}
use native.Mathlib.Omega.{arith}
use lib.ListN.{length}
use Rattle.text.specs.Answer.{Answer, says}
use Rattle.info.specs.Info.{step_answer}
use Rattle.info.specs.Demands.{Stepper, spelled, GoesOn, entry, beyond, after_key, no_key, after_value, ended, Moved, MovesOn, now, later, Finished, Finishes}
use Rattle.info.proofs.EntryLaws.{spelled_some, stands_length}
use Rattle.info.proofs.Steps.{Stands, outside, nothing_left, last_entry, one_entry, last_key, keyless, last_value, step_stands}

goes_on : {t : List ℕ} {at n next : ℕ} {places : List ℕ} → GoesOn t at n next → Moved t at (says n (next ∷ places))
goes_on g = record { next = _; places = _; values = refl; goes = g }

moved : {t : List ℕ} {at : ℕ} {a : Answer} → Stands t at a → Moved t at a
moved (outside h) = goes_on (beyond h)
moved (nothing_left e) = goes_on (ended e)
moved {t} {at} (last_entry p g e) =
    let n = spelled_some p g in
    let l = stands_length t at [] p g e in
    goes_on (entry {next = length t} (omega arith) (omega arith))
moved {t} {at} (one_entry p g s h e) =
    let l = stands_length t at (59 ∷ s) p g e in
    goes_on (entry {next = at + length (spelled p) + 1} (omega arith) (omega arith))
moved (last_key h) = goes_on (after_key h)
moved (keyless h) = goes_on (no_key h)
moved (last_value h) = goes_on (after_value h)

pub moves_on : MovesOn step_answer
unfolding MovesOn
moves_on t at = moved (step_stands t at)

-- ---- the steps end

-- from a place of the column: 10, or a step to a place further on; each in the column
pub data Turn (t : List ℕ) (at : ℕ) : ℕ → ℕ → Type 0 where
  stop : {next : ℕ} → next ≤ length t → Turn t at 10 next
  go : {n next : ℕ} → (n ≡ 10 → ⊥) → at < next → next ≤ length t → Turn t at n next

pub turn : {t : List ℕ} {at n next : ℕ} → at ≤ length t → GoesOn t at n next → Turn t at n next
turn h (entry l m) = go {n = 0} (λ z. omega arith) l m
turn h (beyond l) = absurd (omega arith)
turn {t} h (after_key l) = go {n = 7} {next = length t} (λ z. omega arith) l (omega arith)
turn {at = at} h (no_key l) = go {n = 8} {next = at + 1} (λ z. omega arith) (omega arith) (omega arith)
turn {t} h (after_value l) = go {n = 9} {next = length t} (λ z. omega arith) l (omega arith)
turn h (ended e) = stop h

module _ (step : Stepper) (t : List ℕ) where
  -- by one turn more
  one_more : (at : ℕ) (a : Answer) → at ≤ length t → step t at ≡ a → Moved t at a → ((next : ℕ) → at < next → next ≤ length t → Finished step t next)
      → Finished step t at
  one_more at (says n vs) h e m rest = by n m.next (e ∙ ap (says n) m.values) (turn h m.goes)
    where
      by : (n next : ℕ) {places : List ℕ} → step t at ≡ says n (next ∷ places) → Turn t at n next → Finished step t at
      by n next e (stop w) = record { steps = 1; few = omega arith; ends = now e }
      by n next e (go d l w) =
          let f = rest next l w in
          let k = f.few in
          record { steps = f.steps + 1; few = omega arith; ends = later e d f.ends }

-- any stepper that moves on finishes
pub moving_finishes : (step : Stepper) → MovesOn step → Finishes step
unfolding MovesOn Finishes
moving_finishes step moves t at h = within (suc (length t)) at h (omega arith)
  where
    within : (left at : ℕ) → at ≤ length t → length t - at < left → Finished step t at
    within zero at h l = absurd (omega arith)
    within (suc left) at h l = one_more step t at (step t at) h refl (moves t at) (λ next m w. within left next w (omega arith))

pub finishes : Finishes step_answer
finishes = moving_finishes step_answer moves_on
