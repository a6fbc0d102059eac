-- Steppers that nobody would accept do not meet what is asked: each is found out by a text of one or two digits. Assumes nothing.
use Prim.Native.Nat.{ℕ, ◌+◌, ◌<◌}
use mathlib.Core.Path.{◌≡◌, refl, sym, ap, ◌∙◌}
use mathlib.Core.Bool.{true, false}
use mathlib.Core.List.{List, [], ◌∷◌}
use native.Mathlib.Omega.{arith}
use Rattle.text.specs.Answer.{says, number_of}
use Rattle.pieces.proofs.CountLaws.{lacks_none}
use Rattle.allele.specs.Reading.{found_answer, step_answer}
use Rattle.allele.specs.Means.{none, more, Means, bare, at_end, without}
use Rattle.allele.specs.Demands.{Stepper, Walk, next, Visits, Steps, OneStepper}
use Rattle.allele.specs.declared.allele.Allele.{Allele}
use Rattle.allele.proofs.PhasedLaws.{phased_none, phased_more}
use Rattle.allele.proofs.BodyLaws.{digit_body}
use Rattle.allele.proofs.Steps.{steps, one_stepper}

-- an allele alone is phased, since no mark follows
abbrev pub lone : ℕ → Allele
lone n = record { number = n; missing = false; phased = true }

-- `0|1`, by which steps are tried
pair_means : Means (48 ∷ 124 ∷ 49 ∷ []) (lone 0 ∷ lone 1 ∷ [])
pair_means = bare (sym (phased_more _ _ ∙ phased_none)) (digit_body 0 true (omega arith)) (more refl (digit_body 1 true (omega arith)) none)

-- one whose next place lies too far by one
pub invented_next : (step : Stepper)
    → ((t : List ℕ) (at next : ℕ) (a : Allele) → step_answer t at ≡ found_answer next a → step t at ≡ found_answer (next + 1) a)
    → Steps step → ⊥
unfolding Steps OneStepper
invented_next step f x =
    let g = without {rest = []} (sym (lacks_none 47)) (digit_body 0 true (omega arith)) at_end in
    let e = ((steps (48 ∷ []) 0).found (lone 0) 1).1 g in
    let a = f (48 ∷ []) 0 1 (lone 0) e in
    let b = one_stepper step step_answer x steps (48 ∷ []) 0 in
    let z : ◌≡◌ {A = ℕ} 2 1 = cc in
    omega arith

-- one that is right at the first step and then answers 10
pub stops_early : (step : Stepper) → ((t : List ℕ) (at : ℕ) → 0 < at → step t at ≡ says 10 []) → Visits step → ⊥
stops_early step f x = by ((x.means _ _).0 pair_means)
  where
    by : Walk step (48 ∷ 124 ∷ 49 ∷ []) 0 (lone 0 ∷ lone 1 ∷ []) → ⊥
    by (next e h (next {at = at} g i w)) = let z = ap number_of (sym g ∙ f _ at (omega arith)) in omega arith
