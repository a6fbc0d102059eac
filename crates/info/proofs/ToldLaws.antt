-- A step that is told by another number than 10 moves on. Assumes nothing.
use Prim.Native.Nat.{ℕ, ◌<◌, ◌≤◌}
use mathlib.Core.Path.{◌≡◌, refl, ap, ◌∙◌}
use mathlib.Core.List.{List}
use lib.ListN.{length, get_or}
use Rattle.text.specs.Answer.{number_of, next_of}
use Rattle.info.specs.Info.{step_answer}
use Rattle.info.specs.Paper.{Step, step_paper}
use Rattle.info.specs.Told.{Tells}
use Rattle.info.specs.Demands.{MovesOn}
use Rattle.info.specs.declared.step.Told.{Told}
use Rattle.info.proofs.MovesOn.{moves_on, Turn, stop, go, turn}

-- from a place in the column

goes : {t : List ℕ} {at n next : ℕ} → Turn t at n next → (n ≡ 10 → ⊥) → (at < next) × (next ≤ length t)
goes (stop w) d = absurd (d refl)
goes (go n l w) d = (l, w)

module _ (t : List ℕ) (at : ℕ) (x : Step) (e : step_paper x ≡ step_answer t at) (r : Told) (g : Tells (step_paper x) r) (h : at ≤ length t) (d : r.number ≡ 10 → ⊥) where
  told_goes : (at < r.next) × (r.next ≤ length t)
  unfolding MovesOn
  told_goes =
      let m = moves_on t at in
      let n : r.number ≡ number_of (step_answer t at) = g.number ∙ ap number_of e in
      let w : r.next ≡ m.next = g.next ∙ ap next_of e ∙ ap (λ (vs : List ℕ). get_or vs 0 0) m.values in
      rw w (goes (turn h m.goes) (λ z. d (n ∙ z)))

  pub told_on : at < r.next
  told_on = told_goes.0

  pub told_within : r.next ≤ length t
  told_within = told_goes.1
