-- A stepper that meets `Steps` is ours, since no two do: so what was proved of ours is so of it. Assumes nothing.
use mathlib.Core.Path.{◌≡◌, sym, subst, fun_ext}
use Rattle.info.specs.Info.{step_answer}
use Rattle.info.specs.Demands.{Stepper, Steps, OneStepper, Follows, StepsSuffice, OneFinder}
use Rattle.info.proofs.Steps.{steps, one_stepper}
use Rattle.info.proofs.Scans.{scans}
use Rattle.info.proofs.MovesOn.{moves_on, finishes}
use Rattle.info.proofs.First.{first}

same_stepper : (step other : Stepper) → Steps step → Steps other → step ≡ other
unfolding OneStepper
same_stepper step other s o = fun_ext (λ t. fun_ext (one_stepper step other s o t))

pub steps_suffice : StepsSuffice
unfolding StepsSuffice
steps_suffice step s = subst Follows (same_stepper step_answer step steps s) (record { scans = scans; moves_on = moves_on; finishes = finishes; first = first })

pub one_finder : OneFinder
unfolding OneFinder
one_finder step other s o find seek f g t key = sym (f.only t key (seek t key) (rw (same_stepper other step o s) at (g.is t key)))
