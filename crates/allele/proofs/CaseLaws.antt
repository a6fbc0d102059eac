-- What each answer says on paper, for who knows which it is. Assumes nothing.
use Prim.Native.Nat.{ℕ}
use mathlib.Core.Path.{◌≡◌}
use mathlib.Core.List.{[], ◌∷◌}
use Rattle.std.specs.Prelude.{Ok, Err}
use Rattle.text.specs.Answer.{says}
use Rattle.text.specs.Pick.{one_if}
use Rattle.allele.specs.Paper.{Step, step_paper}
use Rattle.allele.specs.declared.allele.Allele.{Allele}
use Rattle.allele.specs.declared.step.NoAllele.TheVariants as S

module _ {x : Step} where
  pub step_found : {a : Allele} {next : ℕ} → x ≡ Ok (a, next) → step_paper x ≡ says 0 (next ∷ a.number ∷ one_if a.missing ∷ one_if a.phased ∷ [])
  unfolding step_paper
  step_found e = rw e

  pub step_beyond : x ≡ Err S.Beyond → step_paper x ≡ says 6 []
  unfolding step_paper
  step_beyond e = rw e

  pub step_nothing : x ≡ Err S.Nothing → step_paper x ≡ says 10 []
  unfolding step_paper
  step_nothing e = rw e

  pub step_empty : x ≡ Err S.Empty → step_paper x ≡ says 11 []
  unfolding step_paper
  step_empty e = rw e

  pub step_bad : {fault : ℕ} → x ≡ Err (S.Bad fault) → step_paper x ≡ says 12 (fault ∷ [])
  unfolding step_paper
  step_bad e = rw e

pub ruleset cases = (step_found, step_beyond, step_nothing, step_empty, step_bad)
