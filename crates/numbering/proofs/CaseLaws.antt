-- What each answer says on paper, for who knows which it is. Assumes nothing.
use Prim.Native.Nat.{ℕ}
use mathlib.Core.Path.{◌≡◌}
use mathlib.Core.List.{[], ◌∷◌}
use Rattle.std.specs.Prelude.{Result, Ok, Err}
use Rattle.text.specs.Answer.{says}
use Rattle.numbering.specs.Paper.{number_paper, filled_paper}
use Rattle.numbering.specs.declared.counts.NoGenotype.{NoGenotype}
use Rattle.numbering.specs.declared.genotype.FillError.{FillError}
use Rattle.numbering.specs.declared.genotype.FillError.TheVariants as F

module _ {x : Result ℕ NoGenotype} where
  pub number_is : {n : ℕ} → x ≡ Ok n → number_paper x ≡ says 0 (n ∷ [])
  unfolding number_paper
  number_is e = rw e

  pub number_wrong : {no : NoGenotype} → x ≡ Err no → number_paper x ≡ says 23 []
  unfolding number_paper
  number_wrong e = rw e

module _ {x : Result ℕ FillError} where
  pub filled_done : {n : ℕ} → x ≡ Ok n → filled_paper x ≡ says 0 (n ∷ [])
  unfolding filled_paper
  filled_done e = rw e

  pub filled_wrong : x ≡ Err F.NoGenotype → filled_paper x ≡ says 23 []
  unfolding filled_paper
  filled_wrong e = rw e

  pub filled_short : x ≡ Err F.Short → filled_paper x ≡ says 17 []
  unfolding filled_paper
  filled_short e = rw e

pub ruleset cases = (number_is, number_wrong, filled_done, filled_wrong, filled_short)
