-- What each answer says on paper, for who knows which it is. Assumes nothing.
use Prim.Native.Nat.{ℕ}
use mathlib.Core.Path.{◌≡◌}
use mathlib.Core.List.{[], ◌∷◌}
use Rattle.std.specs.Prelude.{Result, Ok, Err}
use Rattle.text.specs.Answer.{says}
use Rattle.decimal.specs.Paper.{number_paper}
use Rattle.decimal.specs.declared.read.BadDecimal.{BadDecimal}

module _ {x : Result ℕ BadDecimal} where
  pub number_value : {n : ℕ} → x ≡ Ok n → number_paper x ≡ says 0 (n ∷ [])
  unfolding number_paper
  number_value e = rw e

  pub number_bad : {b : BadDecimal} → x ≡ Err b → number_paper x ≡ says 12 (b.at ∷ [])
  unfolding number_paper
  number_bad e = rw e

pub ruleset cases = (number_value, number_bad)
