-- What each answer says on paper, for who knows which it is. Assumes nothing.
use Prim.Native.Nat.{ℕ}
use mathlib.Core.Path.{◌≡◌}
use mathlib.Core.List.{[], ◌∷◌}
use Rattle.std.specs.Prelude.{Result, Ok, Err}
use Rattle.text.specs.Answer.{says}
use Rattle.join.specs.Paper.{joined_paper}
use Rattle.join.specs.declared.columns.JoinError.{JoinError}
use Rattle.join.specs.declared.columns.JoinError.TheVariants as J

module _ {x : Result ℕ JoinError} where
  pub joined_done : {n : ℕ} → x ≡ Ok n → joined_paper x ≡ says 0 (n ∷ [])
  unfolding joined_paper
  joined_done e = rw e

  pub joined_broken : {n : ℕ} → x ≡ Err (J.NotUtf8 n) → joined_paper x ≡ says 5 (n ∷ [])
  unfolding joined_paper
  joined_broken e = rw e

  pub joined_beyond : x ≡ Err J.Beyond → joined_paper x ≡ says 6 []
  unfolding joined_paper
  joined_beyond e = rw e

  pub joined_wrong : x ≡ Err J.Wrong → joined_paper x ≡ says 16 []
  unfolding joined_paper
  joined_wrong e = rw e

  pub joined_short : x ≡ Err J.Short → joined_paper x ≡ says 17 []
  unfolding joined_paper
  joined_short e = rw e

  pub joined_bad : {n : ℕ} → x ≡ Err (J.Bad n) → joined_paper x ≡ says 18 (n ∷ [])
  unfolding joined_paper
  joined_bad e = rw e

  pub joined_few : x ≡ Err J.Few → joined_paper x ≡ says 19 []
  unfolding joined_paper
  joined_few e = rw e

pub ruleset cases = (joined_done, joined_broken, joined_beyond, joined_wrong, joined_short, joined_bad, joined_few)
