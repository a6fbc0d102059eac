-- What each answer says on paper, for who knows which it is. Assumes nothing.
use Prim.Native.Nat.{ℕ}
use mathlib.Core.Path.{◌≡◌}
use mathlib.Core.List.{[], ◌∷◌}
use Rattle.std.specs.Prelude.{Option, Some, None}
use Rattle.text.specs.Answer.{says}
use Rattle.samples.specs.Paper.{key_paper}

module _ {x : Option ℕ} where
  pub key_index : {n : ℕ} → x ≡ Some n → key_paper x ≡ says 0 (n ∷ [])
  unfolding key_paper
  key_index e = rw e

  pub key_nothing : x ≡ None → key_paper x ≡ says 10 []
  unfolding key_paper
  key_nothing e = rw e

pub ruleset cases = (key_index, key_nothing)
