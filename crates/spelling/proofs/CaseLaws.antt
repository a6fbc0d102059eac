-- What each answer says on paper, for who knows which it is. Assumes nothing.
use Prim.Native.Nat.{ℕ}
use mathlib.Core.Path.{◌≡◌}
use mathlib.Core.List.{[], ◌∷◌}
use Rattle.text.specs.Answer.{says}
use Rattle.spelling.specs.Paper.{write_paper}
use Rattle.std.specs.Prelude.{Result, Ok, Err}
use Rattle.spelling.specs.declared.write.WriteError.{WriteError}
use Rattle.spelling.specs.declared.write.WriteError.TheVariants as W

module _ {x : Result ℕ WriteError} where
  pub write_done : {n : ℕ} → x ≡ Ok n → write_paper x ≡ says 0 (n ∷ [])
  unfolding write_paper
  write_done e = rw e

  pub write_beyond : x ≡ Err W.Beyond → write_paper x ≡ says 6 []
  unfolding write_paper
  write_beyond e = rw e

  pub write_empty : x ≡ Err W.Empty → write_paper x ≡ says 11 []
  unfolding write_paper
  write_empty e = rw e

  pub write_bad : {n : ℕ} → x ≡ Err (W.Bad n) → write_paper x ≡ says 12 (n ∷ [])
  unfolding write_paper
  write_bad e = rw e

  pub write_phasing : x ≡ Err W.Phasing → write_paper x ≡ says 13 []
  unfolding write_paper
  write_phasing e = rw e

  pub write_lengths : x ≡ Err W.Lengths → write_paper x ≡ says 16 []
  unfolding write_paper
  write_lengths e = rw e

  pub write_short : x ≡ Err W.Short → write_paper x ≡ says 17 []
  unfolding write_paper
  write_short e = rw e

pub ruleset cases = (write_done, write_beyond, write_empty, write_bad, write_phasing, write_lengths, write_short)
