-- What each answer says on paper, for who knows which it is. Assumes nothing.
use Prim.Native.Nat.{ℕ}
use mathlib.Core.Path.{◌≡◌}
use mathlib.Core.List.{[], ◌∷◌}
use Rattle.std.specs.Prelude.{Result, Ok, Err}
use Rattle.text.specs.Answer.{says}
use Rattle.bcf.specs.Paper.{read_paper, write_paper}
use Rattle.bcf.specs.declared.read.ReadError.{ReadError}
use Rattle.bcf.specs.declared.read.ReadError.TheVariants as R
use Rattle.bcf.specs.declared.write.Vector.{Vector}
use Rattle.bcf.specs.declared.write.WriteError.{WriteError}
use Rattle.bcf.specs.declared.write.WriteError.TheVariants as W

module _ {x : Result ℕ ReadError} where
  pub read_done : {n : ℕ} → x ≡ Ok n → read_paper x ≡ says 0 (n ∷ [])
  unfolding read_paper
  read_done e = rw e

  pub read_unknown : x ≡ Err R.Unknown → read_paper x ≡ says 27 []
  unfolding read_paper
  read_unknown e = rw e

  pub read_lengths : x ≡ Err R.Lengths → read_paper x ≡ says 16 []
  unfolding read_paper
  read_lengths e = rw e

  pub read_bad : x ≡ Err R.Bad → read_paper x ≡ says 26 []
  unfolding read_paper
  read_bad e = rw e

  pub read_short : x ≡ Err R.Short → read_paper x ≡ says 17 []
  unfolding read_paper
  read_short e = rw e

module _ {x : Result Vector WriteError} where
  pub write_done : {v : Vector} → x ≡ Ok v → write_paper x ≡ says 0 (v.width ∷ v.len ∷ [])
  unfolding write_paper
  write_done e = rw e

  pub write_beyond : x ≡ Err W.Beyond → write_paper x ≡ says 6 []
  unfolding write_paper
  write_beyond e = rw e

  pub write_lengths : x ≡ Err W.Lengths → write_paper x ≡ says 16 []
  unfolding write_paper
  write_lengths e = rw e

  pub write_empty : x ≡ Err W.Empty → write_paper x ≡ says 11 []
  unfolding write_paper
  write_empty e = rw e

  pub write_bad : {n : ℕ} → x ≡ Err (W.Bad n) → write_paper x ≡ says 12 (n ∷ [])
  unfolding write_paper
  write_bad e = rw e

  pub write_large : x ≡ Err W.Large → write_paper x ≡ says 24 []
  unfolding write_paper
  write_large e = rw e

  pub write_long : x ≡ Err W.Long → write_paper x ≡ says 25 []
  unfolding write_paper
  write_long e = rw e

  pub write_short : x ≡ Err W.Short → write_paper x ≡ says 17 []
  unfolding write_paper
  write_short e = rw e

pub ruleset cases = (read_done, read_unknown, read_lengths, read_bad, read_short, write_done, write_beyond, write_lengths, write_empty, write_bad, write_large, write_long, write_short)
