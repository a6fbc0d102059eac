-- What each answer says on paper, for who knows which it is. Assumes nothing.
use Prim.Native.Nat.{ℕ}
use mathlib.Core.Path.{◌≡◌}
use mathlib.Core.List.{[], ◌∷◌}
use Rattle.std.specs.Prelude.{Ok, Err}
use Rattle.text.specs.Answer.{says}
use Rattle.genotype.specs.Paper.{Read, read_paper}
use Rattle.genotype.specs.declared.read.ReadError.TheVariants as R

module _ {x : Read} where
  pub read_done : {n : ℕ} → x ≡ Ok n → read_paper x ≡ says 0 (n ∷ [])
  unfolding read_paper
  read_done e = rw e

  pub read_empty : x ≡ Err R.Empty → read_paper x ≡ says 11 []
  unfolding read_paper
  read_empty e = rw e

  pub read_bad : {n fault : ℕ} → x ≡ Err (R.Bad n fault) → read_paper x ≡ says 12 (n ∷ fault ∷ [])
  unfolding read_paper
  read_bad e = rw e

  pub read_lengths : x ≡ Err R.Lengths → read_paper x ≡ says 16 []
  unfolding read_paper
  read_lengths e = rw e

  pub read_short : x ≡ Err R.Short → read_paper x ≡ says 17 []
  unfolding read_paper
  read_short e = rw e

  pub read_above : {n : ℕ} → x ≡ Err (R.Above n) → read_paper x ≡ says 20 (n ∷ [])
  unfolding read_paper
  read_above e = rw e

pub ruleset cases = (read_done, read_empty, read_bad, read_lengths, read_short, read_above)
