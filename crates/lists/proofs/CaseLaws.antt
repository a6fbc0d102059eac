-- What each answer says on paper, for who knows which it is. Assumes nothing.
use Prim.Native.Nat.{ℕ}
use mathlib.Core.Path.{◌≡◌}
use mathlib.Core.List.{[], ◌∷◌}
use Rattle.std.specs.Prelude.{Result, Ok, Err}
use Rattle.text.specs.Answer.{says}
use Rattle.lists.specs.Kind.{invalid_of}
use Rattle.lists.specs.Paper.{verdict_paper, write_paper}
use Rattle.lists.specs.declared.write.Kind.{Kind}
use Rattle.lists.specs.declared.write.Fault.{Fault}
use Rattle.lists.specs.declared.write.Fault.TheVariants as F
use Rattle.lists.specs.declared.write.WriteError.{WriteError}
use Rattle.lists.specs.declared.write.WriteError.TheVariants as W

module _ (kind : Kind) {x : Result Unit Fault} where
  pub verdict_fine : x ≡ Ok tt → verdict_paper kind x ≡ says 0 []
  unfolding verdict_paper
  verdict_fine e = rw e

  pub verdict_broken : x ≡ Err F.NotUtf8 → verdict_paper kind x ≡ says 5 []
  unfolding verdict_paper
  verdict_broken e = rw e

  pub verdict_invalid : x ≡ Err F.Invalid → verdict_paper kind x ≡ says (invalid_of kind) []
  unfolding verdict_paper
  verdict_invalid e = rw e

module _ (kind : Kind) {x : Result ℕ WriteError} where
  pub write_done : {n : ℕ} → x ≡ Ok n → write_paper kind x ≡ says 0 (n ∷ [])
  unfolding write_paper
  write_done e = rw e

  pub write_broken : {n : ℕ} → x ≡ Err (W.NotUtf8 n) → write_paper kind x ≡ says 5 (n ∷ [])
  unfolding write_paper
  write_broken e = rw e

  pub write_beyond : x ≡ Err W.Beyond → write_paper kind x ≡ says 6 []
  unfolding write_paper
  write_beyond e = rw e

  pub write_invalid : {n : ℕ} → x ≡ Err (W.Invalid n) → write_paper kind x ≡ says (invalid_of kind) (n ∷ [])
  unfolding write_paper
  write_invalid e = rw e

  pub write_wrong : x ≡ Err W.Wrong → write_paper kind x ≡ says 16 []
  unfolding write_paper
  write_wrong e = rw e

  pub write_short : x ≡ Err W.Short → write_paper kind x ≡ says 17 []
  unfolding write_paper
  write_short e = rw e

pub ruleset cases = (verdict_fine, verdict_broken, verdict_invalid, write_done, write_broken, write_beyond, write_invalid, write_wrong, write_short)
