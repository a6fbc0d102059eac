-- What each answer says on paper, for who knows which it is. Assumes nothing.
use Rattle.std.specs.Prelude.{Ok, Err, Some, None}
use Prim.Native.Nat.{ℕ}
use mathlib.Core.Path.{◌≡◌}
use mathlib.Core.List.{[], ◌∷◌}
use Rattle.text.specs.declared.range.Range.{Range}
use Rattle.text.specs.Answer.{says}
use Rattle.info.specs.Paper.{Step, value_places, entry_places, step_paper}
use Rattle.info.specs.declared.step.Entry.{Entry}
use Rattle.info.specs.declared.step.NoEntry.TheVariants as N

module _ {x : Step} where
  pub step_beyond : {next : ℕ} → x ≡ Err (N.Beyond next) → step_paper x ≡ says 6 (next ∷ [])
  unfolding step_paper
  step_beyond e = rw e

  pub step_after_key : {next : ℕ} → x ≡ Err (N.AfterKey next) → step_paper x ≡ says 7 (next ∷ [])
  unfolding step_paper
  step_after_key e = rw e

  pub step_no_key : {next : ℕ} → x ≡ Err (N.NoKey next) → step_paper x ≡ says 8 (next ∷ [])
  unfolding step_paper
  step_no_key e = rw e

  pub step_after_value : {next : ℕ} → x ≡ Err (N.AfterValue next) → step_paper x ≡ says 9 (next ∷ [])
  unfolding step_paper
  step_after_value e = rw e

  pub step_nothing : {next : ℕ} → x ≡ Err (N.Nothing next) → step_paper x ≡ says 10 (next ∷ [])
  unfolding step_paper
  step_nothing e = rw e

-- an entry's value is absent, or has a place
module _ {x : Step} {e : Entry} {next : ℕ} (q : x ≡ Ok (e, next)) where
  pub found_absent : e.value ≡ None → step_paper x ≡ says 0 (next ∷ e.key.start ∷ e.key.len ∷ [])
  unfolding step_paper entry_places value_places
  found_absent v = rw (q, v)

  pub found_at : {r : Range} → e.value ≡ Some r → step_paper x ≡ says 0 (next ∷ e.key.start ∷ e.key.len ∷ r.start ∷ r.len ∷ [])
  unfolding step_paper entry_places value_places
  found_at v = rw (q, v)

pub ruleset cases = (step_beyond, step_after_key, step_no_key, step_after_value, step_nothing, found_absent, found_at)
