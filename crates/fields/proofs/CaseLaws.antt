-- What each answer says on paper, for who knows which it is. Assumes nothing.
use Prim.Native.Nat.{ℕ}
use mathlib.Core.Path.{◌≡◌}
use mathlib.Core.List.{[], ◌∷◌}
use Rattle.std.specs.Prelude.{Option, Some, None, Result, Ok, Err}
use Rattle.text.specs.Answer.{says}
use Rattle.text.specs.declared.range.Range.{Range}
use Rattle.fields.specs.Paper.{place_paper, field_paper, position_paper}
use Rattle.fields.specs.declared.field.Beyond.{Beyond}
use Rattle.fields.specs.declared.pos.BadPosition.{BadPosition}

module _ {x : Result Range Beyond} where
  pub place_at : {r : Range} → x ≡ Ok r → place_paper x ≡ says 0 (r.start ∷ r.len ∷ [])
  unfolding place_paper
  place_at e = rw e

  pub place_beyond : {e : Beyond} → x ≡ Err e → place_paper x ≡ says 6 []
  unfolding place_paper
  place_beyond e = rw e

module _ {x : Result (Option Range) Beyond} where
  pub text_at : {r : Range} → x ≡ Ok (Some r) → field_paper x ≡ says 0 (r.start ∷ r.len ∷ [])
  unfolding field_paper
  text_at e = rw e

  pub text_absent : x ≡ Ok None → field_paper x ≡ says 0 []
  unfolding field_paper
  text_absent e = rw e

  pub text_beyond : {e : Beyond} → x ≡ Err e → field_paper x ≡ says 6 []
  unfolding field_paper
  text_beyond e = rw e

module _ {x : Result (Option ℕ) BadPosition} where
  pub position_at : {n : ℕ} → x ≡ Ok (Some n) → position_paper x ≡ says 0 (n ∷ [])
  unfolding position_paper
  position_at e = rw e

  pub position_nowhere : x ≡ Ok None → position_paper x ≡ says 0 []
  unfolding position_paper
  position_nowhere e = rw e

  pub position_bad : {e : BadPosition} → x ≡ Err e → position_paper x ≡ says 21 (e.at ∷ [])
  unfolding position_paper
  position_bad e = rw e

pub ruleset cases = (place_at, place_beyond, text_at, text_absent, text_beyond, position_at, position_nowhere, position_bad)
