-- What each answer says on paper, for who knows which it is. Assumes nothing.
use Prim.Native.Nat.{ℕ}
use mathlib.Core.Path.{◌≡◌}
use mathlib.Core.Bool.{Bool, true, false}
use mathlib.Core.List.{[], ◌∷◌}
use Rattle.std.specs.Prelude.{Result, Ok, Err}
use Rattle.text.specs.Answer.{says}
use Rattle.text.specs.Paper.{written_paper, utf8_paper, space_paper}
use Rattle.text.specs.declared.copy.NoRoom.{NoRoom}
use Rattle.text.specs.declared.utf8.NotUtf8.{NotUtf8}

module _ {x : Result ℕ NoRoom} where
  pub written_done : {n : ℕ} → x ≡ Ok n → written_paper x ≡ says 0 (n ∷ [])
  unfolding written_paper
  written_done e = rw e

  pub written_short : {no : NoRoom} → x ≡ Err no → written_paper x ≡ says 17 []
  unfolding written_paper
  written_short e = rw e

module _ {x : Result Unit NotUtf8} where
  pub utf8_text : {u : Unit} → x ≡ Ok u → utf8_paper x ≡ says 0 []
  unfolding utf8_paper
  utf8_text e = rw e

  pub utf8_broken : {no : NotUtf8} → x ≡ Err no → utf8_paper x ≡ says 5 []
  unfolding utf8_paper
  utf8_broken e = rw e

module _ {x : Result Bool NotUtf8} where
  pub space_broken : {no : NotUtf8} → x ≡ Err no → space_paper x ≡ says 5 []
  unfolding space_paper
  space_broken e = rw e

  pub space_held : x ≡ Ok true → space_paper x ≡ says 0 (1 ∷ [])
  unfolding space_paper
  space_held e = rw e

  pub space_free : x ≡ Ok false → space_paper x ≡ says 0 (0 ∷ [])
  unfolding space_paper
  space_free e = rw e

pub ruleset cases = (written_done, written_short, utf8_text, utf8_broken, space_broken, space_held, space_free)
