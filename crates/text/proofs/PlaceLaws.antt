-- Beyond a text, at its end and in it: each is one way through the tests. Assumes nothing.
use Prim.Native.Nat.{ℕ, ◌<◌}
use mathlib.Core.Path.{◌≡◌}
use mathlib.Core.Bool.{Bool, true, false}
use mathlib.Core.List.{List, [], ◌∷◌}
use native.Mathlib.Omega.{arith}
use lib.ListN.{length}
use lib.Dec.{leb}
use borrow.Author.Tests.{lt-ltb, le-ltb, eq-eqb, ne_eqb}
use Rattle.text.specs.Pick.{pick}
use Rattle.text.specs.Answer.{Answer, says, number_of}
use Rattle.text.specs.Place.{placed, from_place}

module _ (at : ℕ) (t : List ℕ) (n : ℕ) (a : Answer) where
  pub place_beyond : length t < at → from_place at t n a ≡ says 6 (at ∷ [])
  place_beyond h = rw (lt-ltb _ _ h)

  pub place_end : at ≡ length t → from_place at t n a ≡ says n (at ∷ [])
  place_end e = rw (le-ltb (length t) at (omega arith), eq-eqb _ _ e)

  pub place_inside : at < length t → from_place at t n a ≡ a
  place_inside h = rw (le-ltb (length t) at (omega arith), ne_eqb at (length t) (λ e. omega arith))

-- a refusal from a place on is one, beyond too
pub placed_refuses : (at : ℕ) (t : List ℕ) (a : Answer) → (number_of a ≡ 0 → ⊥) → number_of (placed at t a) ≡ 0 → ⊥
placed_refuses at t a n = by (leb at (length t))
  where
    by : (b : Bool) → number_of (pick b a (says 6 [])) ≡ 0 → ⊥
    by true z = n z
    by false z = omega arith
