-- The first element of a list of which a test, or anything else, holds. Assumes nothing.
use Rattle.std.specs.Prelude.{ℕ, suc, ◌+◌, Bool, List, [], ◌∷◌}
use Rattle.std.proofs.Math.Option.{Option, some, none}
use Rattle.text.specs.Pick.{pick}

-- its index, the first of these having index k
unfoldable pub first_where : {X : Type 0} → (X → Bool) → ℕ → List X → Option ℕ
first_where test k [] = none
first_where test k (x ∷ xs) = pick (test x) (some k) (first_where test (k + 1) xs)

-- this is its index: it holds of that one, and of none before
pub data FirstOf {X : Type 0} (holds : X → Type 0) : List X → ℕ → Type 0 where
  here : {x : X} {xs : List X} → holds x → FirstOf holds (x ∷ xs) 0
  later : {x : X} {xs : List X} {k : ℕ} → (holds x → ⊥) → FirstOf holds xs k → FirstOf holds (x ∷ xs) (suc k)
