-- Whether a text is empty, and which byte ends it. Assumes nothing.
use Rattle.std.specs.Prelude.{ℕ, Bool, true, false, List, [], ◌∷◌, eqb}

unfoldable pub is_empty : List ℕ → Bool
is_empty [] = true
is_empty (b ∷ s) = false

-- its last byte is b
unfoldable pub ends_in : ℕ → List ℕ → Bool
ends_in b [] = false
ends_in b (a ∷ []) = eqb a b
ends_in b (a ∷ c ∷ s) = ends_in b (c ∷ s)
