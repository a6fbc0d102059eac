-- What stands in a text before the first of two bytes. Assumes nothing.
use Rattle.std.specs.Prelude.{ℕ, ◌||◌, List, [], ◌∷◌, eqb}
use Rattle.text.specs.Pick.{pick}

-- the bytes before the text's first a or b, or its end
unfoldable pub before_either : ℕ → ℕ → List ℕ → List ℕ
before_either a b [] = []
before_either a b (x ∷ s) = pick (eqb x a || eqb x b) [] (x ∷ before_either a b s)
