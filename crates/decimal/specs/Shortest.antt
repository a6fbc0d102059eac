-- A number's shortest decimal: its digits, with no sign and no leading zero (docs/RULES.md, "Decimal numbers"). Assumes nothing.
use Rattle.std.specs.Prelude.{ℕ, zero, suc, ◌+◌, ◌/◌, ◌%◌, true, false, List, [], ◌∷◌, ◌++◌, ltb}

-- by at most f + 1 digits: one digit, or the shortest decimal of a tenth and then the last digit
unfoldable pub shortest_by : ℕ → ℕ → List ℕ
shortest_by zero n = (48 + n % 10) ∷ []
shortest_by (suc f) n = elim (ltb n 10) [ true ↦ (48 + n) ∷ [] | false ↦ shortest_by f (n / 10) ++ (48 + n % 10) ∷ [] ]

unfoldable pub shortest : ℕ → List ℕ
unfolding shortest_by
shortest n = shortest_by n n
