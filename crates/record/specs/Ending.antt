-- How a line ended (docs/RULES.md, "A line"). Assumes nothing.
use Rattle.std.specs.Prelude.{ℕ, List, [], ◌∷◌, get_or}

-- how a line ended: by the end of the input, by LF, by CR LF
pub data Ending : Type 0 where
  nothing : Ending
  feed : Ending
  return_feed : Ending

unfoldable pub ending_bytes : Ending → List ℕ
ending_bytes nothing = []
ending_bytes feed = 10 ∷ []
ending_bytes return_feed = 13 ∷ 10 ∷ []

-- as an answer says it
unfoldable pub ending_number : Ending → ℕ
ending_number nothing = 0
ending_number feed = 1
ending_number return_feed = 2

-- the ending with this number; one above 2 is taken for 2
unfoldable pub ending_by : ℕ → Ending
ending_by n = get_or (nothing ∷ feed ∷ []) n return_feed
