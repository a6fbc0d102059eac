-- Entry lists: one text, and the end of each entry (docs/RULES.md, "Entry lists"). Assumes nothing.
use Rattle.std.specs.Prelude.{ℕ, ◌-◌, Bool, true, ◌&&◌, List, [], ◌∷◌, length, take, drop, leb}
use Rattle.text.specs.Pick.{pick}
use Rattle.text.specs.Answer.{Answer, says}

-- the ends never fall, from start on, and never pass n
unfoldable pub rising : ℕ → List ℕ → ℕ → Bool
rising start [] n = true
rising start (e ∷ es) n = leb start e && (leb e n && rising e es n)

-- the entries from start on, each to its end; text past the last end is ignored
unfoldable pub entries_from : ℕ → List ℕ → List ℕ → List (List ℕ)
entries_from start t [] = []
entries_from start t (e ∷ es) = take (e - start) (drop start t) ∷ entries_from e t es

unfoldable pub entry_list : List ℕ → List ℕ → List (List ℕ)
entry_list t ends = entries_from 0 t ends

-- 16 before the answer a, where the ends fall or pass the text
abbrev pub ordered : List ℕ → List ℕ → Answer → Answer
ordered t ends a = pick (rising 0 ends (length t)) a (says 16 [])
