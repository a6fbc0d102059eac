-- The ALT column (docs/RULES.md, "Genotypes"). Assumes nothing.
use Rattle.std.specs.Prelude.{ℕ, ◌+◌, ◌||◌, List, [], ◌∷◌}
use Rattle.text.specs.Pick.{pick}
use Rattle.text.specs.Same.{same}
use Rattle.text.specs.Bytes.{is_empty}
use Rattle.pieces.specs.Pieces.{count_of}

-- 0 where the column is `.` or empty, else the commas in it plus one
unfoldable pub alt_count : List ℕ → ℕ
alt_count column = pick (same column (46 ∷ []) || is_empty column) 0 (count_of 44 column + 1)
