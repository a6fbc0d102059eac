-- What is asked of the place of a field (docs/RULES.md, "A line"; docs/STATEMENTS.md). Assumes nothing.
use Rattle.std.specs.Prelude.{ℕ, ◌<◌, List, length}
use Rattle.std.specs.Borrow.{u8}
use denote.Slice.{Room}
use Rattle.record.specs.Place.{span}

-- a field that ends before it starts has a place that no input reaches, however long the language lets it be
unfoldable pub Unreached : Type 0
Unreached = (s : List ℕ) → Room u8 (length s) → (start end : ℕ) → end < start → length s < (span start end).start
