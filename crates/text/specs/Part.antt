-- A part of a text that is given back as a slice (docs/RULES.md, "Entry lists", "INFO"). Assumes nothing.
use Rattle.std.specs.Prelude.{ℕ, ◌+◌, ◌≡◌, List}
use Rattle.std.specs.Borrow.{Bor}
use Rattle.text.specs.Range.{cut}
use Rattle.text.specs.declared.range.Range.{Range}

-- the slice r lies in the text's memory, at this range of it, and holds its bytes
pub record Part (text : Bor (List ℕ)) (range : Range) (r : Bor (List ℕ)) : Type 0 where
  pub memory : r.ref_ptr.0 ≡ text.ref_ptr.0
  pub place : r.ref_ptr.1 ≡ text.ref_ptr.1 + range.start
  pub bytes : r.now ≡ cut range text.now
