-- The number on paper, and the values, of each answer of this crate (docs/RULES.md, "Numbers answered"). Assumes nothing.
use Rattle.std.specs.Prelude.{ℕ, [], ◌∷◌, Option, Some, None, Result, Ok, Err}
use Rattle.text.specs.Answer.{Answer, says}
use Rattle.text.specs.Range.{range_places}
use Rattle.text.specs.declared.range.Range.{Range}
use Rattle.fields.specs.declared.field.Beyond.{Beyond}
use Rattle.fields.specs.declared.pos.BadPosition.{BadPosition}

unfoldable pub place_paper : Result Range Beyond → Answer
place_paper (Ok r) = says 0 (range_places r)
place_paper (Err e) = says 6 []

-- the field's place, or nothing where it is absent
unfoldable pub field_paper : Result (Option Range) Beyond → Answer
field_paper (Ok (Some r)) = says 0 (range_places r)
field_paper (Ok None) = says 0 []
field_paper (Err e) = says 6 []

unfoldable pub position_paper : Result (Option ℕ) BadPosition → Answer
position_paper (Ok (Some n)) = says 0 (n ∷ [])
position_paper (Ok None) = says 0 []
position_paper (Err e) = says 21 (e.at ∷ [])
