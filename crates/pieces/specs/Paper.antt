-- The number on paper, and the values, of each answer of this crate (docs/RULES.md, "Numbers answered"). Assumes nothing.
use Rattle.std.specs.Prelude.{[], ◌∷◌}
use Rattle.text.specs.Answer.{Answer, says}
use Rattle.text.specs.Range.{range_places}
use Rattle.std.specs.Prelude.{Result, Ok, Err, Option, Some, None}
use Rattle.text.specs.declared.range.Range.{Range}
use Rattle.pieces.specs.declared.step.Piece.{Piece}
use Rattle.pieces.specs.declared.step.Piece.TheVariants.{More, Last}
use Rattle.pieces.specs.declared.step.NoPiece.{NoPiece}
use Rattle.pieces.specs.declared.step.NoPiece.TheVariants.{Nothing, Beyond}

-- a piece's place, and the next place where a separator ends it
unfoldable pub step_paper : Result Piece NoPiece → Answer
step_paper (Ok (More r next)) = says 0 (r.start ∷ r.len ∷ next ∷ [])
step_paper (Ok (Last r)) = says 0 (range_places r)
step_paper (Err Nothing) = says 10 []
step_paper (Err Beyond) = says 6 []

unfoldable pub nth_paper : Option Range → Answer
nth_paper (Some r) = says 0 (range_places r)
nth_paper None = says 10 []
