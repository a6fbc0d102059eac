-- The number on paper, and the values, of each answer of this crate, and the old form's places (docs/RULES.md, "Numbers answered").
-- Assumes nothing.
use Rattle.std.specs.Prelude.{ℕ, List, [], ◌∷◌, ◌++◌, Result, Ok, Err}
use Rattle.text.specs.Answer.{Answer, says}
use Rattle.text.specs.Range.{range_places}
use Rattle.text.specs.declared.range.Range.{Range}
use Rattle.record.specs.Ending.{ending_number}
use Rattle.record.specs.Paper.{ending_of, record_numbers}
use Rattle.record.specs.declared.place.Name.{Name}
use Rattle.record.specs.declared.place.Name.TheVariants as N
use Rattle.forms.specs.declared.wide.Wide.{Wide}
use Rattle.record.specs.declared.place.Record.{Record}
use Rattle.forms.specs.declared.turn.NotMade.{NotMade}

-- the place of a field of the old form
unfoldable pub wide_range : Wide → Name → Range
wide_range w N.Chrom = w.chrom
wide_range w N.Pos = w.pos
wide_range w N.Id = w.id
wide_range w N.Reference = w.reference
wide_range w N.Alt = w.alt
wide_range w N.Qual = w.qual
wide_range w N.Filter = w.filter
wide_range w N.Info = w.info
wide_range w N.Format = w.format
wide_range w N.Samples = w.samples

-- the starts and lengths of its ten fields
unfoldable pub wide_places : Wide → List ℕ
wide_places w =
    range_places w.chrom
    ++ range_places w.pos
    ++ range_places w.id
    ++ range_places w.reference
    ++ range_places w.alt
    ++ range_places w.qual
    ++ range_places w.filter
    ++ range_places w.info
    ++ range_places w.format
    ++ range_places w.samples

unfoldable pub widened_paper : Result Wide NotMade → Answer
widened_paper (Ok w) = says 0 (ending_number (ending_of w.ending) ∷ wide_places w)
widened_paper (Err e) = says 32 []

unfoldable pub narrowed_paper : Result Record NotMade → Answer
narrowed_paper (Ok r) = says 0 (ending_number (ending_of r.ending) ∷ record_numbers r)
narrowed_paper (Err e) = says 32 []
