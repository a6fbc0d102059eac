-- The number on paper, and the values, of each answer of this crate (docs/RULES.md, "Numbers answered"). Assumes nothing.
use Rattle.std.specs.Prelude.{ℕ, [], ◌∷◌, Result, Ok, Err}
use Rattle.text.specs.Answer.{Answer, says}
use Rattle.record.specs.Ending.{ending_number}
use Rattle.record.specs.Paper.{ending_of, record_values}
use Rattle.record.specs.declared.place.Record.{Record}
use Rattle.line.specs.declared.extent.Extent.{Extent}
use Rattle.line.specs.declared.extent.Beyond.{Beyond}
use Rattle.line.specs.declared.read.Refusal.{Refusal}
use Rattle.line.specs.declared.read.Refusal.TheVariants as R

-- the line at a place, or that there is none
abbrev pub Lined : Type 0
Lined = Result Extent Beyond

-- the record of a line and the next place, or why there is none
abbrev pub Read : Type 0
Read = Result (Record × ℕ) Refusal

unfoldable pub lined_paper : Lined → Answer
lined_paper (Ok x) = says 0 (x.end ∷ ending_number (ending_of x.ending) ∷ x.next ∷ [])
lined_paper (Err e) = says 6 []

unfoldable pub read_paper : Read → Answer
read_paper (Ok (r, next)) = says 0 (next ∷ record_values r)
read_paper (Err (R.End next)) = says 1 (next ∷ [])
read_paper (Err (R.Empty next)) = says 2 (next ∷ [])
read_paper (Err (R.Fed next)) = says 3 (next ∷ [])
read_paper (Err (R.Cut next)) = says 4 (next ∷ [])
read_paper (Err (R.NotUtf8 next)) = says 5 (next ∷ [])
read_paper (Err (R.Beyond next)) = says 6 (next ∷ [])
