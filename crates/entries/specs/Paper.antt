-- The number on paper, and the values, of each answer of this crate (docs/RULES.md, "Numbers answered"). Assumes nothing.
use Rattle.std.specs.Prelude.{ℕ, [], ◌∷◌, Result, Ok, Err}
use Rattle.text.specs.Answer.{Answer, says}
use Rattle.text.specs.Range.{range_places}
use Rattle.text.specs.declared.range.Range.{Range}
use Rattle.entries.specs.declared.joined.JoinError.{JoinError}
use Rattle.entries.specs.declared.joined.JoinError.TheVariants as J
use Rattle.entries.specs.declared.entries.WrongEnds.{WrongEnds}
use Rattle.entries.specs.declared.entries.NoEntry.{NoEntry}
use Rattle.entries.specs.declared.entries.NoEntry.TheVariants as N

unfoldable pub ends_paper : Result Unit WrongEnds → Answer
ends_paper (Ok u) = says 0 []
ends_paper (Err e) = says 16 []

unfoldable pub entry_paper : Result Range NoEntry → Answer
entry_paper (Ok r) = says 0 (range_places r)
entry_paper (Err N.Nothing) = says 10 []
entry_paper (Err N.Wrong) = says 16 []

unfoldable pub joined_paper : Result ℕ JoinError → Answer
joined_paper (Ok n) = says 0 (n ∷ [])
joined_paper (Err J.Wrong) = says 16 []
joined_paper (Err J.Short) = says 17 []
