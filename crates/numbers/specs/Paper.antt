-- The number on paper, and the values, of each answer of this crate (docs/RULES.md, "Numbers answered"). Assumes nothing.
use Rattle.std.specs.Prelude.{ℕ, [], ◌∷◌, Result, Ok, Err, Option, Some, None}
use Rattle.text.specs.Answer.{Answer, says}
use Rattle.numbers.specs.declared.row.RowError.{RowError}
use Rattle.numbers.specs.declared.row.RowError.TheVariants as R
use Rattle.numbers.specs.declared.ask.Ask.{Ask}
use Rattle.numbers.specs.declared.ask.Ask.TheVariants as A

unfoldable pub row_paper : Result ℕ RowError → Answer
row_paper (Ok n) = says 0 (n ∷ [])
row_paper (Err R.Beyond) = says 6 []
row_paper (Err R.NoGenotype) = says 23 []
row_paper (Err R.Full) = says 17 []

unfoldable pub ask_paper : Option Ask → Answer
ask_paper (Some (A.All p n c)) = says 0 (p ∷ n ∷ c ∷ [])
ask_paper (Some (A.One i)) = says 0 (i ∷ [])
ask_paper None = says 23 []
