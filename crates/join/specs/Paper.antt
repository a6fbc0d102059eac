-- The number on paper, and the values, of each answer of this crate (docs/RULES.md, "Numbers answered"). Assumes nothing.
use Rattle.std.specs.Prelude.{ℕ, [], ◌∷◌, Result, Ok, Err}
use Rattle.text.specs.Answer.{Answer, says}
use Rattle.join.specs.declared.columns.JoinError.{JoinError}
use Rattle.join.specs.declared.columns.JoinError.TheVariants as J

unfoldable pub joined_paper : Result ℕ JoinError → Answer
joined_paper (Ok n) = says 0 (n ∷ [])
joined_paper (Err (J.NotUtf8 i)) = says 5 (i ∷ [])
joined_paper (Err J.Beyond) = says 6 []
joined_paper (Err J.Wrong) = says 16 []
joined_paper (Err J.Short) = says 17 []
joined_paper (Err (J.Bad i)) = says 18 (i ∷ [])
joined_paper (Err J.Few) = says 19 []
