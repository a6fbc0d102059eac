-- The number on paper, and the values, of each answer of this crate (docs/RULES.md, "Numbers answered"). Assumes nothing.
use Rattle.std.specs.Prelude.{ℕ, [], ◌∷◌, Result, Ok, Err}
use Rattle.text.specs.Answer.{Answer, says}
use Rattle.decimal.specs.declared.read.BadDecimal.{BadDecimal}

unfoldable pub number_paper : Result ℕ BadDecimal → Answer
number_paper (Ok n) = says 0 (n ∷ [])
number_paper (Err e) = says 12 (e.at ∷ [])
