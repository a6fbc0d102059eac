-- The number on paper, and the values, of each answer of this crate (docs/RULES.md, "Numbers answered"). Assumes nothing.
use Rattle.std.specs.Prelude.{ℕ, [], ◌∷◌, Result, Ok, Err}
use Rattle.text.specs.Answer.{Answer, says}
use Rattle.numbering.specs.declared.counts.NoGenotype.{NoGenotype}
use Rattle.numbering.specs.declared.genotype.FillError.{FillError}
use Rattle.numbering.specs.declared.genotype.FillError.TheVariants as F

unfoldable pub number_paper : Result ℕ NoGenotype → Answer
number_paper (Ok n) = says 0 (n ∷ [])
number_paper (Err e) = says 23 []

unfoldable pub filled_paper : Result ℕ FillError → Answer
filled_paper (Ok n) = says 0 (n ∷ [])
filled_paper (Err F.NoGenotype) = says 23 []
filled_paper (Err F.Short) = says 17 []
