-- The number on paper, and the values, of each answer of this crate (docs/RULES.md, "Numbers answered"). Assumes nothing.
use Rattle.std.specs.Prelude.{ℕ, [], ◌∷◌, Result, Ok, Err}
use Rattle.text.specs.Answer.{Answer, says}
use Rattle.allele.specs.Reading.{found_answer}
use Rattle.allele.specs.declared.allele.Allele.{Allele}
use Rattle.allele.specs.declared.step.NoAllele.{NoAllele}
use Rattle.allele.specs.declared.step.NoAllele.TheVariants as S

-- an allele, and the place past it
abbrev pub Step : Type 0
Step = Result (Allele × ℕ) NoAllele

unfoldable pub step_paper : Step → Answer
step_paper (Ok (a, next)) = found_answer next a
step_paper (Err S.Beyond) = says 6 []
step_paper (Err S.Nothing) = says 10 []
step_paper (Err S.Empty) = says 11 []
step_paper (Err (S.Bad fault)) = says 12 (fault ∷ [])
