-- The number on paper, and the values, of the writer's answer (docs/RULES.md, "Numbers answered"). Assumes nothing.
use Rattle.std.specs.Prelude.{ℕ, [], ◌∷◌, Result, Ok, Err}
use Rattle.text.specs.Answer.{Answer, says}
use Rattle.spelling.specs.declared.write.WriteError.{WriteError}
use Rattle.spelling.specs.declared.write.WriteError.TheVariants as W

unfoldable pub write_paper : Result ℕ WriteError → Answer
write_paper (Ok n) = says 0 (n ∷ [])
write_paper (Err W.Beyond) = says 6 []
write_paper (Err W.Empty) = says 11 []
write_paper (Err (W.Bad k)) = says 12 (k ∷ [])
write_paper (Err W.Phasing) = says 13 []
write_paper (Err W.Lengths) = says 16 []
write_paper (Err W.Short) = says 17 []
