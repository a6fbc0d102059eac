-- The number on paper, and the value, of a key's answer (docs/RULES.md, "Numbers answered"). Assumes nothing.
use Rattle.std.specs.Prelude.{ℕ, [], ◌∷◌, Option, Some, None}
use Rattle.text.specs.Answer.{Answer, says}

unfoldable pub key_paper : Option ℕ → Answer
key_paper (Some i) = says 0 (i ∷ [])
key_paper None = says 10 []
