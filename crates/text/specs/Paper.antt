-- The number on paper, and the values, of each answer of this crate (docs/RULES.md, "Numbers answered"). Assumes nothing.
use Rattle.std.specs.Prelude.{ℕ, Bool, [], ◌∷◌, Result, Ok, Err}
use Rattle.text.specs.Pick.{one_if}
use Rattle.text.specs.Answer.{Answer, says}
use Rattle.text.specs.declared.copy.NoRoom.{NoRoom}
use Rattle.text.specs.declared.utf8.NotUtf8.{NotUtf8}

unfoldable pub written_paper : Result ℕ NoRoom → Answer
written_paper (Ok n) = says 0 (n ∷ [])
written_paper (Err e) = says 17 []

unfoldable pub utf8_paper : Result Unit NotUtf8 → Answer
utf8_paper (Ok u) = says 0 []
utf8_paper (Err e) = says 5 []

unfoldable pub space_paper : Result Bool NotUtf8 → Answer
space_paper (Ok held) = says 0 (one_if held ∷ [])
space_paper (Err e) = says 5 []
