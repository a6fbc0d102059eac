-- The number on paper, and the values, of each answer of this crate (docs/RULES.md, "Numbers answered"). Assumes nothing.
use Rattle.std.specs.Prelude.{ℕ, [], ◌∷◌, Result, Ok, Err}
use Rattle.text.specs.Answer.{Answer, says}
use Rattle.lists.specs.Kind.{invalid_of}
use Rattle.lists.specs.declared.write.Kind.{Kind}
use Rattle.lists.specs.declared.write.Fault.{Fault}
use Rattle.lists.specs.declared.write.Fault.TheVariants as F
use Rattle.lists.specs.declared.write.WriteError.{WriteError}
use Rattle.lists.specs.declared.write.WriteError.TheVariants as W

unfoldable pub verdict_paper : Kind → Result Unit Fault → Answer
verdict_paper kind (Ok u) = says 0 []
verdict_paper kind (Err F.NotUtf8) = says 5 []
verdict_paper kind (Err F.Invalid) = says (invalid_of kind) []

unfoldable pub write_paper : Kind → Result ℕ WriteError → Answer
write_paper kind (Ok n) = says 0 (n ∷ [])
write_paper kind (Err (W.NotUtf8 i)) = says 5 (i ∷ [])
write_paper kind (Err W.Beyond) = says 6 []
write_paper kind (Err (W.Invalid i)) = says (invalid_of kind) (i ∷ [])
write_paper kind (Err W.Wrong) = says 16 []
write_paper kind (Err W.Short) = says 17 []
