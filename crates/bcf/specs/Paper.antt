-- The number on paper, and the values, of each answer of this crate (docs/RULES.md, "Numbers answered"). Assumes nothing.
use Rattle.std.specs.Prelude.{ℕ, [], ◌∷◌, Result, Ok, Err}
use Rattle.text.specs.Answer.{Answer, says}
use Rattle.bcf.specs.declared.read.ReadError.{ReadError}
use Rattle.bcf.specs.declared.read.ReadError.TheVariants as R
use Rattle.bcf.specs.declared.write.Vector.{Vector}
use Rattle.bcf.specs.declared.write.WriteError.{WriteError}
use Rattle.bcf.specs.declared.write.WriteError.TheVariants as W

unfoldable pub read_paper : Result ℕ ReadError → Answer
read_paper (Ok n) = says 0 (n ∷ [])
read_paper (Err R.Unknown) = says 27 []
read_paper (Err R.Lengths) = says 16 []
read_paper (Err R.Bad) = says 26 []
read_paper (Err R.Short) = says 17 []

unfoldable pub write_paper : Result Vector WriteError → Answer
write_paper (Ok v) = says 0 (v.width ∷ v.len ∷ [])
write_paper (Err W.Beyond) = says 6 []
write_paper (Err W.Lengths) = says 16 []
write_paper (Err W.Empty) = says 11 []
write_paper (Err (W.Bad k)) = says 12 (k ∷ [])
write_paper (Err W.Large) = says 24 []
write_paper (Err W.Long) = says 25 []
write_paper (Err W.Short) = says 17 []
