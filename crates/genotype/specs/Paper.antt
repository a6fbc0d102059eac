-- The number on paper, and the values, of each answer of this crate (docs/RULES.md, "Numbers answered"). Assumes nothing.
use Rattle.std.specs.Prelude.{ℕ, [], ◌∷◌, Result, Ok, Err}
use Rattle.text.specs.Answer.{Answer, says}
use Rattle.genotype.specs.declared.read.ReadError.{ReadError}
use Rattle.genotype.specs.declared.read.ReadError.TheVariants as R

-- how many alleles were read
abbrev pub Read : Type 0
Read = Result ℕ ReadError

unfoldable pub read_paper : Read → Answer
read_paper (Ok n) = says 0 (n ∷ [])
read_paper (Err R.Empty) = says 11 []
read_paper (Err (R.Bad k fault)) = says 12 (k ∷ fault ∷ [])
read_paper (Err R.Lengths) = says 16 []
read_paper (Err R.Short) = says 17 []
read_paper (Err (R.Above k)) = says 20 (k ∷ [])
