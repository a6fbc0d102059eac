-- What is asked of a list that was written and then read, of any 64-bit numbers and with nothing asked of the caller (docs/RULES.md,
-- "Genotypes"). Assumes nothing.
use Rattle.std.specs.Prelude.{ℕ, ◌≤◌, ◌≡◌, List, [], ◌∷◌, length, take, drop, Result}
use Rattle.text.specs.Answer.{says}
use Rattle.allele.specs.Row.{row_of, Parallel}
use Rattle.allele.specs.Means.{Means}
use Rattle.genotype.specs.Paper.{read_paper}
use Rattle.genotype.specs.Answers.{ReadsText}
use Rattle.genotype.specs.declared.read.ReadError.{ReadError}
use Rattle.spelling.specs.Paper.{write_paper}
use Rattle.spelling.specs.Write.{WritesRow, SmallWhereDone}
use Rattle.spelling.specs.declared.write.WriteError.{WriteError}

-- `write_genotype`, by its contract, answered 0 and k, and left out'
pub record Wrote (n m p : List ℕ) (major minor : ℕ) (out : List ℕ) (at k : ℕ) (out' : List ℕ) : Type 0 where
  pub answer : Result ℕ WriteError
  pub row : WritesRow n m p major minor out at answer out'
  pub small : SmallWhereDone n answer
  pub done : write_paper answer ≡ says 0 (k ∷ [])

-- the k bytes from the place on mean the list that the slices stand for
unfoldable pub WrittenBack : Type 0
WrittenBack = (n m p : List ℕ) (major minor : ℕ) (out : List ℕ) (at k : ℕ) (out' : List ℕ) → Wrote n m p major minor out at k out'
    → Means (take k (drop at out')) (row_of n m p)

-- the reader's answer r is 0 and the length of the list written, and the slices it leaves begin with that list, every phasing too
pub record ReadBack (n m p : List ℕ) (r : Result ℕ ReadError) (n' m' p' : List ℕ) : Type 0 where
  pub answer : read_paper r ≡ says 0 (length n ∷ [])
  pub row : row_of (take (length n) n') (take (length n) m') (take (length n) p') ≡ row_of n m p

-- `read_genotype`, given these bytes and slices of one length that are long enough, answers and leaves that list
unfoldable pub ReadsBack : Type 0
ReadsBack = (n m p : List ℕ) (major minor : ℕ) (out : List ℕ) (at k : ℕ) (out' : List ℕ) → Wrote n m p major minor out at k out'
    → (n₂ m₂ p₂ : List ℕ) (r : Result ℕ ReadError) (n₂' m₂' p₂' : List ℕ) → Parallel n₂ m₂ p₂ → length n ≤ length n₂
    → ReadsText (take k (drop at out')) n₂ m₂ p₂ r n₂' m₂' p₂' → ReadBack n m p r n₂' m₂' p₂'
