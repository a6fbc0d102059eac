-- What is asked of a list that was written and then read, and of a vector that was read and then written, by the contracts of the two
-- functions and with nothing asked of the caller (docs/RULES.md, "Genotypes in BCF"). Assumes nothing.
use Rattle.std.specs.Prelude.{ℕ, ◌+◌, ◌*◌, ◌≤◌, ◌≡◌, List, [], ◌∷◌, length, take, drop, Result}
use Rattle.text.specs.Answer.{says}
use Rattle.allele.specs.Row.{row_of, Parallel}
use Rattle.bcf.specs.Layout.{size, Lays}
use Rattle.bcf.specs.Reading.{ReadsTold}
use Rattle.bcf.specs.Writing.{WritesVector}
use Rattle.bcf.specs.Paper.{read_paper, write_paper}
use Rattle.bcf.specs.Demands.{Least, Rewritten}
use Rattle.bcf.specs.declared.width.Width.{Width}
use Rattle.bcf.specs.declared.read.ReadError.{ReadError}
use Rattle.bcf.specs.declared.write.Vector.{Vector}
use Rattle.bcf.specs.declared.write.WriteError.{WriteError}

-- the writer answered 0, b and c, and left out'
pub record Wrote (n m p : List ℕ) (k : ℕ) (out : List ℕ) (at b c : ℕ) (out' : List ℕ) : Type 0 where
  pub answer : Result Vector WriteError
  pub vector : WritesVector n m p k out at answer out'
  pub done : write_paper answer ≡ says 0 (b ∷ c ∷ [])

-- the reader, told b, answered 0 and c, and left n', m' and p'
pub record DidRead (b : ℕ) (v n m p : List ℕ) (c : ℕ) (n' m' p' : List ℕ) : Type 0 where
  pub answer : Result ℕ ReadError
  pub vector : ReadsTold b v n m p answer n' m' p'
  pub done : read_paper answer ≡ says 0 (c ∷ [])

-- the width that was answered is the smallest in which the list has a vector of that length, and c bytes from the place on are it
pub record Chose (n m p : List ℕ) (k at b c : ℕ) (out' : List ℕ) : Type 0 where
  pub width : Width
  pub is : b ≡ size width
  pub count : c ≡ k * size width
  pub lays : Lays width (row_of n m p) k (take c (drop at out'))
  pub least : Least width (row_of n m p) k

unfoldable pub ChoosesSmallest : Type 0
ChoosesSmallest = (n m p : List ℕ) (k : ℕ) (out : List ℕ) (at b c : ℕ) (out' : List ℕ) → Wrote n m p k out at b c out' → Chose n m p k at b c out'

-- what was written, read at that width into slices of one length that are long enough, is that list, every phasing too
pub record ReadBack (n m p : List ℕ) (r : Result ℕ ReadError) (n' m' p' : List ℕ) : Type 0 where
  pub answer : read_paper r ≡ says 0 (length n ∷ [])
  pub row : row_of (take (length n) n') (take (length n) m') (take (length n) p') ≡ row_of n m p

unfoldable pub ReadsBack : Type 0
ReadsBack = (n m p : List ℕ) (k : ℕ) (out : List ℕ) (at b c : ℕ) (out' : List ℕ) → Wrote n m p k out at b c out'
    → (n₂ m₂ p₂ : List ℕ) (r : Result ℕ ReadError) (n₂' m₂' p₂' : List ℕ) → Parallel n₂ m₂ p₂ → length n ≤ length n₂
    → ReadsTold b (take c (drop at out')) n₂ m₂ p₂ r n₂' m₂' p₂' → ReadBack n m p r n₂' m₂' p₂'

-- what was read, the first c entries of each slice, written at the same length, gives the bytes exactly where the width was the smallest, else
-- the same list in fewer
unfoldable pub WritesBack : Type 0
WritesBack = (w : Width) (v n m p : List ℕ) (c : ℕ) (n' m' p' : List ℕ) → DidRead (size w) v n m p c n' m' p'
    → (k : ℕ) (out : List ℕ) (at : ℕ) (r : Result Vector WriteError) (out' : List ℕ) → length v ≡ k * size w → at + length v ≤ length out
    → WritesVector (take c n') (take c m') (take c p') k out at r out'
    → Rewritten w v k (row_of (take c n') (take c m') (take c p')) out at (record { answer = write_paper r; output = out' })
