-- How an answer crosses to a caller in C or Rust: its number is returned, and its values go to a lent array (docs/RULES.md,
-- "Calls from C and Rust"). Assumes nothing.
use Rattle.std.specs.Prelude.{ℕ, ◌≡◌, List, ◌∷◌, length}
use Rattle.text.specs.Answer.{Answer, number_of, values_of}
use Rattle.text.specs.Over.{over, laid}
use Rattle.allele.specs.Row.{numbers_of, missing_of, phased_of}
use Rattle.allele.specs.declared.allele.Allele.{Allele}

-- an entry that only judges returns its answer's number
abbrev pub Judges : Answer → ℕ → Type 0
Judges a r = r ≡ number_of a

-- an entry whose answer is a returns r and leaves l' in an array that held l: how many values follow, then the values
pub record Tells (a : Answer) (l : List ℕ) (r : ℕ) (l' : List ℕ) : Type 0 where
  pub number : Judges a r
  pub values : l' ≡ over (length (values_of a) ∷ values_of a) l

-- a writer also leaves `left` in its output
pub record TellsWriting (a : Answer) (left l : List ℕ) (r : ℕ) (out' l' : List ℕ) : Type 0 where
  pub told : Tells a l r l'
  pub output : out' ≡ left

-- a genotype reader also lays the list over slices that held n, m and p where it is done
pub record TellsReading (a : Answer) (as' : List Allele) (n m p l : List ℕ) (r : ℕ) (n' m' p' l' : List ℕ) : Type 0 where
  pub told : Tells a l r l'
  pub numbers : n' ≡ laid a (numbers_of as') n
  pub missing : m' ≡ laid a (missing_of as') m
  pub phased : p' ≡ laid a (phased_of as') p
