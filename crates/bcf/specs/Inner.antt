-- What the private functions of this crate promise each other. Assumes nothing.
use Rattle.std.specs.Prelude.{ℕ, ◌≡◌, Bool, List, length, Result, Ok, Err}
use Rattle.std.proofs.Math.Option.{Option, some, none}
use Rattle.text.specs.Answer.{Answer}
use Rattle.text.specs.Over.{laid}
use Rattle.allele.specs.Row.{allele_of, row_of, is_sound, first_unsound, Parallel}
use Rattle.allele.specs.declared.allele.Allele.{Allele}
use Rattle.genotype.specs.Inner.{Room}
use Rattle.bcf.specs.Reading.{codes_in}
use Rattle.bcf.specs.Writing.{most_of, smallest, entries_answer, sized_answer, list_answer, vector_of}
use Rattle.bcf.specs.Paper.{write_paper}
use Rattle.bcf.specs.declared.width.Width.{Width}
use Rattle.bcf.specs.declared.write.Vector.{Vector}
use Rattle.bcf.specs.declared.write.WriteError.{WriteError}
use Rattle.bcf.specs.declared.write.WriteError.TheVariants as W

-- ---- reading

-- so many codes begin the entries, and the slices have room for them
pub record Fillable (w : Width) (es : List ℕ) (k : ℕ) (n m p : List ℕ) : Type 0 where
  pub count : k ≡ length (codes_in w es)
  pub room : Room k n m p

-- ---- writing

-- whatever the phasing
pub record TellsSound (number missing : ℕ) (r : Bool) : Type 0 where
  pub is : (phased : ℕ) → r ≡ is_sound (allele_of number missing phased)

-- 12, or the largest number
unfoldable pub judged_by : Option ℕ → ℕ → Result ℕ WriteError
judged_by (some k) most = Err (W.Bad k)
judged_by none most = Ok most

abbrev pub JudgesList : List Allele → Result ℕ WriteError → Type 0
JudgesList as' r = r ≡ judged_by (first_unsound 0 as') (most_of as')

-- and whatever the phasings
pub record JudgesRow (n m : List ℕ) (r : Result ℕ WriteError) : Type 0 where
  pub is : (p : List ℕ) → Parallel n m p → JudgesList (row_of n m p) r

-- at the start of an output, where the answer is done
pub record WritesBy (a : Answer) (vs l : List ℕ) (r : Result Vector WriteError) (l' : List ℕ) : Type 0 where
  pub answer : write_paper r ≡ a
  pub output : l' ≡ laid a vs l

abbrev pub WritesEntries : Width → ℕ → List Allele → List ℕ → Result Vector WriteError → List ℕ → Type 0
WritesEntries w k as' l r l' = WritesBy (entries_answer w k as' (length l)) (vector_of w k as') l r l'

abbrev pub WritesSized : ℕ → List Allele → List ℕ → Result Vector WriteError → List ℕ → Type 0
WritesSized k as' l r l' = WritesBy (sized_answer k as' (length l)) (vector_of (smallest as') k as') l r l'

abbrev pub WritesList : ℕ → List Allele → List ℕ → Result Vector WriteError → List ℕ → Type 0
WritesList k as' l r l' = WritesBy (list_answer k as' (length l)) (vector_of (smallest as') k as') l r l'
