-- What demand 3 asks of any genotype reader, and what is asked of any checked reader, as functions on lists (docs/RULES.md,
-- "Genotypes"; docs/STATEMENTS.md). Assumes nothing.
use Rattle.std.specs.Prelude.{ℕ, ◌≤◌, ◌<◌, ◌≡◌, true, ◌↔◌, List, [], ◌∷◌, length, get_or}
use Rattle.text.specs.Answer.{Answer, says, number_of}
use Rattle.text.specs.Over.{over}
use Rattle.text.specs.First.{FirstOf}
use Rattle.decimal.specs.Demands.{FaultAt}
use Rattle.lists.specs.AlternateBases.{alt_count}
use Rattle.allele.specs.Reading.{reading_of}
use Rattle.allele.specs.Row.{row_of, Parallel}
use Rattle.allele.specs.Means.{Means, Broken}
use Rattle.allele.specs.declared.allele.Allele.{Allele}
use Rattle.genotype.specs.Paper.{Read, read_paper}
use Rattle.genotype.specs.Answers.{text_answer, row_read, checked_answer, row_within, ReadsText, ReadsChecked}

-- ---- readers

-- a reader is given a text and a row, and answers on paper and leaves a row
pub record Outcome : Type 0 where
  pub answer : Answer
  pub row : List Allele

abbrev pub Reader : Type 0
Reader = List ℕ → List Allele → Outcome

-- ours, over the definitions
unfoldable pub reader : Reader
reader t row =
    record {
      answer = text_answer t (length row);
      row = row_read t row;
    }

-- the answer 0 stands for this list and for no other, and the row holds it
pub record Stands (t : List ℕ) (row : List Allele) (o : Outcome) : Type 0 where
  pub list : List Allele
  pub means : Means t list
  pub only : (as' : List Allele) → Means t as' → as' ≡ list
  pub count : o.answer ≡ says 0 (length list ∷ [])
  pub holds : o.row ≡ over list row

-- for a row that every list meant fits: refused exactly when the text means none; otherwise one, which the row holds
pub record ExactAt (t : List ℕ) (row : List Allele) (o : Outcome) : Type 0 where
  pub refused : (number_of o.answer ≡ 0 → ⊥) ↔ ((as' : List Allele) → Means t as' → ⊥)
  pub one : number_of o.answer ≡ 0 → Stands t row o

unfoldable pub Exact : Reader → Type 0
Exact read = (t : List ℕ) (row : List Allele) → ((as' : List Allele) → Means t as' → length as' ≤ length row) → ExactAt t row (read t row)

-- a refusal leaves the row as it was
unfoldable pub Untouched : Reader → Type 0
Untouched read = (t : List ℕ) (row : List Allele) → (number_of (read t row).answer ≡ 0 → ⊥) → (read t row).row ≡ row

-- the text means a list that is longer than the row
pub record Longer (t : List ℕ) (row : List Allele) : Type 0 where
  pub list : List Allele
  pub means : Means t list
  pub longer : length row < length list

-- 11 exactly for the empty text; 12, with its index and the place of its fault, exactly for the first piece that is no allele; 17
-- exactly for too long a list
pub record RefusedAt (t : List ℕ) (row : List Allele) (a : Answer) : Type 0 where
  pub empty : (a ≡ says 11 []) ↔ (t ≡ [])
  pub broken : (k o : ℕ) → (a ≡ says 12 (k ∷ o ∷ [])) ↔ Broken t k o
  pub short : (a ≡ says 17 []) ↔ Longer t row

unfoldable pub Refusals : Reader → Type 0
Refusals read = (t : List ℕ) (row : List Allele) → RefusedAt t row (read t row).answer

-- the text means some list
pub record Meant (t : List ℕ) : Type 0 where
  pub list : List Allele
  pub means : Means t list

-- a byte at fault that is no `.` is the text's first fault: the bytes before it begin a text that means a list, and with it they begin
-- none. (A `.` that bytes follow up to the next mark is at fault, though alone it would be an allele.)
unfoldable pub Blames : Reader → Type 0
Blames read = (t : List ℕ) (row : List Allele) (k o : ℕ) → (read t row).answer ≡ says 12 (k ∷ o ∷ []) → (get_or t o 0 ≡ 46 → ⊥) → FaultAt Meant t o

pub record Meets (read : Reader) : Type 0 where
  pub exact : Exact read
  pub refusals : Refusals read
  pub untouched : Untouched read

-- two readers that meet these three give one answer and leave one row, for every text and row
unfoldable pub OneReader : Type 0
OneReader = (read other : Reader) → Meets read → Meets other → (t : List ℕ) (row : List Allele) → read t row ≡ other t row

-- ---- readers that are checked against a count, whatever the rule that counts

-- ours, over the definitions
unfoldable pub checked_reader : ℕ → Reader
checked_reader count t row =
    record {
      answer = checked_answer count t (reading_of t) (length row);
      row = row_within count t row;
    }

-- the numbers of a list are all at most the count
pub record AtMost (count : ℕ) (as' : List Allele) : Type 0 where
  pub each : (i : ℕ) → i < length as' → (get_or as' i (record { number = 0; missing = true; phased = true })).number ≤ count

-- the index of the first that is larger
abbrev pub FirstAbove : ℕ → List Allele → ℕ → Type 0
FirstAbove count as' k = FirstOf (λ (a : Allele). count < a.number) as' k

-- the text means a list of the one kind, or of the other
pub record MeansAtMost (count : ℕ) (t : List ℕ) : Type 0 where
  pub list : List Allele
  pub means : Means t list
  pub all : AtMost count list

pub record MeansAbove (count : ℕ) (t : List ℕ) (k : ℕ) : Type 0 where
  pub list : List Allele
  pub means : Means t list
  pub first : FirstAbove count list k

-- an accepted text means a list whose numbers are all at most the count; a text that means a list with a larger one, and no other, is
-- refused with 20 at the first such, whatever the room
pub record Checked (count : ℕ) (read : Reader) : Type 0 where
  pub accepted : (t : List ℕ) (row : List Allele) → number_of (read t row).answer ≡ 0 → MeansAtMost count t
  pub above : (t : List ℕ) (row : List Allele) (k : ℕ) → ((read t row).answer ≡ says 20 (k ∷ [])) ↔ MeansAbove count t k

-- where no number is larger, it does as any plain reader; and a refusal leaves the row as it was
pub record MeetsChecked (count : ℕ) (read : Reader) : Type 0 where
  pub checked : Checked count read
  pub plain : (other : Reader) → Meets other → (t : List ℕ) (row : List Allele) → ((k : ℕ) → MeansAbove count t k → ⊥) → read t row ≡ other t row
  pub untouched : Untouched read

-- two that meet these with one count give one answer and leave one row, for every text and row
unfoldable pub OneChecked : Type 0
OneChecked = (count : ℕ) (read other : Reader) → MeetsChecked count read → MeetsChecked count other → (t : List ℕ) (row : List Allele) → read t row ≡ other t row

-- ---- the readers over slices

-- given slices of one length, `read_genotype` answers as the reader does and leaves slices that stand for the row that it leaves
unfoldable pub SlicesReader : Type 0
SlicesReader = (t n m p : List ℕ) (r : Read) (n' m' p' : List ℕ) → Parallel n m p → ReadsText t n m p r n' m' p'
    → (read_paper r ≡ (reader t (row_of n m p)).answer) × (row_of n' m' p' ≡ (reader t (row_of n m p)).row)

-- and `read_checked` as the checked reader does, with the count of the ALT column that it is lent
unfoldable pub SlicesChecked : Type 0
SlicesChecked = (t alt n m p : List ℕ) (r : Read) (n' m' p' : List ℕ) → Parallel n m p → ReadsChecked t alt n m p r n' m' p'
    → (read_paper r ≡ (checked_reader (alt_count alt) t (row_of n m p)).answer) × (row_of n' m' p' ≡ (checked_reader (alt_count alt) t (row_of n m p)).row)
