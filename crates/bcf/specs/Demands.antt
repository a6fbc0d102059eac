-- What is asked of the layout over any width, and of any reader and writer of vectors, as functions on lists (docs/RULES.md, "Genotypes in
-- BCF"; docs/STATEMENTS.md). Assumes nothing.
use Rattle.std.specs.Prelude.{ℕ, ◌+◌, ◌*◌, ◌≤◌, ◌<◌, ◌≡◌, ◌↔◌, List, [], ◌∷◌, length, get_or, take, drop, Result}
use Rattle.std.proofs.Math.Option as O
use Rattle.std.proofs.Math.Option.{Option}
use Rattle.text.specs.Answer.{Answer, says, number_of}
use Rattle.text.specs.Over.{over, over_at, laid, laid_at}
use Rattle.text.specs.Outcome as T
use Rattle.allele.specs.Means.{Means}
use Rattle.allele.specs.Row.{row_of, Parallel}
use Rattle.allele.specs.declared.allele.Allele.{Allele}
use Rattle.genotype.specs.Demands.{Outcome, Reader, Untouched, AtMost}
use Rattle.spelling.specs.Demands as S
use Rattle.spelling.specs.Demands.{Unsound}
use Rattle.bcf.specs.Layout.{size, padding, largest, bytes_of, Lays}
use Rattle.bcf.specs.Reading.{negative, entries_in, list_read, vector_answer, width_by, ReadsTold}
use Rattle.bcf.specs.Writing.{vector_of, smallest, placed_answer, WritesVector}
use Rattle.bcf.specs.Paper.{read_paper, write_paper}
use Rattle.bcf.specs.declared.width.Width.{Width}
use Rattle.bcf.specs.declared.width.Width.TheVariants.{W32}
use Rattle.bcf.specs.declared.read.ReadError.{ReadError}
use Rattle.bcf.specs.declared.write.Vector.{Vector}
use Rattle.bcf.specs.declared.write.WriteError.{WriteError}

-- ---- the layout

-- a vector lays out one list, by one number of entries
unfoldable pub OneList : Type 0
OneList = (w : Width) (as' bs : List Allele) (m n : ℕ) (v : List ℕ) → Lays w as' m v → Lays w bs n v → (as' ≡ bs) × (m ≡ n)

-- a list has one vector of a length, which has so many bytes
unfoldable pub OneVector : Type 0
OneVector = (w : Width) (as' : List Allele) (n : ℕ) (u v : List ℕ) → Lays w as' n u → Lays w as' n v → (u ≡ v) × (length u ≡ n * size w)

-- a list with a vector of a length: it is not empty and not longer, what is missing in it has the number 0, and no number is above the largest
pub record HasVector (w : Width) (as' : List Allele) (n : ℕ) : Type 0 where
  pub some : 0 < length as'
  pub sound : (k : ℕ) → Unsound as' k → ⊥
  pub small : AtMost (largest w) as'
  pub few : length as' ≤ n

-- exactly such a list has one
unfoldable pub Vectors : Type 0
Vectors = (w : Width) (as' : List Allele) (n : ℕ) → ((v : List ℕ) × Lays w as' n v) ↔ HasVector w as' n

-- a list with a vector has one of that length in every wider width too
unfoldable pub Wider : Type 0
Wider = (u w : Width) (as' : List Allele) (n : ℕ) (v : List ℕ) → size u ≤ size w → Lays u as' n v → (x : List ℕ) × Lays w as' n x

-- each is a byte
pub record Bytes (s : List ℕ) : Type 0 where
  pub each : (i : ℕ) → i < length s → get_or s i 0 < 256

-- bytes that are a whole number of entries are those of their entries
unfoldable pub Whole : Type 0
Whole = (w : Width) (n : ℕ) (v : List ℕ) → Bytes v → length v ≡ n * size w → bytes_of w (entries_in w v) ≡ v

-- entries that are no vector: no entry, or padding alone; a negative value other than the padding; something else behind padding
pub data Faulty (w : Width) (es : List ℕ) : Type 0 where
  no_code : ((i : ℕ) → i < length es → get_or es i 0 ≡ padding w) → Faulty w es
  below_zero : (i : ℕ) → i < length es → negative w ≤ get_or es i 0 → (get_or es i 0 ≡ padding w → ⊥) → Faulty w es
  behind : (i j : ℕ) → i < j → j < length es → get_or es i 0 ≡ padding w → (get_or es j 0 ≡ padding w → ⊥) → Faulty w es

-- bytes that are no vector: they are no whole number of entries, or their entries are none
pub data Broken (w : Width) (v : List ℕ) : Type 0 where
  left_over : ((n : ℕ) → length v ≡ n * size w → ⊥) → Broken w v
  faulty : (n : ℕ) → length v ≡ n * size w → Faulty w (entries_in w v) → Broken w v

-- exactly such bytes lay out no list
unfoldable pub Faults : Type 0
Faults = (w : Width) (v : List ℕ) → Bytes v → Broken w v ↔ ((as' : List Allele) (n : ℕ) → Lays w as' n v → ⊥)

-- no smaller width has a vector of the list, of that length
unfoldable pub Least : Width → List Allele → ℕ → Type 0
Least w as' n = (u : Width) (v : List ℕ) → Lays u as' n v → size w ≤ size u

-- ---- readers

-- ours, over the definitions
unfoldable pub reader : Width → Reader
reader w v row =
    record {
      answer = vector_answer w v (length row);
      row = laid (vector_answer w v (length row)) (list_read w v) row;
    }

-- what was read: the list that the bytes lay out, and no other; its length is the answer, and the row holds it
pub record WasRead (w : Width) (v : List ℕ) (row : List Allele) (o : Outcome) : Type 0 where
  pub list : List Allele
  pub entries : ℕ
  pub lays : Lays w list entries v
  pub only : (as' : List Allele) (n : ℕ) → Lays w as' n v → as' ≡ list
  pub count : o.answer ≡ says 0 (length list ∷ [])
  pub holds : o.row ≡ over list row

-- 26 where the bytes lay out no list; 17 where they lay out one that is longer than the row
pub data NotRead (w : Width) (v : List ℕ) (row : List Allele) : Answer → Type 0 where
  bad : ((as' : List Allele) (n : ℕ) → Lays w as' n v → ⊥) → NotRead w v row (says 26 [])
  short : {as' : List Allele} {n : ℕ} → Lays w as' n v → length row < length as' → NotRead w v row (says 17 [])

-- read are exactly the vectors that lay out a list; an answer other than 0 is given exactly where it is due, and leaves the row as it was
pub record MeetsReading (w : Width) (read : Reader) : Type 0 where
  pub reads : (v : List ℕ) (row : List Allele) → number_of (read v row).answer ≡ 0 → WasRead w v row (read v row)
  pub refusals : (v : List ℕ) (row : List Allele) (a : Answer) → (number_of a ≡ 0 → ⊥) → ((read v row).answer ≡ a) ↔ NotRead w v row a
  pub untouched : Untouched read

-- two readers that meet these give one answer and leave one row, for all bytes and every row
unfoldable pub OneReader : Type 0
OneReader = (w : Width) (read other : Reader) → MeetsReading w read → MeetsReading w other → (v : List ℕ) (row : List Allele) → read v row ≡ other v row

-- ---- readers that are told the width

abbrev pub Told : Type 0
Told = ℕ → Reader

-- ours, over the definitions
unfoldable pub told_by : Option Width → Reader
told_by O.none v row = record { answer = says 27 []; row = row }
told_by (O.some w) v row = reader w v row

unfoldable pub told : Told
told b = told_by (width_by b)

-- told how many bytes an entry of some width has, it reads by that width; told another number, it answers 27 and leaves the row as it was
pub record MeetsTold (read : Told) : Type 0 where
  pub known : (w : Width) → MeetsReading w (read (size w))
  pub unknown : (b : ℕ) → ((w : Width) → b ≡ size w → ⊥) → (v : List ℕ) (row : List Allele) → read b v row ≡ record { answer = says 27 []; row = row }

-- two that meet these give one answer and leave one row, whatever they are told
unfoldable pub OneTold : Type 0
OneTold = (read other : Told) → MeetsTold read → MeetsTold other → (b : ℕ) (v : List ℕ) (row : List Allele) → read b v row ≡ other b v row

-- ---- writers

-- a writer is given a length in entries, a list, an output and a place in it
abbrev pub Writer : Type 0
Writer = ℕ → List Allele → List ℕ → ℕ → T.Outcome

-- ours, over the definitions
unfoldable pub writer : Writer
writer n as' out at =
    record {
      answer = placed_answer n as' out at;
      output = laid_at (placed_answer n as' out at) at (vector_of (smallest as') n as') out;
    }

-- what was written: the vector of that length that lays out the list, of the smallest width; its width and its bytes are told, and it lies
-- over the output from the place on
pub record WasWritten (n : ℕ) (as' : List Allele) (out : List ℕ) (at : ℕ) (o : T.Outcome) : Type 0 where
  pub width : Width
  pub vector : List ℕ
  pub lays : Lays width as' n vector
  pub least : Least width as' n
  pub count : o.answer ≡ says 0 (size width ∷ length vector ∷ [])
  pub fits : at + length vector ≤ length out
  pub bytes : o.output ≡ over_at at vector out

-- a list that has no vector of that length in any width: 11 where it is empty; 12 with the index of the first allele that is missing and has
-- a number other than 0; 24 where there is none, and an allele is above the largest of the widest; 25 where there is neither, and it is
-- longer than the vector
pub data NoVector (n : ℕ) : List Allele → Answer → Type 0 where
  empty : NoVector n [] (says 11 [])
  bad : {as' : List Allele} {k : ℕ} → Unsound as' k → NoVector n as' (says 12 (k ∷ []))
  large : {as' : List Allele} → ((k : ℕ) → Unsound as' k → ⊥) → (AtMost (largest W32) as' → ⊥) → NoVector n as' (says 24 [])
  long : {as' : List Allele} → ((k : ℕ) → Unsound as' k → ⊥) → AtMost (largest W32) as' → n < length as' → NoVector n as' (says 25 [])

-- 6 beyond the output; else by the list; else 17, where its vector of the smallest width does not fit
pub data NotWritten (n : ℕ) (as' : List Allele) (out : List ℕ) (at : ℕ) : Answer → Type 0 where
  beyond : length out < at → NotWritten n as' out at (says 6 [])
  none : {a : Answer} → at ≤ length out → NoVector n as' a → NotWritten n as' out at a
  short : {w : Width} {v : List ℕ} → at ≤ length out → Lays w as' n v → Least w as' n → length out < at + length v → NotWritten n as' out at (says 17 [])

-- written are exactly the lists that have a vector of that length; an answer other than 0 is given exactly where it is due, and leaves the
-- output as it was
pub record MeetsWriting (write : Writer) : Type 0 where
  pub writes : (n : ℕ) (as' : List Allele) (out : List ℕ) (at : ℕ) → number_of (write n as' out at).answer ≡ 0 → WasWritten n as' out at (write n as' out at)
  pub refusals : (n : ℕ) (as' : List Allele) (out : List ℕ) (at : ℕ) (a : Answer) → (number_of a ≡ 0 → ⊥)
      → ((write n as' out at).answer ≡ a) ↔ NotWritten n as' out at a
  pub untouched : (n : ℕ) (as' : List Allele) (out : List ℕ) (at : ℕ) → (number_of (write n as' out at).answer ≡ 0 → ⊥) → (write n as' out at).output ≡ out

-- two writers that meet these give one answer and leave one output, for every length, list, output and place
unfoldable pub OneWriter : Type 0
OneWriter = (write other : Writer) → MeetsWriting write → MeetsWriting other
    → (n : ℕ) (as' : List Allele) (out : List ℕ) (at : ℕ) → write n as' out at ≡ other n as' out at

-- ---- any two that are so are each other's way back

-- with a row long enough, reading is refused exactly where the bytes lay out no list
unfoldable pub ExactReading : Told → Type 0
ExactReading read = (w : Width) (v : List ℕ) (row : List Allele) → ((as' : List Allele) (n : ℕ) → Lays w as' n v → length as' ≤ length row)
    → (number_of (read (size w) v row).answer ≡ 0 → ⊥) ↔ ((as' : List Allele) (n : ℕ) → Lays w as' n v → ⊥)

-- with room for the vector of the smallest width, if there is one, writing is refused exactly where the list has none of that length
unfoldable pub ExactWriting : Writer → Type 0
ExactWriting write = (n : ℕ) (as' : List Allele) (out : List ℕ) (at : ℕ) → at ≤ length out
    → ((w : Width) (v : List ℕ) → Lays w as' n v → Least w as' n → at + length v ≤ length out)
    → (number_of (write n as' out at).answer ≡ 0 → ⊥) ↔ ((w : Width) (v : List ℕ) → Lays w as' n v → ⊥)

-- what was written, k bytes from the place on, is read at the width answered as the list, with every phasing
unfoldable pub WrittenRead : Told → Writer → Type 0
WrittenRead read write = (n : ℕ) (as' : List Allele) (out : List ℕ) (at b k : ℕ) (row : List Allele) → (write n as' out at).answer ≡ says 0 (b ∷ k ∷ [])
    → length as' ≤ length row
    → read b (take k (drop at (write n as' out at).output)) row ≡ record { answer = says 0 (length as' ∷ []); row = over as' row }

-- a list that v lays out at a width, written anew: as the same bytes exactly where that width is the smallest for it, else as fewer bytes that
-- lay out the same list
pub record Rewritten (w : Width) (v : List ℕ) (n : ℕ) (as' : List Allele) (out : List ℕ) (at : ℕ) (o : T.Outcome) : Type 0 where
  pub width : Width
  pub vector : List ℕ
  pub count : o.answer ≡ says 0 (size width ∷ length vector ∷ [])
  pub bytes : o.output ≡ over_at at vector out
  pub lays : Lays width as' n vector
  pub least : Least width as' n
  pub same : (vector ≡ v) ↔ Least w as' n
  pub fewer : (Least w as' n → ⊥) → length vector < length v

-- what was read, c alleles at the row's start, is written so at the same length
unfoldable pub ReadWritten : Told → Writer → Type 0
ReadWritten read write = (w : Width) (v : List ℕ) (row : List Allele) (c n : ℕ) (out : List ℕ) (at : ℕ) → (read (size w) v row).answer ≡ says 0 (c ∷ [])
    → length v ≡ n * size w → at + length v ≤ length out
    → Rewritten w v n (take c (read (size w) v row).row) out at (write n (take c (read (size w) v row).row) out at)

-- all four follow, of any reader and writer
pub record RoundTrips (read : Told) (write : Writer) : Type 0 where
  pub exact_reading : ExactReading read
  pub exact_writing : ExactWriting write
  pub written_read : WrittenRead read write
  pub read_written : ReadWritten read write

unfoldable pub Follow : Type 0
Follow = (read : Told) (write : Writer) → MeetsTold read → MeetsWriting write → RoundTrips read write

-- ---- text and BCF agree

-- c alleles were read, and written as k bytes, which mean what the text does
pub record Agrees (t : List ℕ) (read : Outcome) (write : List Allele → T.Outcome) (at : ℕ) : Type 0 where
  pub c : ℕ
  pub was_read : read.answer ≡ says 0 (c ∷ [])
  pub k : ℕ
  pub was_written : (write (take c read.row)).answer ≡ says 0 (k ∷ [])
  pub means : (as' : List Allele) → Means t as' ↔ Means (take k (drop at (write (take c read.row)).output)) as'

-- where a text means a list, its vector, read into a row long enough and then written as text at 4.4 with room for the shortest spelling,
-- means the same list
unfoldable pub TextAgrees : Type 0
TextAgrees = (w : Width) (read : Reader) (write : S.Writer) → MeetsReading w read → S.Meets write
    → (t : List ℕ) (as' : List Allele) (n : ℕ) (v : List ℕ) → Means t as' → Lays w as' n v
    → (row : List Allele) (out : List ℕ) (at : ℕ) → length as' ≤ length row → at ≤ length out → ((u : List ℕ) → S.Shortest 4 4 as' u → at + length u ≤ length out)
    → Agrees t (read v row) (λ bs. write 4 4 bs out at) at

-- ---- the functions over slices

-- given slices of one length, `read_vector` answers as the reader does and leaves slices that stand for the row that it leaves
unfoldable pub SlicesReader : Type 0
SlicesReader = (b : ℕ) (v n m p : List ℕ) (r : Result ℕ ReadError) (n' m' p' : List ℕ) → Parallel n m p → ReadsTold b v n m p r n' m' p'
    → (read_paper r ≡ (told b v (row_of n m p)).answer) × (row_of n' m' p' ≡ (told b v (row_of n m p)).row)

-- and `write_vector` answers and leaves what the writer does with the list that they stand for
unfoldable pub SlicesWriter : Type 0
SlicesWriter = (n m p : List ℕ) (k : ℕ) (out : List ℕ) (at : ℕ) (r : Result Vector WriteError) (out' : List ℕ) → Parallel n m p → WritesVector n m p k out at r out'
    → (write_paper r ≡ (writer k (row_of n m p) out at).answer) × (out' ≡ (writer k (row_of n m p) out at).output)

-- slices of unequal lengths stand for no row: 27 where no width has so many bytes, else 16, and they are left as they were
pub record UnevenRead (b : ℕ) (n m p : List ℕ) (r : Result ℕ ReadError) (n' m' p' : List ℕ) : Type 0 where
  pub unknown : ((w : Width) → b ≡ size w → ⊥) → read_paper r ≡ says 27 []
  pub known : (w : Width) → b ≡ size w → read_paper r ≡ says 16 []
  pub numbers : n' ≡ n
  pub missing : m' ≡ m
  pub phased : p' ≡ p

unfoldable pub UnevenReader : Type 0
UnevenReader = (b : ℕ) (v n m p : List ℕ) (r : Result ℕ ReadError) (n' m' p' : List ℕ) → (Parallel n m p → ⊥) → ReadsTold b v n m p r n' m' p' → UnevenRead b n m p r n' m' p'

-- and for no list: 6 beyond the output, else 16, and it is left as it was
pub record UnevenWritten (out : List ℕ) (at : ℕ) (r : Result Vector WriteError) (out' : List ℕ) : Type 0 where
  pub beyond : length out < at → write_paper r ≡ says 6 []
  pub lengths : at ≤ length out → write_paper r ≡ says 16 []
  pub output : out' ≡ out

unfoldable pub UnevenWriter : Type 0
UnevenWriter = (n m p : List ℕ) (k : ℕ) (out : List ℕ) (at : ℕ) (r : Result Vector WriteError) (out' : List ℕ) → (Parallel n m p → ⊥) → WritesVector n m p k out at r out'
    → UnevenWritten out at r out'
