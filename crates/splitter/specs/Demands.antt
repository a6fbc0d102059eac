-- What is asked of a second reader of lines beside the first (docs/RULES.md, "A line"; docs/STATEMENTS.md). Assumes nothing.
use Rattle.std.specs.Prelude.{ℕ, ◌≡◌, List, Ok, Err}
use Rattle.text.specs.Answer.{number_of}
use Rattle.record.specs.Place.{range_of}
use Rattle.record.specs.declared.place.Record.{Record}
use Rattle.record.specs.declared.place.Name.{Name}
use Rattle.line.specs.Paper.{Read, read_paper}
use Rattle.line.specs.Promises.{ReadsLine, KeepsNumbers}
use Rattle.line.specs.Demands.{Reader, Meets}
use Rattle.line.specs.declared.read.Refusal.TheVariants as R

-- a function of an input and a place whose answers are of the line reader's type
abbrev pub Splitter : Type 0
Splitter = List ℕ → ℕ → Read

-- it meets the line reader's contract
pub record Contract (read : Splitter) : Type 0 where
  pub reads : (s : List ℕ) (at : ℕ) → ReadsLine s at (read s at)
  pub keeps : (s : List ℕ) (at : ℕ) → KeepsNumbers (read s at)

-- ---- alike

abbrev pub next_of : Read → ℕ
next_of (Ok (r, next)) = next
next_of (Err (R.End next)) = next
next_of (Err (R.Empty next)) = next
next_of (Err (R.Fed next)) = next
next_of (Err (R.Cut next)) = next
next_of (Err (R.NotUtf8 next)) = next
next_of (Err (R.Beyond next)) = next

-- two lines have one ending, and one place for each column
pub record SameLine (r q : Record) : Type 0 where
  pub ending : r.ending ≡ q.ending
  pub columns : (name : Name) → range_of r name ≡ range_of q name

-- two answers have one number and one next place, and, where they are lines, one ending and one place for each column; in all they are one
pub record Alike (one other : Read) : Type 0 where
  pub number : number_of (read_paper one) ≡ number_of (read_paper other)
  pub next : next_of one ≡ next_of other
  pub lines : (r q : Record) (m n : ℕ) → one ≡ Ok (r, m) → other ≡ Ok (q, n) → SameLine r q
  pub same : one ≡ other

-- so answer any two that meet the contract, to every input and place
unfoldable pub OneSplitter : Type 0
OneSplitter = (one other : Splitter) → Contract one → Contract other → (s : List ℕ) (at : ℕ) → Alike (one s at) (other s at)

-- ---- by the line reader's statements

abbrev pub on_paper : Splitter → Reader
on_paper read s at = read_paper (read s at)

-- one that meets the contract meets them
unfoldable pub MeetsThem : Type 0
MeetsThem = (read : Splitter) → Contract read → Meets (on_paper read)

-- and any two that meet them, each record with the numbers of its places, answer alike: no definition is asked
unfoldable pub OneByThem : Type 0
OneByThem =
    (one other : Splitter) → Meets (on_paper one) → Meets (on_paper other)
    → ((s : List ℕ) (at : ℕ) → KeepsNumbers (one s at)) → ((s : List ℕ) (at : ℕ) → KeepsNumbers (other s at))
    → (s : List ℕ) (at : ℕ) → Alike (one s at) (other s at)
