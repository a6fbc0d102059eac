-- What is asked of any joiner, as a function on lists, and of any joiner and line reader together (docs/RULES.md, "Joining", "One list, one
-- spelling"; docs/STATEMENTS.md). Assumes nothing.
use Rattle.std.specs.Prelude.{ℕ, ◌+◌, ◌-◌, ◌<◌, ◌≤◌, ◌≡◌, true, false, ◌↔◌, List, [], ◌∷◌, ◌++◌, length, get_or, take, drop, Result, Ok}
use Rattle.text.specs.Answer.{Answer, says, number_of, values_of}
use Rattle.text.specs.Bytes.{ends_in}
use Rattle.text.specs.Outcome.{Outcome, laid_over, HasWritten}
use Rattle.text.specs.Over.{laid_at, over_at}
use Rattle.text.specs.Place.{placed}
use Rattle.text.specs.Utf8.{is_utf8}
use Rattle.entries.specs.Entries.{rising, entry_list}
use Rattle.record.specs.Ending.{Ending, nothing, feed}
use Rattle.record.specs.Paper.{ending_of}
use Rattle.record.specs.declared.place.Record.{Record}
use Rattle.line.specs.Paper.{Read, read_paper}
use Rattle.line.specs.Promises.{ReadsLine}
use Rattle.line.specs.Demands as Line
use Rattle.line.specs.Demands.{MayEnd, Column, Begins, Reader, Stands}
use Rattle.join.specs.Join.{line_text, columns_answer, JoinsAt}
use Rattle.join.specs.Paper.{joined_paper}
use Rattle.join.specs.declared.columns.JoinError.{JoinError}

-- a joiner is given columns, an ending, an output and a place in it
abbrev pub Joiner : Type 0
Joiner = List (List ℕ) → Ending → List ℕ → ℕ → Outcome

-- ours, over the definitions
unfoldable pub joiner : Joiner
joiner cs e out at =
    record {
      answer = placed at out (columns_answer cs e (drop at out));
      output = laid_at (placed at out (columns_answer cs e (drop at out))) at (line_text cs e) out;
    }

-- t is a line with these columns and this ending, and nothing behind it
abbrev pub IsLine : List (List ℕ) → Ending → List ℕ → Type 0
IsLine cs e t = Begins t cs e []

-- ---- what is written

-- what is written is the line, and lies over the output from the place on
pub record Written (cs : List (List ℕ)) (e : Ending) (out : List ℕ) (at : ℕ) (o : Outcome) : Type 0 where
  pub text : List ℕ
  pub line : IsLine cs e text
  pub count : o.answer ≡ says 0 (length text ∷ [])
  pub fits : at + length text ≤ length out
  pub bytes : o.output ≡ over_at at text out

unfoldable pub WritesLine : Joiner → Type 0
WritesLine join = (cs : List (List ℕ)) (e : Ending) (out : List ℕ) (at : ℕ) → number_of (join cs e out at).answer ≡ 0 → Written cs e out at (join cs e out at)

-- ---- what is refused

-- column k is none; or it is the last, ends in CR, and the ending is LF
pub data Bad (cs : List (List ℕ)) (e : Ending) (k : ℕ) : Type 0 where
  no_column : (Column (get_or cs k []) → ⊥) → Bad cs e k
  lost : k + 1 ≡ length cs → ends_in 13 (get_or cs k []) ≡ true → e ≡ feed → Bad cs e k

-- the number that refuses column k: 18 where it is bad, else 5 where it is not UTF-8
pub data Fault (cs : List (List ℕ)) (e : Ending) (k : ℕ) : ℕ → Type 0 where
  bad : Bad cs e k → Fault cs e k 18
  broken : (Bad cs e k → ⊥) → is_utf8 (get_or cs k []) ≡ false → Fault cs e k 5

-- the first column with a fault
pub record FirstFault (cs : List (List ℕ)) (e : Ending) (k number : ℕ) : Type 0 where
  pub within : k < length cs
  pub here : Fault cs e k number
  pub before : (j n : ℕ) → j < k → Fault cs e j n → ⊥

-- 6 beyond the output; else 19 for fewer than eight columns, or nine; else the first fault, with the column's index; else 17, where the
-- line does not fit
pub data Refused (cs : List (List ℕ)) (e : Ending) (out : List ℕ) (at : ℕ) : Answer → Type 0 where
  beyond : length out < at → Refused cs e out at (says 6 [])
  few : at ≤ length out → (MayEnd (length cs) → ⊥) → Refused cs e out at (says 19 [])
  fault : {k number : ℕ} → at ≤ length out → MayEnd (length cs) → FirstFault cs e k number → Refused cs e out at (says number (k ∷ []))
  short : {t : List ℕ} → at ≤ length out → IsLine cs e t → length out < at + length t → Refused cs e out at (says 17 [])

-- an answer other than 0 is given exactly where it is due, with the values that it carries
unfoldable pub Refusals : Joiner → Type 0
Refusals join = (cs : List (List ℕ)) (e : Ending) (out : List ℕ) (at : ℕ) (a : Answer) → (number_of a ≡ 0 → ⊥)
    → ((join cs e out at).answer ≡ a) ↔ Refused cs e out at a

-- a refusal leaves the output as it was
unfoldable pub Untouched : Joiner → Type 0
Untouched join = (cs : List (List ℕ)) (e : Ending) (out : List ℕ) (at : ℕ) → (number_of (join cs e out at).answer ≡ 0 → ⊥) → (join cs e out at).output ≡ out

-- ---- all of it

pub record Meets (join : Joiner) : Type 0 where
  pub writes_line : WritesLine join
  pub refusals : Refusals join
  pub untouched : Untouched join

-- two joiners that meet these three give one answer, with all its values, and leave one output, for all columns, endings, outputs and
-- places
unfoldable pub OneJoiner : Type 0
OneJoiner = (join other : Joiner) → Meets join → Meets other → (cs : List (List ℕ)) (e : Ending) (out : List ℕ) (at : ℕ) → join cs e out at ≡ other cs e out at

-- ---- what follows, of any joiner and any line reader that meet their statements

-- with room for the line, if there is one, joining is refused exactly when no line with that ending has these columns
unfoldable pub Exact : Joiner → Type 0
Exact join = (cs : List (List ℕ)) (e : Ending) (out : List ℕ) (at : ℕ) → at ≤ length out → ((t : List ℕ) → IsLine cs e t → at + length t ≤ length out)
    → (number_of (join cs e out at).answer ≡ 0 → ⊥) ↔ ((s rest : List ℕ) → Begins s cs e rest → ⊥)

-- an answer from a place of a buffer has read these columns, this ending and this rest
pub record HasRead (s : List ℕ) (at : ℕ) (a : Answer) (cs : List (List ℕ)) (e : Ending) (rest : List ℕ) : Type 0 where
  pub accepted : number_of a ≡ 0
  pub stands : Stands s at a
  pub columns : stands.columns ≡ cs
  pub ending : stands.ending ≡ e
  pub left : stands.rest ≡ rest

-- what is joined with an ending, followed by any rest, wherever it stands in a buffer, is read as those columns, that ending and that
-- rest; for the ending nothing there is no rest
unfoldable pub Back : Reader → Joiner → Type 0
Back read join = (cs : List (List ℕ)) (e : Ending) (out : List ℕ) (at n : ℕ) → (join cs e out at).answer ≡ says 0 (n ∷ [])
    → (s : List ℕ) (p : ℕ) (rest : List ℕ) → drop p s ≡ take n (drop at (join cs e out at).output) ++ rest → (e ≡ nothing → rest ≡ [])
    → HasRead s p (read s p) cs e rest

-- a line that was read, its columns joined with its ending, with room, gives exactly the bytes from the place to the next place
unfoldable pub Forth : Reader → Joiner → Type 0
Forth read join = (s : List ℕ) (at : ℕ) → number_of (read s at) ≡ 0 → (a : Stands s at (read s at)) (next : ℕ) (others : List ℕ) → values_of (read s at) ≡ next ∷ others
    → (out : List ℕ) (p : ℕ) → p + (next - at) ≤ length out
    → join a.columns a.ending out p ≡ record { answer = says 0 ((next - at) ∷ []); output = over_at p (take (next - at) (drop at s)) out }

unfoldable pub Follow : Type 0
Follow = (read : Reader) (join : Joiner) → Line.Meets read → Meets join → Exact join × Back read join × Forth read join

-- ---- one line, one spelling

-- two lists of columns that are joined give the same bytes exactly where they, and the endings, are equal
unfoldable pub OneSpelling : Joiner → Type 0
OneSpelling join = (cs : List (List ℕ)) (e : Ending) (out : List ℕ) (at : ℕ) (t : List ℕ) (ds : List (List ℕ)) (f : Ending) (out₂ : List ℕ) (at₂ : ℕ) (u : List ℕ)
    → HasWritten (join cs e out at) at t → HasWritten (join ds f out₂ at₂) at₂ u → (t ≡ u) ↔ ((cs ≡ ds) × (e ≡ f))

-- the bytes t of columns and an ending are read as these where they stand, and joined again, with room, are t
pub record Settled (read : Reader) (join : Joiner) (cs : List (List ℕ)) (e : Ending) (t s : List ℕ) (at : ℕ) (rest : List ℕ) : Type 0 where
  pub read_again : HasRead s at (read s at) cs e rest
  pub joined_again : (out : List ℕ) (p : ℕ) → p + length t ≤ length out → join read_again.stands.columns read_again.stands.ending out p ≡ laid_over t out p

-- so it is with a line that was read and joined, wherever its bytes stand in a buffer, and whatever follows: nothing changes the second
-- time
unfoldable pub Settles : Reader → Joiner → Type 0
Settles read join = (s : List ℕ) (at : ℕ) → number_of (read s at) ≡ 0 → (a : Stands s at (read s at))
    → (out : List ℕ) (p : ℕ) (t : List ℕ) → HasWritten (join a.columns a.ending out p) p t
    → (s₂ : List ℕ) (at₂ : ℕ) (rest : List ℕ) → drop at₂ s₂ ≡ t ++ rest → (a.ending ≡ nothing → rest ≡ [])
    → Settled read join a.columns a.ending t s₂ at₂ rest

-- both follow, of any joiner and any line reader
unfoldable pub Spellings : Type 0
Spellings = (join : Joiner) → Meets join → OneSpelling join × ((read : Reader) → Line.Meets read → Settles read join)

-- ---- the joiner over an entry list

-- where the ends are in order, `join` answers and leaves what the joiner does with the columns that they stand for; else 16, behind 6,
-- and the output is left as it was
pub record EntriesJoiner : Type 0 where
  pub rises : (t ends : List ℕ) (e : Ending) (at : ℕ) (out : List ℕ) (r : Result ℕ JoinError) (out' : List ℕ) → rising 0 ends (length t) ≡ true → JoinsAt t ends e at out r out'
      → (joined_paper r ≡ (joiner (entry_list t ends) e out at).answer) × (out' ≡ (joiner (entry_list t ends) e out at).output)
  pub falls : (t ends : List ℕ) (e : Ending) (at : ℕ) (out : List ℕ) (r : Result ℕ JoinError) (out' : List ℕ) → rising 0 ends (length t) ≡ false → JoinsAt t ends e at out r out'
      → (joined_paper r ≡ placed at out (says 16 [])) × (out' ≡ out)

-- so a record that `read_line` made, and its line's columns, given to `join`, with room, are the bytes consumed
unfoldable pub Rejoins : Type 0
Rejoins = (s : List ℕ) (at next : ℕ) (r : Record) → ReadsLine s at (Ok (r, next)) → (t ends rest : List ℕ) → rising 0 ends (length t) ≡ true
    → Begins (drop at s) (entry_list t ends) (ending_of r.ending) rest → (out : List ℕ) (p : ℕ) → p + (next - at) ≤ length out
    → (x : Result ℕ JoinError) (out' : List ℕ) → JoinsAt t ends (ending_of r.ending) p out x out'
    → (joined_paper x ≡ says 0 ((next - at) ∷ [])) × (out' ≡ over_at p (take (next - at) (drop at s)) out)

-- `join`, by its contract, answered 0 and n, and left out'
pub record Wrote (t ends : List ℕ) (e : Ending) (at : ℕ) (out : List ℕ) (n : ℕ) (out' : List ℕ) : Type 0 where
  pub answer : Result ℕ JoinError
  pub joins : JoinsAt t ends e at out answer out'
  pub done : joined_paper answer ≡ says 0 (n ∷ [])

-- the bytes that it wrote, wherever they stand in a buffer, are accepted by `read_line`
unfoldable pub ReadsJoined : Type 0
ReadsJoined =
    (t ends : List ℕ) (e : Ending) (at : ℕ) (out : List ℕ) (n : ℕ) (out' : List ℕ) → Wrote t ends e at out n out'
    → (s : List ℕ) (q : ℕ) (rest : List ℕ) → drop q s ≡ take n (drop at out') ++ rest → (e ≡ nothing → rest ≡ [])
    → (y : Read) → ReadsLine s q y → number_of (read_paper y) ≡ 0

-- and the record that it made of them, with its line's columns, given to `join` again, with room, are the same bytes
unfoldable pub JoinedTwice : Type 0
JoinedTwice =
    (t ends : List ℕ) (e : Ending) (at : ℕ) (out : List ℕ) (n : ℕ) (out' : List ℕ) → Wrote t ends e at out n out'
    → (s : List ℕ) (q : ℕ) (rest : List ℕ) → drop q s ≡ take n (drop at out') ++ rest → (e ≡ nothing → rest ≡ [])
    → (r : Record) (next : ℕ) → ReadsLine s q (Ok (r, next))
    → (t₂ ends₂ rest₂ : List ℕ) → rising 0 ends₂ (length t₂) ≡ true → Begins (drop q s) (entry_list t₂ ends₂) (ending_of r.ending) rest₂
    → (out₂ : List ℕ) (p : ℕ) → p + n ≤ length out₂ → (x : Result ℕ JoinError) (out₂' : List ℕ) → JoinsAt t₂ ends₂ (ending_of r.ending) p out₂ x out₂'
    → (joined_paper x ≡ says 0 (n ∷ [])) × (out₂' ≡ over_at p (take n (drop at out')) out₂)
