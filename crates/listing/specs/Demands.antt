-- What is asked of any turn over windows of an input, as a function on lists (docs/RULES.md, "The program vcflist";
-- docs/STATEMENTS.md). Assumes nothing.
use Rattle.std.specs.Prelude.{ℕ, ◌+◌, ◌-◌, ◌<◌, ◌≤◌, ◌≡◌, Bool, true, false, ◌⊎◌, List, [], ◌∷◌, ◌++◌, length, take, drop, Result, Ok, Err}
use Rattle.text.specs.Answer.{Answer}
use Rattle.listing.specs.Output.{row_bytes, output_of, printed_from}
use Rattle.listing.specs.Listing.{longest, Listing}
use Rattle.listing.specs.Turn.{Move, beyond, more, ended, on, gives}
use Rattle.listing.specs.Drive.{start, Drives}
use Rattle.listing.specs.Ask.{at_front, written_out, total_of, InPlace, Asks}
use Rattle.listing.specs.declared.turn.Phase.{Phase}
use Rattle.listing.specs.declared.turn.Phase.TheVariants as P
use Rattle.listing.specs.declared.drive.State.{State}
use Rattle.listing.specs.declared.drive.Why.TheVariants as W
use Rattle.listing.specs.declared.drive.Driven.{Driven}
use Rattle.listing.specs.declared.ask.Ask.{Ask}
use Rattle.listing.specs.declared.ask.Beyond.{Beyond}
use Rattle.listing.specs.declared.ask.Ask.TheVariants as A

-- ---- the listing itself

-- every input has a listing
pub record Listed (s : List ℕ) : Type 0 where
  pub rows : List Answer
  pub listing : Listing s rows

abbrev pub Every : Type 0
Every = (s : List ℕ) → Listed s

-- and only one
abbrev pub Single : Type 0
Single = (s : List ℕ) (a b : List Answer) → Listing s a → Listing s b → a ≡ b

-- ---- windows

-- w is what the input holds from the place `base` on, and all that is left of it where it is the last
pub record Holds (s : List ℕ) (base : ℕ) (w : List ℕ) (last : Bool) : Type 0 where
  pub within : base + length w ≤ length s
  pub part : take (length w) (drop base s) ≡ w
  pub all : last ≡ true → base + length w ≡ length s

-- a turn is told whether the window is the last, its phase, the window and a place in it
abbrev pub Turning : Type 0
Turning = Bool → Phase → List ℕ → ℕ → Move

-- turns over windows of one input, each of them cut anywhere, from a phase and a place of the input on, and the rows they give
pub data Run (turn : Turning) (s : List ℕ) : Phase → ℕ → List Answer → Type 0 where
  stops : {base p : ℕ} {w : List ℕ} {last : Bool} {phase : Phase} → Holds s base w last → turn last phase w p ≡ ended → Run turn s phase (base + p) []
  waits : {base p : ℕ} {w : List ℕ} {last : Bool} {phase : Phase} {rows : List Answer} → Holds s base w last → turn last phase w p ≡ more
      → Run turn s phase (base + p) rows → Run turn s phase (base + p) rows
  goes : {base p next : ℕ} {w : List ℕ} {last : Bool} {phase then : Phase} {rows : List Answer} → Holds s base w last → turn last phase w p ≡ on then next
      → Run turn s then (base + next) rows → Run turn s phase (base + p) rows
  prints : {base p next : ℕ} {w : List ℕ} {last : Bool} {phase then : Phase} {r : Answer} {rows : List Answer} → Holds s base w last
      → turn last phase w p ≡ gives r then next → Run turn s then (base + next) rows → Run turn s phase (base + p) (r ∷ rows)

-- whatever the windows' cuts, the rows are those of the whole input: no line is lost, split or read twice
unfoldable pub Streams : Turning → Type 0
Streams turn = (s : List ℕ) (rows : List Answer) → Run turn s P.Lead 0 rows → Listing s rows

-- and every input has such a run
pub record Ran (turn : Turning) (s : List ℕ) (phase : Phase) (at : ℕ) : Type 0 where
  pub rows : List Answer
  pub run : Run turn s phase at rows

unfoldable pub Runs : Turning → Type 0
Runs turn = (s : List ℕ) → Ran turn s P.Lead 0

-- ---- turns end

-- the phases that a turn can go through at one place, in falling order
unfoldable pub rank : Phase → ℕ
rank P.Lines = 0
rank P.Lead = 1
rank P.Rest = 1
rank P.Comment = 2

-- the next place is in the window, and further on; or it is the same, and the phase a lower one
pub record Further (w : List ℕ) (phase : Phase) (p : ℕ) (then : Phase) (next : ℕ) : Type 0 where
  pub from : p ≤ next
  pub within : next ≤ length w
  pub moved : (p < next) ⊎ (rank then < rank phase)

-- no row is printed in more bytes
abbrev pub longest_row : ℕ
longest_row = 96

-- from a place of the window a turn is never `beyond`; it asks for more only where more can come and at most 65,536 bytes are
-- left in the window; any other turn but the last goes on, and with a row, which is short, further on
pub record Turned (last : Bool) (phase : Phase) (w : List ℕ) (p : ℕ) (m : Move) : Type 0 where
  pub inside : m ≡ beyond → ⊥
  pub asks : m ≡ more → (last ≡ false) × (length w ≤ p + longest)
  pub passes : (then : Phase) (next : ℕ) → m ≡ on then next → Further w phase p then next
  pub prints : (r : Answer) (then : Phase) (next : ℕ) → m ≡ gives r then next → (p < next) × (next ≤ length w)
  pub short : (r : Answer) (then : Phase) (next : ℕ) → m ≡ gives r then next → length (row_bytes r) ≤ longest_row

unfoldable pub Turns : Turning → Type 0
Turns turn = (last : Bool) (phase : Phase) (w : List ℕ) (p : ℕ) → p ≤ length w → Turned last phase w p (turn last phase w p)

-- ---- buffers

-- of a buffer that holds a window in its first `end` bytes, what is kept from a place on is the window from there on
unfoldable pub KeepsWindow : (ℕ → ℕ → List ℕ → List ℕ) → Type 0
KeepsWindow keep = (s : List ℕ) (base at end : ℕ) (l : List ℕ) (last : Bool) → at ≤ end → end ≤ length l → Holds s base (take end l) last
    → Holds s (base + at) (take (end - at) (keep at end l)) last

-- bytes that the input goes on with make the window longer
abbrev pub Grows : Type 0
Grows = (s : List ℕ) (base : ℕ) (w v : List ℕ) (last : Bool) → Holds s base w false → Holds s (base + length w) v last → Holds s base (w ++ v) last

-- ---- what is printed

-- rows printed and counted as they come, and then the totals, are all that is to be printed, where 64 bits hold the number of rows
abbrev pub Prints : Type 0
Prints = (rows : List Answer) → length rows ≤ 18446744073709551615 → printed_from 0 0 rows ≡ output_of rows

-- ---- programs

-- a run over the input s: from a state whose window starts at the place `base`, and with l in its output, these bytes are written in all.
-- Windows are cut anywhere, and what the output holds is written out at any time, whatever was answered; where the input ends the
-- output's bytes and the totals are the last to be written
pub data Running (s : List ℕ) : ℕ → State → List ℕ → List ℕ → Type 0 where
  finishes : {base : ℕ} {w : List ℕ} {last : Bool} {st e : State} {l l' : List ℕ} → Holds s base w last
      → Drives last w st l (record { why = W.Done; state = e }) l' → Running s base st l (take e.put l' ++ total_of e)
  drives : {base : ℕ} {w : List ℕ} {last : Bool} {st : State} {l l' bytes : List ℕ} {d : Driven} → Holds s base w last → Drives last w st l d l'
      → Running s base d.state l' bytes → Running s base st l bytes
  shifts : {base : ℕ} {st : State} {l bytes : List ℕ} → Running s (base + st.at) (at_front st) l bytes → Running s base st l bytes
  flushes : {base : ℕ} {st : State} {l l' bytes : List ℕ} → Running s base (written_out st) l' bytes → Running s base st l (take st.put l ++ bytes)

-- whatever the windows' cuts, the output's size and the flushes, the bytes written in all are the listing's output, where 64 bits
-- hold the number of rows
unfoldable pub WritesAll : Type 0
WritesAll = (s l bytes : List ℕ) (rows : List Answer) → Running s 0 start l bytes → Listing s rows → length rows ≤ 18446744073709551615
    → bytes ≡ output_of rows

-- a read puts the bytes v, with which the input goes on from the place `past` on, behind the first n of the buffer b, which stay; it says
-- of no others that they are the last
pub record ReadsOn (s : List ℕ) (past n : ℕ) (b v : List ℕ) (last : Bool) (b' : List ℕ) : Type 0 where
  pub next : Holds s past v last
  pub bytes : take (n + length v) b' ≡ take n b ++ v

-- a program that does what it is asked. Of the input s its buffer b holds `end` bytes from the place `base` on; with the state st, and l in
-- its output, it writes these bytes in all
pub data Program (s : List ℕ) : ℕ → Bool → ℕ → State → List ℕ → List ℕ → List ℕ → Type 0 where
  reads : {base end n : ℕ} {last last' : Bool} {st e : State} {b b' b'' v l l' bytes : List ℕ} → Asks last end st b l (Ok (A.Read n e)) b' l'
      → ReadsOn s (base + end) n b' v last' b'' → Program s (base + (end - n)) last' (n + length v) e b'' l' bytes
      → Program s base last end st b l bytes
  writes : {base end n : ℕ} {last : Bool} {st e : State} {b b' l l' bytes : List ℕ} → Asks last end st b l (Ok (A.Write n e)) b' l'
      → Program s base last end e b' l' bytes → Program s base last end st b l (take n l' ++ bytes)
  lasts : {base end n : ℕ} {last : Bool} {st : State} {b b' l l' : List ℕ} → Asks last end st b l (Ok (A.Last n)) b' l'
      → Program s base last end st b l (take n l')

-- begun with nothing read, it writes the listing's output
unfoldable pub ListsAll : Type 0
ListsAll = (s b l bytes : List ℕ) (rows : List Answer) → Program s 0 false 0 start b l bytes → Listing s rows → length rows ≤ 18446744073709551615
    → bytes ≡ output_of rows

-- 64 bits hold the counts
pub record Counted (s : State) : Type 0 where
  pub read : s.totals.read ≤ 18446744073709551615
  pub refused : s.totals.refused ≤ 18446744073709551615

-- what is asked for can be done, of places that are in order: never 6; to read more only where more can come, behind at most 65,536 bytes;
-- to write only where fewer than 96 bytes were left in the output
pub record Asked (last : Bool) (l : List ℕ) (r : Result Ask Beyond) : Type 0 where
  pub inside : r ≡ Err (record {}) → ⊥
  pub reads : (n : ℕ) (e : State) → r ≡ Ok (A.Read n e) → (last ≡ false) × (n ≤ longest)
  pub writes : (n : ℕ) (e : State) → r ≡ Ok (A.Write n e) → length l < n + longest_row

unfoldable pub AsksInRoom : Type 0
AsksInRoom = (last : Bool) (end : ℕ) (s : State) (b l : List ℕ) (r : Result Ask Beyond) (b' l' : List ℕ) → InPlace end s b l → Counted s → Asks last end s b l r b' l'
    → Asked last l r

-- so every input is listed to its end, whatever its size, in a buffer of more than 65,536 bytes and an output of 96 or more
pub record Served (s b l : List ℕ) : Type 0 where
  pub bytes : List ℕ
  pub program : Program s 0 false 0 start b l bytes

unfoldable pub Serves : Type 0
Serves = (s b l : List ℕ) → longest < length b → longest_row ≤ length l → Served s b l
