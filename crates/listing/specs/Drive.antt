-- Turns over one window, one after another, and their rows put into lent output (docs/RULES.md, "The program vcflist"). Assumes nothing.
use Rattle.std.specs.Prelude.{ℕ, ◌+◌, ◌<◌, ◌≤◌, ◌≡◌, Bool, List, [], ◌∷◌, length}
use Rattle.text.specs.Answer.{Answer}
use Rattle.text.specs.Over.{over_at}
use Rattle.listing.specs.Output.{row_bytes, rows_bytes, read_after, refused_after}
use Rattle.listing.specs.Turn.{Move, beyond, more, ended, on, gives, turn_move}
use Rattle.listing.specs.declared.turn.Phase.{Phase}
use Rattle.listing.specs.declared.turn.Phase.TheVariants as P
use Rattle.listing.specs.declared.drive.State.{State}
use Rattle.listing.specs.declared.drive.Why.{Why}
use Rattle.listing.specs.declared.drive.Why.TheVariants as W
use Rattle.listing.specs.declared.drive.Driven.{Driven}

-- ---- states

-- nothing read, printed or counted yet
abbrev pub start : State
start = record { phase = P.Lead; at = 0; put = 0; totals = record { read = 0; refused = 0 } }

-- the turn that a state takes
abbrev pub turn_of : Bool → List ℕ → State → Move
turn_of last w s = turn_move last s.phase w s.at

-- the state after a turn that prints nothing
abbrev pub passed : State → Phase → ℕ → State
passed s then next = record { phase = then; at = next; put = s.put; totals = s.totals }

-- how many bytes the output holds with one row more
abbrev pub filled : State → Answer → ℕ
filled s r = s.put + length (row_bytes r)

-- the state after a turn that prints a row, which is counted
abbrev pub printed : State → Answer → Phase → ℕ → State
printed s r then next = record {
  phase = then;
  at = next;
  put = filled s r;
  totals = record { read = read_after s.totals.read r; refused = refused_after s.totals.refused r };
}

-- ---- turns

-- turns over a window from one state to another, and their rows, each of which has room in an output of this size
pub data Steps (last : Bool) (w : List ℕ) (size : ℕ) : State → List Answer → State → Type 0 where
  here : {s : State} → Steps last w size s [] s
  passes : {s e : State} {then : Phase} {next : ℕ} {rows : List Answer} → turn_of last w s ≡ on then next
      → Steps last w size (passed s then next) rows e → Steps last w size s rows e
  prints : {s e : State} {r : Answer} {then : Phase} {next : ℕ} {rows : List Answer} → turn_of last w s ≡ gives r then next
      → filled s r ≤ size → Steps last w size (printed s r then next) rows e → Steps last w size s (r ∷ rows) e

-- why no turn is taken from a state: the place is beyond the window; the window ends too soon; the turn gives a row for which
-- the output has no room; the input ends
pub data Stops (last : Bool) (w : List ℕ) (size : ℕ) (s : State) : Why → Type 0 where
  misplaced : turn_of last w s ≡ beyond → Stops last w size s W.Beyond
  wants : turn_of last w s ≡ more → Stops last w size s W.More
  lacks : {r : Answer} {then : Phase} {next : ℕ} → turn_of last w s ≡ gives r then next → size < filled s r → Stops last w size s W.Full
  ends : turn_of last w s ≡ ended → Stops last w size s W.Done

-- from the state s, with l in the output: turns lead to the new state and stop there; their rows, printed, lie in the output behind
-- what it held, and nothing else has changed
pub record Drives (last : Bool) (w : List ℕ) (s : State) (l : List ℕ) (d : Driven) (l' : List ℕ) : Type 0 where
  pub rows : List Answer
  pub steps : Steps last w (length l) s rows d.state
  pub stops : Stops last w (length l) d.state d.why
  pub bytes : l' ≡ over_at s.put (rows_bytes rows) l
