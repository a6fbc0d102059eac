-- What the private functions of this crate promise each other. Assumes nothing.
use Rattle.std.specs.Prelude.{ℕ, ◌+◌, ◌-◌, ◌<◌, ◌≤◌, ◌≡◌, Bool, false, List, ◌∷◌, length, drop, Result, Ok, Err}
use Rattle.text.specs.Answer.{Answer, says}
use Rattle.text.specs.Over.{over_at}
use Rattle.text.specs.declared.copy.NoRoom.{NoRoom}
use Rattle.decimal.specs.Shortest.{shortest}
use Rattle.record.specs.Paper.{record_values}
use Rattle.record.specs.declared.place.Record.{Record}
use Rattle.line.specs.Line.{line_of, read_answer}
use Rattle.listing.specs.Output.{row_bytes, read_after, refused_after}
use Rattle.listing.specs.Listing.{size_of}
use Rattle.listing.specs.Turn.{on, gives, is_whole, turn_move}
use Rattle.listing.specs.Paper.{turn_paper}
use Rattle.listing.specs.Drive.{turn_of, passed, filled, printed, Stops}
use Rattle.listing.specs.Ask.{kept_bytes}
use Rattle.listing.specs.declared.turn.Phase.{Phase}
use Rattle.listing.specs.declared.turn.Turn.{Turn}
use Rattle.listing.specs.declared.turn.Reach.{Reach}
use Rattle.listing.specs.declared.print.Totals.{Totals}
use Rattle.listing.specs.declared.drive.State.{State}
use Rattle.listing.specs.declared.drive.Why.{Why}
use Rattle.listing.specs.declared.drive.Why.TheVariants as W
use Rattle.listing.specs.declared.drive.Driven.{Driven}

-- the line at a place ends at `next`, which is in the window; an LF ends it, or not
pub record Ends (w : List ℕ) (at next : ℕ) (fed : Bool) : Type 0 where
  pub size : next ≡ at + size_of (line_of (drop at w))
  pub within : next ≤ length w
  pub whole : is_whole false (line_of (drop at w)) ≡ fed

abbrev pub Reaches : List ℕ → ℕ → Reach → Type 0
Reaches w at x = Ends w at x.end x.fed

-- where a line was found to end further on than a place, so does the line at that place
abbrev pub Known : List ℕ → ℕ → Reach → Type 0
Known w at x = at < x.end → Reaches w at x

abbrev pub TakesTurn : List ℕ → Bool → Phase → ℕ → Turn → Type 0
TakesTurn w last phase at r = turn_paper r ≡ turn_move last phase w at

-- the line reader gave this record and next place
pub record ReadAt (w : List ℕ) (at next : ℕ) (r : Record) : Type 0 where
  pub read : read_answer w at ≡ says 0 (next ∷ record_values r)

-- a space and a number, and how many bytes they are
abbrev pub spaced : ℕ → List ℕ
spaced n = 32 ∷ shortest n

pub record Sizes (n r : ℕ) : Type 0 where
  pub size : r ≡ length (spaced n)
  pub few : r ≤ 21

-- bytes put into an output l from the place `at` on; n is the place behind them
pub record Put (at : ℕ) (s l : List ℕ) (n : ℕ) (l' : List ℕ) : Type 0 where
  pub count : n ≡ at + length s
  pub within : n ≤ length l
  pub bytes : l' ≡ over_at at s l

-- bytes laid behind the first `at` of an output l, which holds n of them then; or no room for them
pub data Lays (at : ℕ) (vs l : List ℕ) : Result ℕ NoRoom → List ℕ → Type 0 where
  has_room : {n : ℕ} {l' : List ℕ} → n ≡ at + length vs → n ≤ length l → l' ≡ over_at at vs l → Lays at vs l (Ok n) l'
  no_room : {no : NoRoom} {l' : List ℕ} → length l < at + length vs → l' ≡ l → Lays at vs l (Err no) l'

-- the bytes of a buffer from one place up to another moved to its front
pub record Keeps (from end : ℕ) (b : List ℕ) (n : ℕ) (b' : List ℕ) : Type 0 where
  pub count : n ≡ end - from
  pub bytes : b' ≡ kept_bytes from end b

-- the totals after one more row
pub record Counts (t : Totals) (a : Answer) (r : Totals) : Type 0 where
  pub read : r.read ≡ read_after t.read a
  pub refused : r.refused ≡ refused_after t.refused a

-- one turn from the state s, with l in the output: to the next state, its row laid behind what the output held; or why none is taken
pub data Takes (last : Bool) (w : List ℕ) (s : State) (l : List ℕ) : Result State Why → List ℕ → Type 0 where
  goes : {then : Phase} {next : ℕ} {l' : List ℕ} → turn_of last w s ≡ on then next → l' ≡ l → Takes last w s l (Ok (passed s then next)) l'
  lays : {r : Answer} {then : Phase} {next : ℕ} {l' : List ℕ} → turn_of last w s ≡ gives r then next → filled s r ≤ length l
      → l' ≡ over_at s.put (row_bytes r) l → Takes last w s l (Ok (printed s r then next)) l'
  stays : {why : Why} {l' : List ℕ} → Stops last w (length l) s why → l' ≡ l → Takes last w s l (Err why) l'

-- turns over the first `end` bytes of the buffer b stop at a place in them
pub record Stopped (end : ℕ) (d : Driven) (b : List ℕ) : Type 0 where
  pub window : d.state.at ≤ end
  pub buffer : end ≤ length b
  pub inside : d.why ≡ W.Beyond → ⊥
