-- What a program that lists is to do next (docs/RULES.md, "The program vcflist"). Assumes nothing.
use Rattle.std.specs.Prelude.{ℕ, ◌+◌, ◌-◌, ◌<◌, ◌≤◌, ◌≡◌, Bool, List, length, take, drop, Result, Ok, Err}
use Rattle.text.specs.Over.{over, over_at}
use Rattle.listing.specs.Output.{total_bytes}
use Rattle.listing.specs.Drive.{Drives}
use Rattle.listing.specs.declared.drive.State.{State}
use Rattle.listing.specs.declared.drive.Why.{Why}
use Rattle.listing.specs.declared.drive.Why.TheVariants as W
use Rattle.listing.specs.declared.drive.Driven.{Driven}
use Rattle.listing.specs.declared.ask.Ask.{Ask}
use Rattle.listing.specs.declared.ask.Beyond.{Beyond}
use Rattle.listing.specs.declared.ask.Ask.TheVariants as A

-- the same place of the input, at the start of another window
abbrev pub at_front : State → State
at_front s = record { phase = s.phase; at = 0; put = s.put; totals = s.totals }

-- the output is written out
abbrev pub written_out : State → State
written_out s = record { phase = s.phase; at = s.at; put = 0; totals = s.totals }

-- the last line, and how many bytes the output holds with it
abbrev pub total_of : State → List ℕ
total_of s = total_bytes s.totals.read s.totals.refused

abbrev pub last_filled : State → ℕ
last_filled s = s.put + length (total_of s)

-- the bytes from one place up to another over the first ones
unfoldable pub kept_bytes : ℕ → ℕ → List ℕ → List ℕ
kept_bytes from end b = over (take (end - from) (drop from b)) b

-- the window is the first `end` bytes of the buffer b, the state's place is in it, and what the output l holds is in the output
pub record InPlace (end : ℕ) (s : State) (b l : List ℕ) : Type 0 where
  pub buffer : end ≤ length b
  pub window : s.at ≤ end
  pub output : s.put ≤ length l

-- what is asked for where the turns stop in the state e, with m in the output, and what is left in the buffer and the output. More is
-- wanted: the window's rest is moved to the buffer's front. The output has no room: it is to be written out. The input ends: the last
-- line is put behind the rows, or where it has no room these are written out first
pub data Wants (end : ℕ) (e : State) (b m : List ℕ) (r : Ask) (b' l' : List ℕ) : Why → Type 0 where
  reads : r ≡ A.Read (end - e.at) (at_front e) → b' ≡ kept_bytes e.at end b → l' ≡ m → Wants end e b m r b' l' W.More
  writes : r ≡ A.Write e.put (written_out e) → b' ≡ b → l' ≡ m → Wants end e b m r b' l' W.Full
  lasts : last_filled e ≤ length m → r ≡ A.Last (last_filled e) → b' ≡ b → l' ≡ over_at e.put (total_of e) m → Wants end e b m r b' l' W.Done
  clears : length m < last_filled e → r ≡ A.Write e.put (written_out e) → b' ≡ b → l' ≡ m → Wants end e b m r b' l' W.Done

-- what is asked for from the state s on; 6 where the places are not in order
pub data Asks (last : Bool) (end : ℕ) (s : State) (b l : List ℕ) (r : Result Ask Beyond) (b' l' : List ℕ) : Type 0 where
  asks : {d : Driven} {m : List ℕ} {ask : Ask} → InPlace end s b l → Drives last (take end b) s l d m → Wants end d.state b m ask b' l' d.why
      → r ≡ Ok ask → Asks last end s b l r b' l'
  strays : (InPlace end s b l → ⊥) → r ≡ Err (record {}) → b' ≡ b → l' ≡ l → Asks last end s b l r b' l'
