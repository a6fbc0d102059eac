-- What turns over a window tell: they stay in it, and their rows in the output; each lowers what is left. Assumes nothing.
use Prim.Native.Nat.{ℕ, zero, suc, ◌+◌, ◌<◌, ◌≤◌}
use mathlib.Core.Path.{◌≡◌, refl, ap, ◌∙◌}
use mathlib.Core.Bool.{Bool, true, false}
use mathlib.Core.List.{List}
use native.Mathlib.Omega.{arith}
use lib.Dec.{leb}
use lib.ListN.{length}
use borrow.Author.Tests.{leb-false}
use Rattle.text.specs.Pick.{pick}
use Rattle.text.specs.Answer.{Answer, says}
use Rattle.text.proofs.Lists.{length_over_at}
use Rattle.listing.specs.Output.{rows_bytes, one_more, read_after, refused_after}
use Rattle.listing.specs.Listing.{longest}
use Rattle.listing.specs.Turn.{beyond, more}
use Rattle.listing.specs.Demands.{longest_row, Turns, Counted}
use Rattle.listing.specs.Drive.{turn_of, Steps, here, passes, prints, Stops, misplaced, wants, lacks, Drives}
use Rattle.listing.specs.declared.drive.State.{State}
use Rattle.listing.specs.declared.drive.Why.TheVariants as W
use Rattle.listing.specs.declared.drive.Driven.{Driven}
use Rattle.listing.proofs.Turns.{turns}
use Rattle.listing.proofs.Runs as runs
use Rattle.listing.proofs.DriveLaws.{left, pass_further, print_further, steps_put}

-- ---- steps

-- the place stays in the window; what is left does not grow, and falls with each row
pub record Onward (w : List ℕ) (s e : State) : Type 0 where
  pub within : e.at ≤ length w
  pub less : left w e ≤ left w s
  pub row : s.put < e.put → left w e < left w s

steps_onward : {last : Bool} {w : List ℕ} {size : ℕ} {s e : State} {rows : List Answer} → Steps last w size s rows e → s.at ≤ length w → Onward w s e
steps_onward here h = record { within = h; less = omega arith; row = λ k. absurd (omega arith) }
steps_onward {last} {w} (passes {s = s} m x) h =
    let f = pass_further last w s h m in
    let o = steps_onward x f.within in
    let k = runs.lower f in
    record { within = o.within; less = omega (arith, o.less); row = λ z. omega (arith, o.less) }
steps_onward {last} {w} (prints {s = s} m r x) h =
    let f = print_further last w s h m in
    let o = steps_onward x f.within in
    let k = runs.lower f in
    record { within = o.within; less = omega (arith, o.less); row = λ z. omega (arith, o.less) }

steps_room : {last : Bool} {w : List ℕ} {size : ℕ} {s e : State} {rows : List Answer} → Steps last w size s rows e → s.put ≤ size → e.put ≤ size
steps_room here h = h
steps_room (passes m x) h = steps_room x h
steps_room (prints m f x) h = steps_room x f

-- 64 bits hold the counts throughout
held : (n : ℕ) → n ≤ 18446744073709551615 → one_more n ≤ 18446744073709551615
unfolding one_more
held n h = by (leb 18446744073709551615 n) refl
  where
    by : (c : Bool) → leb 18446744073709551615 n ≡ c → pick c n (n + 1) ≤ 18446744073709551615
    by true e = h
    by false e = omega (arith, leb-false 18446744073709551615 n e)

read_held : (n : ℕ) (r : Answer) → n ≤ 18446744073709551615 → read_after n r ≤ 18446744073709551615
unfolding read_after
read_held n (says zero vs) h = held n h
read_held n (says (suc m) vs) h = h

refused_held : (n : ℕ) (r : Answer) → n ≤ 18446744073709551615 → refused_after n r ≤ 18446744073709551615
unfolding refused_after
refused_held n (says zero vs) h = h
refused_held n (says (suc m) vs) h = held n h

steps_counted : {last : Bool} {w : List ℕ} {size : ℕ} {s e : State} {rows : List Answer} → Steps last w size s rows e → Counted s → Counted e
steps_counted here c = c
steps_counted (passes m x) c = steps_counted x (record { read = c.read; refused = c.refused })
steps_counted (prints {r = r} m f x) c = steps_counted x (record { read = read_held _ r c.read; refused = refused_held _ r c.refused })

-- ---- what `drive` answers

module _ {last : Bool} {w : List ℕ} {size : ℕ} {s : State} where
  stops_beyond : Stops last w size s W.Beyond → turn_of last w s ≡ beyond
  stops_beyond (misplaced e) = e

  stops_more : Stops last w size s W.More → turn_of last w s ≡ more
  stops_more (wants e) = e

  stops_full : s.at ≤ length w → Stops last w size s W.Full → size < s.put + longest_row
  unfolding Turns
  stops_full h (lacks {r = r} {then = then} {next = next} e f) = let k = (turns last s.phase w s.at h).short r then next e in omega arith

module _ {last : Bool} {w : List ℕ} {s : State} {l l' : List ℕ} {d : Driven} (x : Drives last w s l d l') where
  pub drive_counted : Counted s → Counted d.state
  drive_counted = steps_counted x.steps

  pub drive_room : s.put ≤ length l → d.state.put ≤ length l
  drive_room = steps_room x.steps

  pub drive_size : s.put ≤ length l → length l' ≡ length l
  drive_size h =
      let a = steps_put x.steps in
      let b = drive_room h in
      ap length x.bytes ∙ length_over_at s.put (rows_bytes x.rows) l (omega arith)

  module _ (h : s.at ≤ length w) where
    pub drive_onward : Onward w s d.state
    drive_onward = steps_onward x.steps h

    pub drive_inside : d.why ≡ W.Beyond → ⊥
    unfolding Turns
    drive_inside e = (turns last d.state.phase w d.state.at drive_onward.within).inside (stops_beyond (rw e at x.stops))

    pub drive_asks : d.why ≡ W.More → (last ≡ false) × (length w ≤ d.state.at + longest)
    unfolding Turns
    drive_asks e = (turns last d.state.phase w d.state.at drive_onward.within).asks (stops_more (rw e at x.stops))

    pub drive_full : d.why ≡ W.Full → length l < d.state.put + longest_row
    drive_full e = stops_full drive_onward.within (rw e at x.stops)
