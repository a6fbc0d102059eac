-- By induction on a run: what is still to be written is what the output holds, and then the rows to come, printed and counted as they come.
-- Assumes nothing.
use Prim.Native.Nat.{ℕ, ◌+◌, ◌≤◌}
use mathlib.Core.Path.{◌≡◌, refl, ap, ◌∙◌}
use mathlib.Core.Bool.{Bool}
use mathlib.Core.List.{List, [], ◌++◌, append_assoc}
use native.Mathlib.Omega.{arith}
use native.Mathlib.Nat.{add-zero}
use lib.ListN.{length, take}
use Rattle.text.specs.Answer.{Answer}
use Rattle.listing.specs.Output.{row_bytes, rows_bytes, printed_from}
use Rattle.listing.specs.Turn.{turn_move}
use Rattle.listing.specs.Demands.{Holds, Run, stops, goes, Streams, Running, finishes, drives, shifts, flushes, WritesAll}
use Rattle.listing.specs.Demands as D
use Rattle.listing.specs.Drive.{Steps, here, passes, prints, Stops, ends, Drives}
use Rattle.listing.specs.declared.drive.State.{State}
use Rattle.listing.specs.declared.drive.Why.TheVariants as W
use Rattle.listing.specs.declared.drive.Driven.{Driven}
use Rattle.listing.proofs.PrintLaws.{take_laid}
use Rattle.listing.proofs.DriveLaws.{steps_put}
use Rattle.listing.proofs.Told.{drive_room, drive_size}
use Rattle.listing.proofs.Streams.{streams}
use Rattle.listing.proofs.Single.{single}
use Rattle.listing.proofs.Totals as totals

-- what is to be printed from a state on, where these rows are to come
abbrev to_come : State → List Answer → List ℕ
to_come st rows = printed_from st.totals.read st.totals.refused rows

-- ---- turns over one window

steps_run : {s : List ℕ} {base : ℕ} {w : List ℕ} {last : Bool} {size : ℕ} {st e : State} {rows rest : List Answer} → Holds s base w last
    → Steps last w size st rows e → Run turn_move s e.phase (base + e.at) rest → Run turn_move s st.phase (base + st.at) (rows ++ rest)
steps_run h here r = r
steps_run h (passes m x) r = goes h m (steps_run h x r)
steps_run h (prints m f x) r = D.prints h m (steps_run h x r)

steps_printed : {last : Bool} {w : List ℕ} {size : ℕ} {st e : State} {rows : List Answer} → Steps last w size st rows e → (rest : List Answer)
    → rows_bytes rows ++ to_come e rest ≡ to_come st (rows ++ rest)
unfolding printed_from rows_bytes
steps_printed here rest = refl
steps_printed (passes m x) rest = steps_printed x rest
steps_printed {e = e} (prints {r = r} {rows = rows} m f x) rest =
    append_assoc (row_bytes r) (rows_bytes rows) (to_come e rest) ∙ ap (λ (z : List ℕ). row_bytes r ++ z) (steps_printed x rest)

stops_done : {s : List ℕ} {base : ℕ} {w : List ℕ} {last : Bool} {size : ℕ} {e : State} → Holds s base w last → Stops last w size e W.Done
    → Run turn_move s e.phase (base + e.at) []
stops_done h (ends m) = stops h m

-- the output holds the rows behind what it held
driven : {last : Bool} {w : List ℕ} {st : State} {l l' : List ℕ} {d : Driven} → (x : Drives last w st l d l') → st.put ≤ length l → (rest : List Answer)
    → take d.state.put l' ++ to_come d.state rest ≡ take st.put l ++ to_come st (x.rows ++ rest)
driven {st = st} {l = l} {d = d} x p rest =
    ap (λ (z : List ℕ). z ++ to_come d.state rest) (ap (take d.state.put) x.bytes ∙ take_laid st.put (rows_bytes x.rows) l d.state.put p (steps_put x.steps))
    ∙ append_assoc (take st.put l) (rows_bytes x.rows) _
    ∙ ap (λ (z : List ℕ). take st.put l ++ z) (steps_printed x.steps rest)

-- ---- a run

record Rest (s : List ℕ) (place : ℕ) (st : State) (l bytes : List ℕ) : Type 0 where
  rows : List Answer
  run : Run turn_move s st.phase place rows
  written : bytes ≡ take st.put l ++ to_come st rows

rest : {s : List ℕ} {base : ℕ} {st : State} {l bytes : List ℕ} → Running s base st l bytes → st.put ≤ length l → Rest s (base + st.at) st l bytes
unfolding printed_from
rest (finishes h x) p = record { rows = x.rows ++ []; run = steps_run h x.steps (stops_done h x.stops); written = driven x p [] }
rest (drives h x y) p =
    let a = drive_room x p in
    let b = drive_size x p in
    let z = rest y (omega arith) in
    record { rows = x.rows ++ z.rows; run = steps_run h x.steps z.run; written = z.written ∙ driven x p z.rows }
rest (shifts y) p =
    let z = rest y p in
    record { rows = z.rows; run = rw add-zero at z.run; written = z.written }
rest (flushes {st = st} {l = l} y) p =
    let z = rest y (omega arith) in
    record { rows = z.rows; run = z.run; written = ap (λ (b : List ℕ). take st.put l ++ b) z.written }

pub writes_all : WritesAll
unfolding WritesAll Streams
writes_all s l bytes rows x y n =
    let z = rest x (omega arith) in
    let e : z.rows ≡ rows = single s z.rows rows (streams s z.rows z.run) y in
    z.written ∙ ap (printed_from 0 0) e ∙ totals.prints rows n
