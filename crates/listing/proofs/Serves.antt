-- Turns end, so every state has an answer; and each answer of a program whose reads fill its buffer brings the end nearer: the place moves on,
-- the window is moved up to it, or the output is written out. Assumes nothing.
use Prim.Native.Nat.{ℕ, zero, suc, ◌+◌, ◌-◌, ◌*◌, ◌<◌, ◌≤◌}
use mathlib.Core.Path.{◌≡◌, refl, sym, ap, ◌∙◌}
use mathlib.Core.Bool.{Bool, true, false, false≢true}
use mathlib.Core.List.{List, [], ◌∷◌}
use native.Mathlib.Omega.{arith}
use native.Mathlib.Decide.{dec_le, dec_lt}
use lib.ListN.{length, take, drop, length-drop}
use lib.Seq.{take-length, length-take-le}
use Rattle.text.specs.Answer.{Answer}
use Rattle.text.specs.Over.{over_at}
use Rattle.text.proofs.Lists.{length_over_at}
use Rattle.listing.specs.Output.{rows_bytes}
use Rattle.listing.specs.Listing.{longest}
use Rattle.listing.specs.Turn.{Move, beyond, more, ended, on, gives}
use Rattle.listing.specs.Demands.{Holds, longest_row, ReadsOn, Program, Counted, Serves}
use Rattle.listing.specs.Demands as D
use Rattle.listing.specs.Drive.{start, turn_of, passed, filled, printed, Steps, here, passes, prints, Stops, misplaced, wants, lacks, ends, Drives}
use Rattle.listing.specs.Ask.{kept_bytes, at_front, written_out, last_filled, InPlace, Wants, reads, writes, lasts, clears, Asks}
use Rattle.listing.specs.declared.drive.State.{State}
use Rattle.listing.specs.declared.drive.Why.{Why}
use Rattle.listing.specs.declared.drive.Why.TheVariants as W
use Rattle.listing.specs.declared.drive.Driven.{Driven}
use Rattle.std.specs.Prelude.{Ok}
use Rattle.listing.specs.declared.ask.Ask.{Ask}
use Rattle.listing.specs.declared.ask.Ask.TheVariants as A
use Rattle.listing.proofs.Runs as runs
use Rattle.listing.proofs.Windows.{kept_size}
use Rattle.listing.proofs.PrintLaws.{take_laid}
use Rattle.listing.proofs.DriveLaws.{left, pass_further, print_further}
use Rattle.listing.proofs.Told.{Onward, drive_counted, drive_room, drive_size, drive_onward, drive_inside, drive_asks, drive_full}
use Rattle.listing.proofs.RowSizes.{total_few}
use Rattle.listing.proofs.AskLaws.{asked, wanted}
use Rattle.listing.proofs.ListsAll.{read_on}

-- ---- every state has an answer

record Reached (last : Bool) (w : List ℕ) (size : ℕ) (s : State) : Type 0 where
  rows : List Answer
  state : State
  why : Why
  steps : Steps last w size s rows state
  stops : Stops last w size state why

module _ (last : Bool) (w : List ℕ) (size : ℕ) where
  stay : (s : State) {why : Why} → Stops last w size s why → Reached last w size s
  stay s {why} x = record { rows = []; state = s; why = why; steps = here; stops = x }

  step : (s : State) → s.at ≤ length w → ((e : State) → e.at ≤ length w → left w e < left w s → Reached last w size e) → Reached last w size s
  step s h again = by (turn_of last w s) refl
    where
      by : (m : Move) → turn_of last w s ≡ m → Reached last w size s
      by beyond e = stay s (misplaced e)
      by more e = stay s (wants e)
      by ended e = stay s (ends e)
      by (on then next) e =
          let f = pass_further last w s h e in
          let r = again (passed s then next) f.within (runs.lower f) in
          record { rows = r.rows; state = r.state; why = r.why; steps = passes e r.steps; stops = r.stops }
      by (gives a then next) e = room (dec_le (filled s a) size)
        where
          room : Dec (filled s a ≤ size) → Reached last w size s
          room (yes k) =
              let f = print_further last w s h e in
              let r = again (printed s a then next) f.within (runs.lower f) in
              record { rows = a ∷ r.rows; state = r.state; why = r.why; steps = prints e k r.steps; stops = r.stops }
          room (no k) = stay s (lacks e (omega arith))

  reached : (n : ℕ) (s : State) → s.at ≤ length w → left w s ≤ n → Reached last w size s
  reached zero s h k = step s h (λ e a b. absurd (omega arith))
  reached (suc n) s h k = step s h (λ e a b. reached n e a (omega arith))

record Answered (last : Bool) (w : List ℕ) (s : State) (l : List ℕ) : Type 0 where
  to : Driven
  out : List ℕ
  drives : Drives last w s l to out

answered : (last : Bool) (w : List ℕ) (s : State) (l : List ℕ) → s.at ≤ length w → Answered last w s l
answered last w s l h =
    let r = reached last w (length l) (left w s) s h (omega arith) in
    record {
      to = record { why = r.why; state = r.state };
      out = over_at s.put (rows_bytes r.rows) l;
      drives = record { rows = r.rows; steps = r.steps; stops = r.stops; bytes = refl };
    }

-- ---- a read that fills the buffer

record Filled (s : List ℕ) (past n : ℕ) (b : List ℕ) : Type 0 where
  v : List ℕ
  last : Bool
  to : List ℕ
  on : ReadsOn s past n b v last to
  same : length to ≡ length b
  within : n + length v ≤ length b
  full : last ≡ false → n + length v ≡ length b

fill : (s : List ℕ) (past n : ℕ) (b : List ℕ) → past ≤ length s → n ≤ length b → Filled s past n b
fill s past n b h k = by (dec_le (length s - past) (length b - n))
  where
    all : length (drop past s) ≡ length s - past
    all = length-drop past s

    by : Dec (length s - past ≤ length b - n) → Filled s past n b
    by (yes z) =
        let a = all in
        record {
          v = drop past s;
          last = true;
          to = over_at n (drop past s) b;
          on = record { next = record { within = omega arith; part = take-length (drop past s); all = λ e. omega arith }; bytes = take_laid n (drop past s) b (n + length (drop past s)) k refl };
          same = length_over_at n (drop past s) b (omega arith);
          within = omega arith;
          full = λ e. absurd (false≢true (sym e));
        }
    by (no z) =
        let a = all in
        let m : length (take (length b - n) (drop past s)) ≡ length b - n = length-take-le (length b - n) (drop past s) (omega arith) in
        record {
          v = take (length b - n) (drop past s);
          last = false;
          to = over_at n (take (length b - n) (drop past s)) b;
          on = record {
            next = record { within = omega arith; part = ap (λ (j : ℕ). take j (drop past s)) m; all = λ e. absurd (false≢true e) };
            bytes = take_laid n (take (length b - n) (drop past s)) b (n + length (take (length b - n) (drop past s))) k refl;
          };
          same = length_over_at n (take (length b - n) (drop past s)) b (omega arith);
          within = omega arith;
          full = λ e. omega arith;
        }

-- ---- a program

-- where a program stands
record Stand : Type 0 where
  base : ℕ
  last : Bool
  end : ℕ
  state : State
  buffer : List ℕ
  out : List ℕ

-- what holds from one answer to the next
record Ready (s : List ℕ) (p : Stand) : Type 0 where
  holds : Holds s p.base (take p.end p.buffer) p.last
  place : InPlace p.end p.state p.buffer p.out
  room : longest < length p.buffer
  rows : longest_row ≤ length p.out
  counted : Counted p.state

record From (s : List ℕ) (p : Stand) : Type 0 where
  bytes : List ℕ
  program : Program s p.base p.last p.end p.state p.buffer p.out bytes

-- what is left of the input, and the phase
abbrev left_of : List ℕ → Stand → ℕ
left_of s p = runs.left s p.state.phase (p.base + p.state.at)

-- f tells, where it is 0, that the window starts at the place, and that the buffer is full where more can come; g that the output is empty
record Marked (p : Stand) (f g : ℕ) : Type 0 where
  few : (f ≤ 1) × (g ≤ 1)
  front : f ≡ 0 → p.state.at ≡ 0
  full : f ≡ 0 → p.last ≡ false → p.end ≡ length p.buffer
  empty : g ≡ 0 → p.state.put ≡ 0

abbrev to_go : List ℕ → Stand → ℕ → ℕ → ℕ
to_go s p f g = 4 * left_of s p + 2 * f + g

module _ (s : List ℕ) (p : Stand) (y : Ready s p) (f g : ℕ) (k : Marked p f g)
    (again : (q : Stand) → Ready s q → (f' g' : ℕ) → Marked q f' g' → to_go s q f' g' < to_go s p f g → From s q) where
  size : length (take p.end p.buffer) ≡ p.end
  size = length-take-le p.end p.buffer y.place.buffer

  in_window : p.state.at ≤ length (take p.end p.buffer)
  in_window = let n = size in let i = y.place.window in omega arith

  module _ (d : Driven) (m : List ℕ) (x : Drives p.last (take p.end p.buffer) p.state p.out d m) where
    out_size : length m ≡ length p.out
    out_size = drive_size x y.place.output

    onward : Onward (take p.end p.buffer) p.state d.state
    onward = drive_onward x in_window

    counted : Counted d.state
    counted = drive_counted x y.counted

    -- the same, of the whole input
    less : runs.left s d.state.phase (p.base + d.state.at) ≤ left_of s p
    less = let n = size in omega (arith, onward.within, onward.less, y.holds.within, in_window)

    row_less : p.state.put < d.state.put → runs.left s d.state.phase (p.base + d.state.at) < left_of s p
    row_less h = let n = size in omega (arith, onward.within, onward.row h, y.holds.within, in_window)

    does : {r : Ask} {b' l'' : List ℕ} {why : Why} → d.why ≡ why → Wants p.end d.state p.buffer m r b' l'' why
        → Asks p.last p.end p.state p.buffer p.out (Ok r) b' l''
    does e z = asked p.end p.buffer x y.place.buffer y.place.window y.place.output (wanted e z)

    after_read : d.why ≡ W.More → From s p
    after_read e =
        let r = again to ready 0 1 (record { few = (omega arith, omega arith); front = λ z. refl; full = λ z q. filled.full q ∙ sym filled.same; empty = λ z. absurd (omega arith) }) nearer in
        record { bytes = r.bytes; program = D.reads (does e (reads refl refl refl)) filled.on r.program }
      where
        within : d.state.at ≤ p.end
        within = let n = size in omega (arith, onward.within)

        kept : length (kept_bytes d.state.at p.end p.buffer) ≡ length p.buffer
        kept = kept_size d.state.at p.end p.buffer within y.place.buffer

        filled : Filled s (p.base + p.end) (p.end - d.state.at) (kept_bytes d.state.at p.end p.buffer)
        filled = fill s (p.base + p.end) _ _ (let n = size in let h = y.holds.within in omega arith) (let h = y.place.buffer in let c = kept in omega arith)

        to : Stand
        to =
            record {
              base = p.base + (p.end - (p.end - d.state.at));
              last = filled.last;
              end = p.end - d.state.at + length filled.v;
              state = at_front d.state;
              buffer = filled.to;
              out = m;
            }

        ready : Ready s to
        ready =
            record {
              holds = read_on d.state.at p.end p.buffer y.holds within y.place.buffer refl refl filled.on;
              place = record { buffer = omega (arith, filled.same, filled.within); window = omega arith; output = rw out_size (drive_room x y.place.output) };
              room = omega (arith, filled.same, kept, y.room);
              rows = rw out_size y.rows;
              counted = record { read = counted.read; refused = counted.refused };
            }

        nearer : to_go s to 0 1 < to_go s p f g
        nearer = by f k.few.0 k.front k.full
          where
            a : (p.last ≡ false) × (length (take p.end p.buffer) ≤ d.state.at + longest)
            a = drive_asks x in_window e

            by : (f : ℕ) → f ≤ 1 → (f ≡ 0 → p.state.at ≡ 0) → (f ≡ 0 → p.last ≡ false → p.end ≡ length p.buffer) → to_go s to 0 1 < to_go s p f g
            by zero h z q =
                let n = size in
                omega (arith, z refl, q refl a.0, a.1, y.room, within, y.holds.within, runs.rank_most d.state.phase)
            by (suc f) h z q = omega (arith, less, within)

    after_write : 0 < d.state.put → Asks p.last p.end p.state p.buffer p.out (Ok (A.Write d.state.put (written_out d.state))) p.buffer m → From s p
    after_write h w = by (dec_lt (runs.left s d.state.phase (p.base + d.state.at)) (left_of s p))
      where
        to : Stand
        to = record { base = p.base; last = p.last; end = p.end; state = written_out d.state; buffer = p.buffer; out = m }

        ready : Ready s to
        ready =
            record {
              holds = y.holds;
              place = record { buffer = y.place.buffer; window = (let n = size in omega (arith, onward.within)); output = omega arith };
              room = y.room;
              rows = rw out_size y.rows;
              counted = record { read = counted.read; refused = counted.refused };
            }

        on : From s to → From s p
        on r = record { bytes = _; program = D.writes w r.program }

        by : Dec (runs.left s d.state.phase (p.base + d.state.at) < left_of s p) → From s p
        by (yes z) =
            on (again to ready 1 0 (record { few = (omega arith, omega arith); front = λ q. absurd (omega arith); full = λ q. absurd (omega arith); empty = λ q. refl }) (omega arith))
        by (no z) = go g refl k.empty
          where
            same : d.state.at ≡ p.state.at
            same =
                let n = size in
                omega (arith, less, in_window, onward.within, y.holds.within, runs.rank_most d.state.phase, runs.rank_most p.state.phase)

            go : (g' : ℕ) → g ≡ g' → (g' ≡ 0 → p.state.put ≡ 0) → From s p
            go zero i j = absurd (z (row_less (let q = j refl in omega arith)))
            go (suc g') i j = on (again to ready f 0 (record { few = (k.few.0, omega arith); front = λ q. same ∙ k.front q; full = k.full; empty = λ q. refl }) (omega (arith, less)))

    ends_here : d.why ≡ W.Done → From s p
    ends_here e = by (dec_le (last_filled d.state) (length m))
      where
        by : Dec (last_filled d.state ≤ length m) → From s p
        by (yes h) = record { bytes = _; program = D.lasts (does e (lasts h refl refl refl)) }
        by (no h) =
            let a = counted.read in
            let c = counted.refused in
            let t = total_few d.state.totals.read d.state.totals.refused (omega arith) (omega arith) in
            let n = out_size in
            after_write (omega (arith, y.rows)) (does e (clears (omega arith) refl refl refl))

    goes : From s p
    goes = by d.why refl
      where
        by : (why : Why) → d.why ≡ why → From s p
        by W.Beyond e = absurd (drive_inside x in_window e)
        by W.More e = after_read e
        by W.Full e = after_write (omega (arith, drive_full x in_window e, y.rows)) (does e (writes refl refl refl))
        by W.Done e = ends_here e

  serve : From s p
  serve = let a = answered p.last (take p.end p.buffer) p.state p.out in_window in goes a.to a.out a.drives

served : (s : List ℕ) (n : ℕ) (p : Stand) → Ready s p → (f g : ℕ) → Marked p f g → to_go s p f g ≤ n → From s p
served s zero p y f g k h = serve s p y f g k (λ q a b c d e. absurd (omega arith))
served s (suc n) p y f g k h = serve s p y f g k (λ q a b c d e. served s n q a b c d (omega arith))

pub serves : Serves
unfolding Serves
serves s b l h i =
    let p : Stand = record { base = 0; last = false; end = 0; state = start; buffer = b; out = l } in
    let r = served s (to_go s p 1 0) p
    (record {
      holds = record { within = omega arith; part = refl; all = λ e. absurd (false≢true e) };
      place = record { buffer = omega arith; window = omega arith; output = omega arith };
      room = h;
      rows = i;
      counted = record { read = omega arith; refused = omega arith };
    })
    1 0 (record { few = (omega arith, omega arith); front = λ q. refl; full = λ q. absurd (omega arith); empty = λ q. refl }) (omega arith) in
    record { bytes = r.bytes; program = r.program }
