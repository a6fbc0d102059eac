-- A program that does what it is asked is a run: its buffer holds a window of the input, by what is kept and what is read behind it.
-- Assumes nothing.
use Rattle.std.specs.Prelude.{Ok}
use Prim.Native.Nat.{ℕ, ◌+◌, ◌-◌, ◌≤◌}
use mathlib.Core.Path.{◌≡◌, refl, sym, ap, ◌∙◌, subst}
use mathlib.Core.Bool.{Bool, false, false≢true}
use mathlib.Core.List.{List, ◌++◌}
use native.Mathlib.Omega.{arith}
use lib.ListN.{length, take}
use Rattle.text.specs.Over.{over_at}
use Rattle.listing.specs.Demands.{Holds, KeepsWindow, Running, finishes, drives, shifts, flushes, WritesAll, ReadsOn, Program, ListsAll}
use Rattle.listing.specs.Demands as D
use Rattle.listing.specs.Drive.{Drives}
use Rattle.listing.specs.Ask.{kept_bytes, at_front, written_out, total_of, last_filled, InPlace, Wants, reads, writes, lasts, clears, Asks, asks, strays}
use Rattle.listing.specs.declared.drive.State.{State}
use Rattle.listing.specs.declared.drive.Why.{Why}
use Rattle.listing.specs.declared.drive.Why.TheVariants as W
use Rattle.listing.specs.declared.drive.Driven.{Driven}
use Rattle.listing.specs.declared.ask.Ask.TheVariants as A
use Rattle.listing.proofs.PrintLaws.{take_laid}
use Rattle.listing.proofs.Windows.{keeps_window, kept_length, grows}
use Rattle.listing.proofs.AskLaws.{at_within}
use Rattle.listing.proofs.WritesAll.{writes_all}

-- ---- what was kept, and what was read behind it, is a window

module _ {s : List ℕ} {base : ℕ} (at end : ℕ) {last : Bool} (b : List ℕ) (h : Holds s base (take end b) last) (i : at ≤ end) (j : end ≤ length b) where
  kept_on : {v b'' : List ℕ} {last' : Bool} → ReadsOn s (base + end) (end - at) (kept_bytes at end b) v last' b''
      → Holds s (base + at) (take (end - at + length v) b'') last'
  unfolding KeepsWindow
  kept_on {v} {b''} {last'} r =
      let n = kept_length at end b i j in
      let k = keeps_window s base at end b false i j (record { within = h.within; part = h.part; all = λ e. absurd (false≢true e) }) in
      let p : base + at + length (take (end - at) (kept_bytes at end b)) ≡ base + end = omega arith in
      rw r.bytes (grows s (base + at) (take (end - at) (kept_bytes at end b)) v last' k (rw p r.next))

  pub read_on : {n : ℕ} {b' v b'' : List ℕ} {last' : Bool} → n ≡ end - at → b' ≡ kept_bytes at end b → ReadsOn s (base + end) n b' v last' b''
      → Holds s (base + (end - n)) (take (n + length v) b'') last'
  read_on c k r =
      let p : end - (end - at) ≡ at = omega arith in
      rw (c, p) (kept_on (rw (c, k) at r))

-- ---- what was asked for, and from which state

record AskedRead (last : Bool) (end : ℕ) (st : State) (b l : List ℕ) (n : ℕ) (e : State) (b' l' : List ℕ) : Type 0 where
  place : InPlace end st b l
  to : Driven
  driven : Drives last (take end b) st l to l'
  count : n ≡ end - to.state.at
  state : e ≡ at_front to.state
  kept : b' ≡ kept_bytes to.state.at end b

record AskedWrite (last : Bool) (end : ℕ) (st : State) (b l : List ℕ) (n : ℕ) (e : State) (b' l' : List ℕ) : Type 0 where
  to : Driven
  driven : Drives last (take end b) st l to l'
  count : n ≡ to.state.put
  state : e ≡ written_out to.state
  buffer : b' ≡ b

record AskedLast (last : Bool) (end : ℕ) (st : State) (b l : List ℕ) (n : ℕ) (l' : List ℕ) : Type 0 where
  to : State
  out : List ℕ
  driven : Drives last (take end b) st l (record { why = W.Done; state = to }) out
  room : last_filled to ≤ length out
  count : n ≡ last_filled to
  laid : l' ≡ over_at to.put (total_of to) out

module _ {last : Bool} {end : ℕ} {st : State} {b l b' l' : List ℕ} {n : ℕ} where
  asked_read : {e : State} → Asks last end st b l (Ok (A.Read n e)) b' l' → AskedRead last end st b l n e b' l'
  asked_read (strays i p k v) = let z : ◌≡◌ {A = ℕ} 0 1 = cc in absurd (omega arith)
  asked_read {e} (asks {d = d} {m = m} {ask = ask} i x y q) = let z : ask ≡ A.Read n e = cc in by (rw z at y) x
    where
      by : {why : Why} → Wants end d.state b m (A.Read n e) b' l' why → Drives last (take end b) st l d m → AskedRead last end st b l n e b' l'
      by (reads p k v) x = record { place = i; to = d; driven = rw v x; count = cc; state = cc; kept = k }
      by (writes p k v) x = let z : ◌≡◌ {A = ℕ} 0 1 = cc in absurd (omega arith)
      by (lasts h p k v) x = let z : ◌≡◌ {A = ℕ} 0 1 = cc in absurd (omega arith)
      by (clears h p k v) x = let z : ◌≡◌ {A = ℕ} 0 1 = cc in absurd (omega arith)

  asked_write : {e : State} → Asks last end st b l (Ok (A.Write n e)) b' l' → AskedWrite last end st b l n e b' l'
  asked_write (strays i p k v) = let z : ◌≡◌ {A = ℕ} 0 1 = cc in absurd (omega arith)
  asked_write {e} (asks {d = d} {m = m} {ask = ask} i x y q) = let z : ask ≡ A.Write n e = cc in by (rw z at y) x
    where
      by : {why : Why} → Wants end d.state b m (A.Write n e) b' l' why → Drives last (take end b) st l d m → AskedWrite last end st b l n e b' l'
      by (reads p k v) x = let z : ◌≡◌ {A = ℕ} 0 1 = cc in absurd (omega arith)
      by (writes p k v) x = record { to = d; driven = rw v x; count = cc; state = cc; buffer = k }
      by (lasts h p k v) x = let z : ◌≡◌ {A = ℕ} 0 1 = cc in absurd (omega arith)
      by (clears h p k v) x = record { to = d; driven = rw v x; count = cc; state = cc; buffer = k }

  asked_last : Asks last end st b l (Ok (A.Last n)) b' l' → AskedLast last end st b l n l'
  asked_last (strays i p k v) = let z : ◌≡◌ {A = ℕ} 0 1 = cc in absurd (omega arith)
  asked_last (asks {d = d} {m = m} {ask = ask} i x y q) = let z : ask ≡ A.Last n = cc in by (rw z at y) x
    where
      by : {why : Why} → Wants end d.state b m (A.Last n) b' l' why → Drives last (take end b) st l (record { why = why; state = d.state }) m
          → AskedLast last end st b l n l'
      by (reads p k v) x = let z : ◌≡◌ {A = ℕ} 0 1 = cc in absurd (omega arith)
      by (writes p k v) x = let z : ◌≡◌ {A = ℕ} 0 1 = cc in absurd (omega arith)
      by (lasts h p k v) x = record { to = d.state; out = m; driven = x; room = h; count = cc; laid = v }
      by (clears h p k v) x = let z : ◌≡◌ {A = ℕ} 0 1 = cc in absurd (omega arith)

-- ---- a program

flushed : {s : List ℕ} {base : ℕ} {w : List ℕ} {last : Bool} {st e : State} {l l' bytes : List ℕ} {d : Driven} {n : ℕ} → Holds s base w last
    → Drives last w st l d l' → n ≡ d.state.put → e ≡ written_out d.state → Running s base e l' bytes → Running s base st l (take n l' ++ bytes)
flushed {l' = l'} {d = d} h x c p z = rw c (drives h x (flushes {st = d.state} {l' = l'} (rw p at z)))

running : {s : List ℕ} {base end : ℕ} {last : Bool} {st : State} {b l bytes : List ℕ} → Program s base last end st b l bytes → Holds s base (take end b) last
    → Running s base st l bytes
running {s} {base} {end} {last} {st} {b} {l} (D.reads {n = n} {last' = last'} {e = e} {b' = b'} {b'' = b''} {v = v} {l' = l'} {bytes = bytes} a r p) h =
    drives h q.driven (shifts {st = q.to.state} (subst (λ (z : State). Running s (base + q.to.state.at) z l' bytes) q.state (rw place at (running p window))))
  where
    q : AskedRead last end st b l n e b' l'
    q = asked_read a

    within : q.to.state.at ≤ end
    within = at_within end b q.driven q.place.buffer q.place.window

    place : base + (end - n) ≡ base + q.to.state.at
    place = let c = q.count in let i = within in omega arith

    window : Holds s (base + (end - n)) (take (n + length v) b'') last'
    window = read_on q.to.state.at end b h within q.place.buffer q.count q.kept r
running (D.writes a p) h =
    let q = asked_write a in
    flushed h q.driven q.count q.state (running p (rw q.buffer h))
running {s} {base} {st = st} {l = l} (D.lasts {n = n} a) h =
    let q = asked_last a in
    subst (λ (z : List ℕ). Running s base st l z)
    (sym (ap (take n) q.laid ∙ take_laid q.to.put (total_of q.to) q.out n (omega (arith, q.room)) q.count))
    (finishes h q.driven)

pub lists_all : ListsAll
unfolding ListsAll WritesAll
lists_all s b l bytes rows p = writes_all s l bytes rows (running p (record { within = omega arith; part = refl; all = λ e. absurd (false≢true e) }))
