-- Each way through `ask_next` is a case of its definition. Assumes nothing.
use Prim.Native.Nat.{ℕ, ◌≤◌}
use mathlib.Core.Path.{◌≡◌, refl, sym, subst}
use mathlib.Core.Bool.{Bool}
use mathlib.Core.List.{List}
use native.Mathlib.Omega.{arith}
use lib.ListN.{length, take}
use lib.Seq.{length-take-le}
use Rattle.std.specs.Prelude.{Result, Ok, Err}
use Rattle.text.specs.declared.copy.NoRoom.{NoRoom}
use Rattle.listing.specs.Inner.{Keeps, Lays, has_room, no_room, Stopped}
use Rattle.listing.specs.Drive.{Drives}
use Rattle.listing.specs.Ask.{InPlace, at_front, written_out, total_of, Wants, reads, writes, lasts, clears, Asks, asks, strays}
use Rattle.listing.specs.declared.drive.State.{State}
use Rattle.listing.specs.declared.drive.Why.{Why}
use Rattle.listing.specs.declared.drive.Why.TheVariants as W
use Rattle.listing.specs.declared.drive.Driven.{Driven}
use Rattle.listing.specs.declared.ask.Ask.{Ask}
use Rattle.listing.specs.declared.ask.Ask.TheVariants as A
use Rattle.listing.proofs.Told.{drive_onward, drive_inside}

-- as many bytes as are lent
pub part_count : (n : ℕ) (l : List ℕ) → n ≤ length l → n ≡ length (take n l)
part_count n l h = sym (length-take-le n l h)

-- ---- places that are not in order

pub ask_strays : {last : Bool} {end : ℕ} {s : State} {b l : List ℕ} → (InPlace end s b l → ⊥) → Asks last end s b l (Err (record {})) b l
ask_strays n = strays n refl refl refl

-- ---- where the turns stop

module _ {last : Bool} (end : ℕ) {s : State} (b : List ℕ) {l l' : List ℕ} {d : Driven} (x : Drives last (take end b) s l d l') (h : end ≤ length b) (i : s.at ≤ end) where
  in_window : s.at ≤ length (take end b)
  in_window = let n = length-take-le end b h in omega arith

  pub at_within : d.state.at ≤ end
  at_within = let n = length-take-le end b h in let k = (drive_onward x in_window).within in omega arith

  pub ask_stopped : Stopped end d b
  ask_stopped = record { window = at_within; buffer = h; inside = drive_inside x in_window }

  pub asked : {ask : Ask} {b' l'' : List ℕ} → s.put ≤ length l → Wants end d.state b l' ask b' l'' d.why → Asks last end s b l (Ok ask) b' l''
  asked j y = asks (record { buffer = h; window = i; output = j }) x y refl

-- ---- why they stop

module _ {end : ℕ} {d : Driven} {b l : List ℕ} where
  pub wanted : {r : Ask} {b' l' : List ℕ} {why : Why} → d.why ≡ why → Wants end d.state b l r b' l' why → Wants end d.state b l r b' l' d.why
  wanted {r} {b'} {l'} q y = subst (λ (z : Why). Wants end d.state b l r b' l' z) (sym q) y

  pub ask_keeps : {n : ℕ} {b' : List ℕ} {e : State} → Keeps d.state.at end b n b' → e ≡ at_front d.state → d.why ≡ W.More
      → Wants end d.state b l (A.Read n e) b' l d.why
  ask_keeps w f q = wanted q (reads (rw (f, w.count)) w.bytes refl)

  pub ask_full : {e : State} → d.why ≡ W.Full → e ≡ written_out d.state → Wants end d.state b l (A.Write d.state.put e) b l d.why
  ask_full q f = wanted q (writes (rw f) refl refl)

  module _ (q : d.why ≡ W.Done) {r : Result ℕ NoRoom} {l' : List ℕ} (v : Lays d.state.put (total_of d.state) l r l') where
    pub ask_last : {n : ℕ} → r ≡ Ok n → Wants end d.state b l (A.Last n) b l' d.why
    ask_last {n} p = go (rw p at v)
      where
        go : Lays d.state.put (total_of d.state) l (Ok n) l' → Wants end d.state b l (A.Last n) b l' d.why
        go (has_room e a c) = wanted q (lasts (omega arith) (rw e) refl c)

    pub ask_clears : {e : State} {no : NoRoom} → r ≡ Err no → e ≡ written_out d.state → Wants end d.state b l (A.Write d.state.put e) b l' d.why
    ask_clears {e} {no} p f = go (rw p at v)
      where
        go : Lays d.state.put (total_of d.state) l (Err no) l' → Wants end d.state b l (A.Write d.state.put e) b l' d.why
        go (no_room a c) = wanted q (clears a (rw f) refl c)
