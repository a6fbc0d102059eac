-- What is asked for can be done, by why the turns stop. Assumes nothing.
use Prim.Native.Nat.{ℕ, ◌-◌}
use mathlib.Core.Path.{◌≡◌, refl}
use mathlib.Core.Bool.{Bool}
use mathlib.Core.List.{List}
use native.Mathlib.Omega.{arith}
use lib.ListN.{take}
use lib.Seq.{length-take-le}
use Rattle.listing.specs.Demands.{Counted, Asked, AsksInRoom}
use Rattle.listing.specs.Drive.{Drives}
use Rattle.listing.specs.Ask.{InPlace, Wants, reads, writes, lasts, clears, asks, strays}
use Rattle.listing.specs.declared.drive.State.{State}
use Rattle.listing.specs.declared.drive.Why.{Why}
use Rattle.std.specs.Prelude.{Ok}
use Rattle.listing.specs.declared.ask.Ask.{Ask}
use Rattle.listing.proofs.RowSizes.{total_few}
use Rattle.listing.proofs.Told.{drive_counted, drive_size, drive_asks, drive_full}

module _ {last : Bool} {end : ℕ} {s : State} {b l : List ℕ} (i : InPlace end s b l) (c : Counted s) where
  wanted : {e : State} {m b' l' : List ℕ} {r : Ask} {why : Why} → Drives last (take end b) s l (record { why = why; state = e }) m
      → Wants end e b m r b' l' why → Asked last l (Ok r)
  wanted {e = e} x (reads p k v) =
      let n = length-take-le end b i.buffer in
      let a = drive_asks x (rw n i.window) refl in
      let q = a.1 in
      record {
        inside = λ z. (let o : ◌≡◌ {A = ℕ} 0 1 = cc in omega arith);
        reads = λ j f z. (let o : j ≡ end - e.at = cc in (a.0, omega arith));
        writes = λ j f z. (let o : ◌≡◌ {A = ℕ} 0 1 = cc in absurd (omega arith));
      }
  wanted {e = e} x (writes p k v) =
      let n = length-take-le end b i.buffer in
      let a = drive_full x (rw n i.window) refl in
      record {
        inside = λ z. (let o : ◌≡◌ {A = ℕ} 0 1 = cc in omega arith);
        reads = λ j f z. (let o : ◌≡◌ {A = ℕ} 0 1 = cc in absurd (omega arith));
        writes = λ j f z. (let o : j ≡ e.put = cc in omega arith);
      }
  wanted x (lasts h p k v) =
      record {
        inside = λ z. (let o : ◌≡◌ {A = ℕ} 0 1 = cc in omega arith);
        reads = λ j f z. (let o : ◌≡◌ {A = ℕ} 0 1 = cc in absurd (omega arith));
        writes = λ j f z. (let o : ◌≡◌ {A = ℕ} 0 1 = cc in absurd (omega arith));
      }
  wanted {e = e} x (clears h p k v) =
      let q = drive_counted x c in
      let a = q.read in
      let d = q.refused in
      let t = total_few e.totals.read e.totals.refused (omega arith) (omega arith) in
      let n = drive_size x i.output in
      record {
        inside = λ z. (let o : ◌≡◌ {A = ℕ} 0 1 = cc in omega arith);
        reads = λ j f z. (let o : ◌≡◌ {A = ℕ} 0 1 = cc in absurd (omega arith));
        writes = λ j f z. (let o : j ≡ e.put = cc in omega arith);
      }

pub asks_in_room : AsksInRoom
unfolding AsksInRoom
asks_in_room last end s b l r b' l' i c (asks j x y q) = rw q (wanted i c x y)
asks_in_room last end s b l r b' l' i c (strays j p k v) = absurd (j i)
