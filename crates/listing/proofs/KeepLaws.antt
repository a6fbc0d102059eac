-- The bytes between two places of a buffer, copied to its front, are laid over what stood there. Assumes nothing.
use Prim.Native.Nat.{ℕ, ◌-◌, ◌≤◌}
use mathlib.Core.Path.{◌≡◌, refl, ◌∙◌}
use mathlib.Core.List.{List}
use native.Mathlib.Omega.{arith}
use native.Mathlib.Nat.{zero-add}
use lib.ListN.{length, drop, length-drop}
use lib.Seq.{paste, length-take-le}
use Rattle.listing.specs.Ask.{kept_bytes}
use Rattle.listing.specs.Inner.{Keeps}
use Rattle.text.specs.Over.{over}

pub keeps : {from end : ℕ} {b b' : List ℕ} → from ≤ end → end ≤ length b → b' ≡ paste b 0 (drop from b) (end - from) → Keeps from end b (end - from) b'
unfolding kept_bytes over
keeps {from} {end} {b} p q e =
    record { count = refl; bytes = e ∙ rw (zero-add, length-take-le (end - from) (drop from b) (simp length-drop (omega arith))) }
