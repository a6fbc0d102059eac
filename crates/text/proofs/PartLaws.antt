-- What is lent of a text from a range's start to its end is the part there, and two such parts are one. Assumes nothing.
use Prim.Native.Nat.{ℕ, ◌+◌, ◌-◌}
use mathlib.Core.Path.{◌≡◌, refl, sym, ap₂, ◌∙◌}
use mathlib.Core.List.{List}
use denote.Ref.{Bor}
use native.Mathlib.Omega.{arith}
use native.Mathlib.Nat.{add_comm}
use lib.ListN.{take, drop}
use borrow.Rule.Slice.PartAt.{sl_partˢ}
use Rattle.text.specs.Outcome.{OnePart}
use Rattle.text.specs.Range.{cut}
use Rattle.text.specs.Part.{Part}
use Rattle.text.specs.declared.range.Range.{Range}
use Rattle.text.proofs.Lists.{cut_is}

pub lent_cut : (r : Range) (t : List ℕ) → take (r.start + r.len - r.start) (drop r.start t) ≡ cut r t
lent_cut r t = let n : r.start + r.len - r.start ≡ r.len = omega arith in rw n (sym (cut_is r.start r.len t))

pub lent_part : (text : Bor (List ℕ)) (r : Range) → Part text r (sl_partˢ text (r.start + text.ref_ptr.1) r.start (r.start + r.len))
lent_part text r = record { memory = refl; place = add_comm r.start text.ref_ptr.1; bytes = lent_cut r text.now }

pub one_part : (text : Bor (List ℕ)) (range : Range) → OnePart (Part text range)
one_part text range r r' p p' =
    (ap₂ (λ (block place : ℕ). (block, place)) (p.memory ∙ sym p'.memory) (p.place ∙ sym p'.place), p.bytes ∙ sym p'.bytes)
