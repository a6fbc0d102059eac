-- The three steps, one after the other: what each found is what the next is given. Assumes nothing.
use Prim.Native.Nat.{ℕ, ◌≤◌}
use mathlib.Core.Path.{◌≡◌, sym}
use mathlib.Core.List.{List}
use native.Mathlib.Omega.{arith}
use lib.ListN.{length, take, drop}
use lib.Seq.{length-take-le}
use Rattle.std.specs.Prelude.{Ok, Err}
use Rattle.line.specs.Promises.{FindsLine, ReadsLine}
use Rattle.line.specs.Paper.{Lined}
use Rattle.line.specs.declared.extent.Extent.{Extent}
use Rattle.line.specs.declared.extent.Beyond.{Beyond}
use Rattle.line.specs.declared.read.Refusal.TheVariants as R
use Rattle.line.proofs.AnswerLaws.{reads_beyond, reads_end, keeps_refused}
use Rattle.line.proofs.Extents.{found, beyond}
use Rattle.splitter.specs.Inner.{tabs_from, Keeps, Seen}
use Rattle.splitter.specs.declared.split.Tabs.{Tabs}

module _ (s : List ℕ) (at : ℕ) {x : Lined} (f : FindsLine s at x) where
  pub found_beyond : {e : Beyond} → x ≡ Err e → ReadsLine s at (Err (R.Beyond at))
  found_beyond q = reads_beyond s at (beyond s at f q)

  module _ {y : Extent} (e : x ≡ Ok y) where
    pub found_within : y.end ≤ length s
    found_within = let g = found s at f e in omega (arith, g.ends, g.past, g.within)

    pub found_count : y.end ≡ length (take y.end s)
    found_count = sym (length-take-le y.end s found_within)

    pub found_after : at ≤ length (take y.end s)
    found_after = let g = found s at f e in omega (arith, g.ends, found_count)

    pub found_seen : {r : Tabs} → (at ≡ length s → ⊥) → Keeps (tabs_from at (drop at (take y.end s))) at (length (take y.end s)) r → Seen s at y r
    found_seen n k =
        record {
          inside = (let g = found s at f e in omega (arith, g.ends, g.past, g.within));
          found = rw e at f;
          tabs = rw (← found_count) at k;
        }

pub ruleset laws = (found_beyond, found_within, found_count, found_after, found_seen, reads_end, keeps_refused)
