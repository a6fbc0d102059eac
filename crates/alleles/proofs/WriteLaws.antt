-- What is written at the start of the rest of an output is what the writer states of the whole. Assumes nothing.
use Prim.Native.Nat.{ℕ, ◌≤◌, ◌<◌, ◌-◌}
use native.Mathlib.Nat.{le_refl}
use mathlib.Core.Path.{◌≡◌}
use mathlib.Core.List.{List, ◌++◌, append-nil}
use lib.ListN.{length, take, drop, drop_of_length-le, length-drop}
use borrow.Rule.Slice.PartMut.{put_mid}
use Rattle.std.specs.Prelude.{Result, Err}
use Rattle.text.proofs.Lists.{rest_all}
use Rattle.allele.specs.declared.allele.Allele.{Allele}
use Rattle.spelling.specs.Permitted.{from44}
use Rattle.spelling.specs.Inner.{WritesList}
use Rattle.spelling.specs.Demands.{Fitting}
use Rattle.spelling.specs.declared.write.WriteError.{WriteError}
use Rattle.spelling.specs.declared.write.WriteError.TheVariants as W
use Rattle.spelling.proofs.ListLaws.{ListOutcome, list_beyond, list_rest}
use Rattle.alleles.specs.Write.{WritesAlleles}

-- ---- from a place of an output

put_end : (at : ℕ) (out ys : List ℕ) → put_mid at (length out - at) out ys ≡ take at out ++ ys
put_end at out ys = let n : length (drop at out) ≤ length out - at = simp length-drop (le_refl _) in rw (drop_of_length-le (drop at out) n, append-nil)

module _ (as' : List Allele) (major minor : ℕ) (out : List ℕ) (at : ℕ) (small : Fitting as') where
  writes_by : {r : Result ℕ WriteError} {out' : List ℕ} → ListOutcome as' (from44 major minor) out at r out' → WritesAlleles as' major minor out at r out'
  writes_by g = record { answer = g.answer; bytes = g.bytes; small = small }

  pub writes_beyond : length out < at → WritesAlleles as' major minor out at (Err W.Beyond) out
  writes_beyond h = writes_by (list_beyond as' (from44 major minor) out at h)

  pub writes_rest : {r : Result ℕ WriteError} {ys : List ℕ} → at ≤ length out → WritesList as' (from44 major minor) (take (length out - at) (drop at out)) r ys
      → WritesAlleles as' major minor out at r (put_mid at (length out - at) out ys)
  writes_rest {ys = ys} h w = rw (put_end at out ys) (writes_by (list_rest as' (from44 major minor) out at h (rw (rest_all out at) at w)))
