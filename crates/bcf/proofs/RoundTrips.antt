-- Any reader and writer that meet what is asked are exact, and each other's way back: both go by what is laid out. Assumes nothing.
use Prim.Native.Nat.{ℕ, ◌+◌, ◌≤◌, ◌<◌}
use mathlib.Core.Path.{◌≡◌, refl, sym, ap, ◌∙◌, subst}
use mathlib.Core.List.{List, [], ◌∷◌}
use native.Mathlib.Omega.{arith}
use native.Mathlib.Nat.{eq_of_mul-eq-mul_left, mul-lt-mul_of_pos_left, mul-le-mul_left}
use native.Mathlib.Decide.{dec_le}
use lib.ListN.{length, take, drop}
use lib.Seq.{take-append_seam}
use Rattle.text.specs.Answer.{Answer, says, number_of}
use Rattle.text.specs.Over.{over}
use Rattle.text.specs.Outcome as T
use Rattle.text.proofs.Lists.{over_is, take_over_at}
use Rattle.allele.specs.declared.allele.Allele.{Allele}
use Rattle.genotype.specs.Demands.{Outcome}
use Rattle.bcf.specs.Layout.{size, Lays}
use Rattle.bcf.specs.declared.width.Width.{Width}
use Rattle.bcf.specs.Demands as D
use Rattle.bcf.specs.Writing.{vector_of, smallest}
use Rattle.bcf.specs.Demands.{Least, WasRead, NotRead, Told, MeetsTold, Writer, WasWritten, NotWritten, MeetsWriting, ExactReading, ExactWriting, WrittenRead, Rewritten, ReadWritten, Follow}
use Rattle.bcf.proofs.EntryLaws.{count_is}
use Rattle.bcf.proofs.LayoutLaws.{lays_length, lays_count}
use Rattle.bcf.proofs.VectorLaws.{lays_has}
use Rattle.bcf.proofs.SmallestLaws.{smallest_least, smallest_lays, one_least}
use Rattle.bcf.proofs.MeetsReading.{reads_list}
use Rattle.bcf.proofs.MeetsWriting.{no_vector, writes_vector}

-- a list laid over a row begins it
pub begins : (as' row : List Allele) → take (length as') (over as' row) ≡ as'
begins as' row = rw (over_is as' row) (take-append_seam as' _)

-- and so does one that was read, as many as were counted
pub read_begins : {w : Width} {v : List ℕ} {row : List Allele} {o : Outcome} {c : ℕ} (r : WasRead w v row o) → o.answer ≡ says 0 (c ∷ []) → take c o.row ≡ r.list
read_begins {row = row} {c = c} r e = let i : c ≡ length r.list = cc r.count in rw (r.holds, i) (begins r.list row)

-- what was written lies at the place, as many bytes as were counted
pub written_there : {n : ℕ} {as' : List Allele} {out : List ℕ} {at : ℕ} {o : T.Outcome} {b c : ℕ} (r : WasWritten n as' out at o) → o.answer ≡ says 0 (b ∷ c ∷ [])
    → take c (drop at o.output) ≡ r.vector
written_there {out = out} {at} {c = c} r e = let i : c ≡ length r.vector = cc r.count in rw r.bytes (take_over_at at r.vector out c (omega arith) i)

module _ (read : Told) (m : MeetsTold read) where
  exact_reading : ExactReading read
  unfolding ExactReading
  exact_reading w v row room =
      (λ z as' n l. by (((m.known w).refusals v row _ z).0 refl) l, λ n z. let r = (m.known w).reads v row z in n r.list r.entries r.lays)
    where
      by : {a : Answer} → NotRead w v row a → {as' : List Allele} {n : ℕ} → Lays w as' n v → ⊥
      by (D.bad u) l = u _ _ l
      by (D.short k o) l = let h = room _ _ k in omega arith

module _ (write : Writer) (m : MeetsWriting write) where
  exact_writing : ExactWriting write
  unfolding ExactWriting
  exact_writing n as' out at h room =
      (λ z w v l. by ((m.refusals n as' out at _ z).0 refl) l, λ u z. let r = m.writes n as' out at z in u r.width r.vector r.lays)
    where
      by : {a : Answer} → NotWritten n as' out at a → {w : Width} {v : List ℕ} → Lays w as' n v → ⊥
      by (D.beyond o) l = omega arith
      by (D.none o u) l = no_vector u (lays_has l)
      by (D.short o k s f) l = let r = room _ _ k s in omega arith

  -- a list with a vector has that of the smallest width, which is no longer, and is the same exactly where the width is
  module _ {w : Width} {as' : List Allele} {n : ℕ} {v : List ℕ} (l : Lays w as' n v) (out : List ℕ) (at : ℕ) (h : at + length v ≤ length out) where
    some : 0 < n
    some = let g = lays_has l in omega arith

    least : size w ≤ size (smallest as') → Least w as' n
    unfolding Least
    least s u x k = let t = smallest_least as' n u x k in omega arith

    rewritten : Rewritten w v n as' out at (write n as' out at)
    unfolding Least
    rewritten =
        let k = smallest_lays l in
        let s = smallest_least as' n in
        let i = lays_length l in
        let j = lays_length k in
        let t = mul-le-mul_left n (s w v l) in
        let o = writes_vector m k s out at (omega arith) in
        record {
          width = smallest as';
          vector = vector_of (smallest as') n as';
          count = rw o;
          bytes = rw o;
          lays = k;
          least = s;
          same = (λ e. least (omega (arith, eq_of_mul-eq-mul_left n some (size w) (size (smallest as')) (sym i ∙ ap length (sym e) ∙ j))), λ z. (one_least k s l z).1);
          fewer = λ z. elim (dec_le (size w) (size (smallest as'))) [ yes q ↦ absurd (z (least q)) | no q ↦ rw (i, j) (mul-lt-mul_of_pos_left (omega arith) some) ];
        }

module _ (read : Told) (write : Writer) (m : MeetsTold read) (m' : MeetsWriting write) where
  written_read : WrittenRead read write
  unfolding WrittenRead
  written_read n as' out at b k row e h =
      let r = m'.writes n as' out at (ap number_of e) in
      let i : b ≡ size r.width = cc r.count in
      rw (i, written_there r e) (reads_list (m.known r.width) r.lays row h)

  read_written : ReadWritten read write
  unfolding ReadWritten
  read_written w v row c n out at e s h =
      let r = (m.known w).reads v row (ap number_of e) in
      let j : r.entries ≡ n = lays_count r.lays ∙ rw s (count_is w n) in
      rw (read_begins r e) (rewritten write m' (subst (λ (k : ℕ). Lays w r.list k v) j r.lays) out at h)

pub follow : Follow
unfolding Follow
follow read write m m' =
    record {
      exact_reading = exact_reading read m;
      exact_writing = exact_writing write m';
      written_read = written_read read write m m';
      read_written = read_written read write m m';
    }
