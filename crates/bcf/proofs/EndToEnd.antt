-- What the writer leaves is the smallest vector and reads back as the list written, and what the reader leaves writes back as that vector, by
-- both contracts: the demands' reader and writer do so, and the functions over slices do as they do. Assumes nothing.
use Prim.Native.Nat.{ℕ}
use mathlib.Core.Path.{◌≡◌, sym, ap, ◌∙◌}
use mathlib.Core.Bool.{Bool, true, false}
use mathlib.Core.List.{List, [], ◌∷◌}
use native.Mathlib.Omega.{arith}
use lib.ListN.{length, take, drop}
use lib.Dec.{leb}
use Rattle.std.specs.Prelude.{Result}
use Rattle.text.specs.Pick.{pick}
use Rattle.text.specs.Answer.{says, number_of}
use Rattle.allele.specs.Row.{row_of, Parallel}
use Rattle.allele.proofs.RowLaws.{row_length, row_begins, even_begins}
use Rattle.allele.specs.declared.allele.Allele.{Allele}
use Rattle.genotype.specs.Inner.{Laid}
use Rattle.genotype.specs.Answers as G
use Rattle.genotype.proofs.AnswerLaws.{row_done_nm, row_done_np}
use Rattle.bcf.specs.Layout.{size}
use Rattle.bcf.specs.declared.width.Width.{Width}
use Rattle.bcf.specs.Reading.{list_read, slices_answer, ReadsVector, told_answer, told_list, ReadsTold}
use Rattle.bcf.specs.Writing.{list_answer, row_answer}
use Rattle.bcf.specs.Demands.{told, writer, WrittenRead, ReadWritten, SlicesReader, SlicesWriter, Follow, RoundTrips}
use Rattle.bcf.specs.EndToEnd.{Wrote, ChoosesSmallest, ReadsBack, WritesBack}
use Rattle.bcf.specs.Paper.{read_paper}
use Rattle.bcf.specs.declared.read.ReadError.{ReadError}
use Rattle.bcf.proofs.LayoutLaws.{lays_read, lays_length}
use Rattle.bcf.proofs.SmallestLaws.{width_by_lem}
use Rattle.bcf.proofs.MeetsReading.{meets_told}
use Rattle.bcf.proofs.MeetsWriting.{meets_writing}
use Rattle.bcf.proofs.RoundTrips.{read_begins, written_there, follow}
use Rattle.bcf.proofs.Slices.{slices_reader, slices_writer}

ours : RoundTrips told writer
unfolding Follow
ours = follow told writer meets_told meets_writing

-- ---- slices that an answer of 0 was given for have one length

write_even : (n m p : List ℕ) (k : ℕ) (out : List ℕ) (at : ℕ) → number_of (row_answer k n m p out at) ≡ 0 → Parallel n m p
unfolding row_answer
write_even n m p k out at z = by (leb at (length out)) z
  where
    by : (b : Bool) → number_of (pick b (G.row_answer n m p (list_answer k (row_of n m p) (length (drop at out)))) (says 6 [])) ≡ 0 → Parallel n m p
    by true z = record { missing = row_done_nm n m p _ z; phased = row_done_np n m p _ z }
    by false z = absurd (omega arith)

read_even : (w : Width) (v n m p : List ℕ) → number_of (slices_answer w v n m p) ≡ 0 → Parallel n m p
read_even w v n m p z = record { missing = row_done_nm n m p _ z; phased = row_done_np n m p _ z }

-- ---- read by the width that was told

module _ (w : Width) (v n m p : List ℕ) {r : Result ℕ ReadError} {n' m' p' : List ℕ} where
  told_vector : ReadsTold (size w) v n m p r n' m' p' → ReadsVector w v n m p r n' m' p'
  unfolding told_answer told_list
  told_vector g = rw (width_by_lem w) at g

  -- the list begins the slices
  held : {c : ℕ} {as' : List Allele} → ReadsVector w v n m p r n' m' p' → read_paper r ≡ says 0 (c ∷ []) → list_read w v ≡ as' → Laid as' n m p n' m' p'
  held {c = c} g e l =
      let a : slices_answer w v n m p ≡ says 0 (c ∷ []) = sym g.answer ∙ e in
      record { numbers = rw (a, l) at g.numbers; missing = rw (a, l) at g.missing; phased = rw (a, l) at g.phased }

-- ---- written, then read

module _ (n m p : List ℕ) (k : ℕ) (out : List ℕ) (at b c : ℕ) (out' : List ℕ) (o : Wrote n m p k out at b c out') where
  wrote_even : Parallel n m p
  wrote_even = write_even n m p k out at (ap number_of (sym o.vector.answer ∙ o.done))

  -- as the writer of the demands
  wrote : ((writer k (row_of n m p) out at).answer ≡ says 0 (b ∷ c ∷ [])) × (out' ≡ (writer k (row_of n m p) out at).output)
  unfolding SlicesWriter
  wrote = let s = slices_writer n m p k out at o.answer out' wrote_even o.vector in (sym s.0 ∙ o.done, s.1)

pub chooses_smallest : ChoosesSmallest
unfolding ChoosesSmallest
chooses_smallest n m p k out at b c out' o =
    let s = wrote n m p k out at b c out' o in
    let d = meets_writing.writes k (row_of n m p) out at (ap number_of s.0) in
    let t : take c (drop at out') ≡ d.vector = ap (λ (l : List ℕ). take c (drop at l)) s.1 ∙ written_there d s.0 in
    let i : c ≡ length d.vector = cc (s.0, d.count) in
    record { width = d.width; is = cc (s.0, d.count); count = i ∙ lays_length d.lays; lays = rw t d.lays; least = d.least }

pub reads_back : ReadsBack
unfolding ChoosesSmallest ReadsBack WrittenRead SlicesReader
reads_back n m p k out at b c out' o n₂ m₂ p₂ r n₂' m₂' p₂' q h g =
    let len = row_length n m p (wrote_even n m p k out at b c out' o) in
    let len₂ = row_length n₂ m₂ p₂ q in
    let s = wrote n m p k out at b c out' o in
    let d = chooses_smallest n m p k out at b c out' o in
    let v : List ℕ = take c (drop at out') in
    let t = ours.written_read k (row_of n m p) out at b c (row_of n₂ m₂ p₂) s.0 (omega arith) in
    let a : read_paper r ≡ says 0 (length (row_of n m p) ∷ []) = (slices_reader b v n₂ m₂ p₂ r n₂' m₂' p₂' q g).0 ∙ rw (s.1, t) in
    let x = held d.width v n₂ m₂ p₂ (told_vector d.width v n₂ m₂ p₂ (rw d.is at g)) a (lays_read d.lays) in
    record { answer = rw len at a; row = row_begins (row_of n m p) n₂ m₂ p₂ x.numbers x.missing x.phased len }

-- ---- read, then written

pub writes_back : WritesBack
unfolding WritesBack ReadWritten SlicesReader SlicesWriter
writes_back w v n m p c n' m' p' o k out at r out' s h g =
    let u = told_vector w v n m p o.vector in
    let even = read_even w v n m p (ap number_of (sym u.answer ∙ o.done)) in
    let done = sym (slices_reader (size w) v n m p o.answer n' m' p' even o.vector).0 ∙ o.done in
    let d = (meets_told.known w).reads v (row_of n m p) (ap number_of done) in
    let i : length d.list ≡ c = cc (done, d.count) in
    let x = held w v n m p u o.done (lays_read d.lays) in
    let b = row_begins d.list n m p x.numbers x.missing x.phased i in
    let t = slices_writer (take c n') (take c m') (take c p') k out at r out' (even_begins d.list n m p x.numbers x.missing x.phased i) g in
    let y = ours.read_written w v (row_of n m p) c k out at done s h in
    rw (t.0, t.1, b) (rw (read_begins d done) at y)
