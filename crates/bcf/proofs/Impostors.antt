-- Readers and writers that the demands refuse, each on one short input: a phased 0, the largest allele of a width or the one above it, a
-- vector of one entry or two, and vectors that lay out nothing. Assumes nothing.
use Prim.Native.Nat.{ℕ, ◌+◌, ◌*◌, ◌≤◌, ◌<◌}
use mathlib.Core.Path.{◌≡◌, refl, sym, ap, ◌∙◌}
use mathlib.Core.Bool.{Bool, true, false, and-false, false≢true}
use mathlib.Core.List.{List, [], ◌∷◌}
use native.Mathlib.Omega.{arith}
use native.Mathlib.Nat.{le_refl}
use lib.ListN.{length, get_or}
use lib.Seq.{take_all}
use borrow.Author.Tests.{eq-eqb, ne_eqb}
use Rattle.text.specs.Same.{same}
use Rattle.text.specs.Answer.{says, number_of}
use Rattle.text.specs.Over.{over}
use Rattle.text.specs.Outcome as T
use Rattle.text.proofs.Lists.{take_over_at, length_over_at}
use Rattle.allele.specs.declared.allele.Allele.{Allele}
use Rattle.genotype.specs.Demands.{Outcome, Reader}
use Rattle.bcf.specs.Layout.{size, padding, largest, code_of, little_of, bytes_of, Codable, end, pad, code, Lays}
use Rattle.bcf.specs.declared.width.Width.{Width}
use Rattle.bcf.specs.declared.width.Width.TheVariants.{W8, W16, W32}
use Rattle.bcf.specs.Reading.{negative, entries_in, only_padding, is_vector, readable, width_by}
use Rattle.bcf.specs.Writing.{width_for}
use Rattle.bcf.specs.Demands as D
use Rattle.bcf.specs.Demands.{OneList, Least, MeetsReading, OneReader, Told, MeetsTold, Writer, MeetsWriting, OneWriter}
use Rattle.bcf.proofs.CodeLaws.{padding_is, negative_fits, largest_is, code_small}
use Rattle.bcf.proofs.EntryLaws.{Fit, none, more, entries_are}
use Rattle.bcf.proofs.ReadingLaws.{codes_more, codes_stop}
use Rattle.bcf.proofs.LayoutLaws.{one_list, lays_readable, lays_length}
use Rattle.bcf.proofs.VectorLaws.{lays_has}
use Rattle.bcf.proofs.SmallestLaws.{by_none, size_one, for_largest, widest, least_one, one_least}
use Rattle.bcf.proofs.MeetsReading.{reads_list, one_reader}
use Rattle.bcf.proofs.MeetsWriting.{writes_vector, one_writer}

-- ---- the input

-- an allele that is not missing
abbrev pub called : ℕ → Bool → Allele
called x p = record { number = x; missing = false; phased = p }

abbrev pub zero_phased : Bool → Allele
zero_phased p = called 0 p

abbrev pub numbered : ℕ → Allele
numbered x = called x true

codable : (w : Width) (x : ℕ) (p : Bool) → x ≤ largest w → Codable w (called x p)
codable w x p h = record { sound = λ e. absurd (false≢true e); small = h }

lays_one : (w : Width) (x : ℕ) (p : Bool) → x ≤ largest w → Lays w (called x p ∷ []) 1 (bytes_of w (code_of (called x p) ∷ []))
lays_one w x p h = record { some = omega arith; entries = code_of (called x p) ∷ []; count = refl; coded = code (codable w x p h) end; bytes = refl }

lays_two : (w : Width) (x : ℕ) (p : Bool) → x ≤ largest w → Lays w (called x p ∷ []) 2 (bytes_of w (code_of (called x p) ∷ padding w ∷ []))
lays_two w x p h =
    record { some = omega arith; entries = code_of (called x p) ∷ padding w ∷ []; count = refl; coded = code (codable w x p h) (pad end); bytes = refl }

-- no smaller width holds a width's largest allele, and none at all is smaller than that of 0
least_largest : (w : Width) (n : ℕ) → Least w (numbered (largest w) ∷ []) n
least_largest w n = rw (for_largest w) at (least_one (numbered (largest w)) n)

least_zero : (p : Bool) (n : ℕ) → Least W8 (zero_phased p ∷ []) n
unfolding width_for largest
least_zero p n = least_one (zero_phased p) n

phases_differ : ◌≡◌ {A = List Allele} (zero_phased true ∷ []) (zero_phased false ∷ []) → ⊥
phases_differ e = false≢true (sym (ap (λ (as' : List Allele). (get_or as' 0 (zero_phased true)).phased) e))

abbrev vector_one : Width → Bool → List ℕ
vector_one w p = bytes_of w (code_of (zero_phased p) ∷ [])

lays_zero : (w : Width) (p : Bool) → Lays w (zero_phased p ∷ []) 1 (vector_one w p)
lays_zero w p = lays_one w 0 p (omega arith)

vectors_differ : (w : Width) → vector_one w true ≡ vector_one w false → ⊥
unfolding OneList
vectors_differ w e = phases_differ (one_list w _ _ 1 1 (vector_one w true) (lays_zero w true) (rw e (lays_zero w false))).0

-- read into a row of one
read_one : {w : Width} {read : Reader} → MeetsReading w read → (p q : Bool)
    → read (vector_one w p) (zero_phased q ∷ []) ≡ record { answer = says 0 (1 ∷ []); row = zero_phased p ∷ [] }
unfolding over
read_one {w} m p q = reads_list m (lays_zero w p) (zero_phased q ∷ []) (omega arith)

-- written over as many bytes
written : {w : Width} {write : Writer} {as' : List Allele} {n : ℕ} {v : List ℕ} → MeetsWriting write → Lays w as' n v → Least w as' n → (out : List ℕ) → length out ≡ length v
    → (write n as' out 0).output ≡ v
written {v = v} m l s out h =
    let x = ap (λ (o : T.Outcome). o.output) (writes_vector m l s out 0 (omega arith)) in
    let i = length_over_at 0 v out (omega arith) in
    x ∙ sym (take_all (length v) _ (omega arith)) ∙ take_over_at 0 v out (length v) (omega arith) refl

written_one : {write : Writer} → MeetsWriting write → (p q : Bool) → (write 1 (zero_phased p ∷ []) (vector_one W8 q) 0).output ≡ vector_one W8 p
written_one m p q = written m (lays_zero W8 p) (least_zero p 1) (vector_one W8 q) (lays_length (lays_zero W8 q) ∙ sym (lays_length (lays_zero W8 p)))

-- entries that are no vector lay out no list
no_list : (w : Width) (es : List ℕ) → Fit w es → is_vector w es ≡ false → (as' : List Allele) (n : ℕ) → Lays w as' n (bytes_of w es) → ⊥
unfolding readable
no_list w es f e as' n l = false≢true (sym (and-false (same (bytes_of w es) (bytes_of w es))) ∙ (rw (entries_are w es f, e) at (lays_readable l)))

-- ---- refusing all

pub refuses_all_reader : (w : Width) (read : Reader) → ((v : List ℕ) (row : List Allele) → number_of (read v row).answer ≡ 0 → ⊥) → MeetsReading w read → ⊥
refuses_all_reader w read refuses m = refuses _ _ (ap (λ (o : Outcome). number_of o.answer) (read_one m true true))

-- ---- one list for all bytes

pub one_fixed_list : (w : Width) (read : Reader) → ((u v : List ℕ) (row : List Allele) → (read u row).row ≡ (read v row).row) → MeetsReading w read → ⊥
one_fixed_list w read fixed m =
    let row : (p : Bool) → (read (vector_one w p) (zero_phased true ∷ [])).row ≡ zero_phased p ∷ [] = λ p. ap (λ (o : Outcome). o.row) (read_one m p true) in
    phases_differ (sym (row true) ∙ fixed _ _ _ ∙ row false)

-- ---- an invented count

pub invented_count : (w : Width) (read : Reader) → MeetsReading w read → (read (vector_one w true) (zero_phased true ∷ [])).answer ≡ says 0 (2 ∷ []) → ⊥
invented_count w read m e =
    let r = ap (λ (o : Outcome). o.answer) (read_one m true true) in
    let y : ◌≡◌ {A = ℕ} 1 2 = cc in
    omega arith

-- ---- writing nothing

pub touches_nothing : (write : Writer) → ((n : ℕ) (as' : List Allele) (out : List ℕ) (at : ℕ) → (write n as' out at).output ≡ out) → MeetsWriting write → ⊥
touches_nothing write same m = vectors_differ W8 (sym (written_one m true false) ∙ same _ _ _ _)

-- ---- dropping the first phasing

pub unphased : List Allele → List Allele
unphased [] = []
unphased (a ∷ as') = record { number = a.number; missing = a.missing; phased = false } ∷ as'

-- a reader that is right in all else
abbrev pub dropping_reader : Reader → Reader
dropping_reader read v row = record { answer = (read v row).answer; row = unphased (read v row).row }

pub drops_first_phasing : (w : Width) (read : Reader) → MeetsReading w read → MeetsReading w (dropping_reader read) → ⊥
unfolding OneReader unphased
drops_first_phasing w read m m' =
    let r = ap (λ (o : Outcome). o.row) (read_one m true true) in
    let e = ap (λ (o : Outcome). o.row) (one_reader w read (dropping_reader read) m m' (vector_one w true) (zero_phased true ∷ [])) in
    phases_differ (sym r ∙ e ∙ ap unphased r)

-- and a writer that is right in all else
abbrev pub dropping_writer : Writer → Writer
dropping_writer write n as' out at = write n (unphased as') out at

pub drops_first_phasing_written : (write : Writer) → MeetsWriting write → MeetsWriting (dropping_writer write) → ⊥
unfolding OneWriter unphased
drops_first_phasing_written write m m' =
    let e = ap (λ (o : T.Outcome). o.output) (one_writer write (dropping_writer write) m m' 1 (zero_phased true ∷ []) (vector_one W8 true) 0) in
    vectors_differ W8 (sym (written_one m true true) ∙ e ∙ written_one m false true)

-- ---- padding with 0

pub pads_with_zero : (w : Width) (write : Writer) → MeetsWriting write → (out : List ℕ) → length out ≡ 2 * size w
    → (write 2 (numbered (largest w) ∷ []) out 0).output ≡ bytes_of w (code_of (numbered (largest w)) ∷ 0 ∷ []) → ⊥
pads_with_zero w write m out h e =
    let c : ℕ = code_of (numbered (largest w)) in
    let l = lays_two w (largest w) true (le_refl (largest w)) in
    let i = sym e ∙ written m l (least_largest w 2) out (h ∙ sym (lays_length l)) in
    let f = negative_fits w in
    let q = padding_is w in
    let b = code_small w (numbered (largest w)) (codable w (largest w) true (le_refl (largest w))) in
    let y = entries_are w (c ∷ padding w ∷ []) (more {e = c} (omega arith) (more {e = padding w} (omega arith) none)) in
    let z = entries_are w (c ∷ 0 ∷ []) (more {e = c} (omega arith) (more {e = 0} (omega arith) none)) in
    let d : 0 ≡ padding w = ap (λ (es : List ℕ). get_or es 1 0) (sym z ∙ ap (entries_in w) i ∙ y) in
    omega arith

-- ---- the highest byte first

-- 129 is the code of a phased 63, which 8 bits do not hold: 81 00 hex
pub big_endian : (write : Writer) → MeetsWriting write → (out : List ℕ) → length out ≡ 2 → (write 1 (numbered 63 ∷ []) out 0).output ≡ 0 ∷ 129 ∷ [] → ⊥
unfolding size largest width_for code_of little_of bytes_of
big_endian write m out h e =
    let x = written m (lays_one W16 63 true (omega arith)) (least_one (numbered 63) 1) out h in
    let z : ◌≡◌ {A = ℕ} 0 129 = ap (λ (v : List ℕ). get_or v 0 0) (sym e ∙ x) in
    omega arith

-- ---- what lays out nothing

-- 80 hex, and its like in the other widths
pub reads_the_lowest : (w : Width) (read : Reader) → MeetsReading w read → (row : List Allele) → number_of (read (bytes_of w (negative w ∷ [])) row).answer ≡ 0 → ⊥
unfolding is_vector
reads_the_lowest w read m row z =
    let r = m.reads _ row z in
    let f = negative_fits w in
    no_list w (negative w ∷ []) (more {e = negative w} (omega arith) none) (rw (codes_stop w (negative w) [] (omega arith))) r.list r.entries r.lays

-- padding between two alleles
pub passes_over_padding : (w : Width) (read : Reader) → MeetsReading w read → (row : List Allele) → number_of (read (bytes_of w (3 ∷ padding w ∷ 3 ∷ [])) row).answer ≡ 0 → ⊥
unfolding is_vector only_padding
passes_over_padding w read m row z =
    let r = m.reads _ row z in
    let f = negative_fits w in
    let q = padding_is w in
    let b = largest_is w in
    let h : 3 < negative w = omega arith in
    no_list w (3 ∷ padding w ∷ 3 ∷ []) (more {e = 3} (omega arith) (more {e = padding w} (omega arith) (more {e = 3} (omega arith) none)))
    (rw
    (codes_more w 3 (padding w ∷ 3 ∷ []) h, codes_stop w (padding w) (3 ∷ []) (omega arith), eq-eqb (padding w) (padding w) refl, ne_eqb 3 (padding w) (λ e. omega arith)))
    r.list r.entries r.lays

-- ---- the largest allele

pub refuses_the_largest : (w : Width) (write : Writer) → MeetsWriting write → (out : List ℕ) → size w ≤ length out
    → (write 1 (numbered (largest w) ∷ []) out 0).answer ≡ says 24 [] → ⊥
refuses_the_largest w write m out h e =
    let l = lays_one w (largest w) true (le_refl (largest w)) in
    let n = lays_length l in
    let y : ◌≡◌ {A = ℕ} 0 24 = ap number_of (sym (ap (λ (o : T.Outcome). o.answer) (writes_vector m l (least_largest w 1) out 0 (omega arith))) ∙ e) in
    omega arith

pub writes_past_the_largest : (write : Writer) → MeetsWriting write → (n : ℕ) (out : List ℕ) (at : ℕ)
    → number_of (write n (numbered (largest W32 + 1) ∷ []) out at).answer ≡ 0 → ⊥
writes_past_the_largest write m n out at z =
    let r = m.writes n (numbered (largest W32 + 1) ∷ []) out at z in
    let h = (lays_has r.lays).small.each 0 (omega arith) in
    let l = widest r.width in
    omega arith

-- ---- a width other than the smallest

-- a wider one for a phased 0
pub too_wide : (write : Writer) → MeetsWriting write → (out : List ℕ) (at b k : ℕ) → (b ≡ 1 → ⊥) → (write 1 (zero_phased true ∷ []) out at).answer ≡ says 0 (b ∷ k ∷ []) → ⊥
unfolding size
too_wide write m out at b k n e =
    let r = m.writes 1 (zero_phased true ∷ []) out at (ap number_of e) in
    let w = (one_least r.lays r.least (lays_zero W8 true) (least_zero true 1)).0 in
    let i : b ≡ size r.width = cc r.count in
    n (i ∙ ap size w)

-- one that does not hold the allele
pub too_narrow : (w : Width) (write : Writer) → MeetsWriting write → (n : ℕ) (out : List ℕ) (at k : ℕ)
    → (write n (numbered (largest w + 1) ∷ []) out at).answer ≡ says 0 (size w ∷ k ∷ []) → ⊥
too_narrow w write m n out at k e =
    let r = m.writes n (numbered (largest w + 1) ∷ []) out at (ap number_of e) in
    let h = (lays_has r.lays).small.each 0 (omega arith) in
    let i : size r.width ≡ size w = cc r.count in
    let l = ap largest (size_one r.width w i) in
    omega arith

-- ---- told a width that there is not

told_three : {read : Told} → MeetsTold read → (v : List ℕ) (row : List Allele) → number_of (read 3 v row).answer ≡ 27
unfolding width_by
told_three m v row = rw (m.unknown 3 ((by_none 3).0 refl) v row)

pub reads_at_three : (read : Told) → MeetsTold read → (v : List ℕ) (row : List Allele) → number_of (read 3 v row).answer ≡ 0 → ⊥
reads_at_three read m v row z = let e = told_three m v row in omega arith

-- 26 before 27
pub bytes_before_width : (read : Told) → MeetsTold read → (row : List Allele) → (read 3 [] row).answer ≡ says 26 [] → ⊥
bytes_before_width read m row z = let e = told_three m [] row in let y = ap number_of z in omega arith

-- ---- room before the rest

pub room_first : (write : Writer) → MeetsWriting write → (write 0 [] [] 0).answer ≡ says 17 [] → ⊥
room_first write m e =
    let d = (m.refusals 0 [] [] 0 (says 11 []) (λ z. omega arith)).1 (D.none (omega arith) D.empty) in
    let y : ◌≡◌ {A = ℕ} 17 11 = ap number_of (sym e ∙ d) in
    omega arith
