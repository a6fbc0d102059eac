-- What the writer leaves reads back as the list written, and is written again, by both contracts and nothing else: an answer that is done
-- is the one for the list, what is written means the list, and what means a list reads as it. Assumes nothing.
use Prim.Native.Nat.{ℕ, suc, ◌≤◌}
use mathlib.Core.Path.{◌≡◌, sym, ap, ◌∙◌}
use mathlib.Core.List.{List, [], ◌∷◌}
use native.Mathlib.Omega.{arith}
use lib.ListN.{length, take, drop}
use Rattle.std.specs.Prelude.{Result}
use Rattle.text.specs.Answer.{says, number_of}
use Rattle.text.proofs.OutcomeLaws.{written_length}
use Rattle.allele.specs.Row.{row_of, Parallel}
use Rattle.allele.proofs.MeansLaws.{reads_means}
use Rattle.genotype.specs.Answers.{ReadsText}
use Rattle.genotype.specs.declared.read.ReadError.{ReadError}
use Rattle.genotype.proofs.AnswerLaws.{Holds, reads_list}
use Rattle.genotype.proofs.MostLaws.{most_none, most_more}
use Rattle.spelling.specs.Permitted.{from44}
use Rattle.spelling.specs.Paper.{write_paper}
use Rattle.spelling.specs.Write.{row_answer, Small}
use Rattle.spelling.specs.Demands.{writer, Fitting, RoundTrip, OneSpelling, SlicesWriter, SlicesApart, SlicesSettle, SlicesLeast}
use Rattle.spelling.specs.EndToEnd.{Wrote, WrittenBack, ReadsBack}
use Rattle.allele.proofs.RowLaws.{row_length, row_begins, even_begins}
use Rattle.spelling.proofs.WriteLaws.{row_parallel}
use Rattle.spelling.proofs.Slices.{slices_writer}
use Rattle.spelling.proofs.Shortest.{none_shorter}
use Rattle.spelling.proofs.Exact.{meets}
use Rattle.spelling.proofs.RoundTrip.{round_trip}
use Rattle.spelling.proofs.Spellings.{one_spelling, ours_written, ours_shortest, ours_again}

-- ---- the list of three slices

small_rest : {x : ℕ} {n : List ℕ} → Small (x ∷ n) → Small n
small_rest s = record { each = λ i h. s.each (suc i) (omega arith) }

-- its numbers are those of the first slice
row_fits : (n m p : List ℕ) → Small n → Fitting (row_of n m p)
unfolding row_of
row_fits [] m p s = most_none
row_fits (x ∷ n) [] p s = most_none
row_fits (x ∷ n) (y ∷ m) [] s = most_none
row_fits (x ∷ n) (y ∷ m) (z ∷ p) s = most_more (s.each 0 (omega arith)) (row_fits n m p (small_rest s))

-- ---- the two contracts together

module _ {n m p : List ℕ} {major minor : ℕ} {out : List ℕ} {at k : ℕ} {out' : List ℕ} (w : Wrote n m p major minor out at k out') where
  answered : row_answer n m p (from44 major minor) out at ≡ says 0 (k ∷ [])
  answered = sym w.row.answer ∙ w.done

  one_length_lem : Parallel n m p
  one_length_lem = row_parallel n m p (from44 major minor) out at (ap number_of answered)

  as_list : (write_paper w.answer ≡ (writer major minor (row_of n m p) out at).answer) × (out' ≡ (writer major minor (row_of n m p) out at).output)
  unfolding SlicesWriter
  as_list = slices_writer n m p major minor out at w.answer out' one_length_lem w.row

  fitting : Fitting (row_of n m p)
  fitting = row_fits n m p (w.small.small (ap number_of w.done))

  list_answer_lem : (writer major minor (row_of n m p) out at).answer ≡ says 0 (k ∷ [])
  list_answer_lem = sym as_list.0 ∙ w.done

pub written_back : WrittenBack
unfolding WrittenBack RoundTrip
written_back n m p major minor out at k out' w =
    let s = as_list w in
    rw s.1 (round_trip major minor (row_of n m p) out at k (fitting w) (list_answer_lem w))

-- the slices that the reader leaves hold that list
read_held : (n m p : List ℕ) {major minor : ℕ} {out : List ℕ} {at k : ℕ} {out' : List ℕ} → Wrote n m p major minor out at k out'
    → (n₂ m₂ p₂ : List ℕ) {r : Result ℕ ReadError} {n₂' m₂' p₂' : List ℕ} → Parallel n₂ m₂ p₂ → length n ≤ length n₂ → ReadsText (take k (drop at out')) n₂ m₂ p₂ r n₂' m₂' p₂'
    → Holds (row_of n m p) n₂ m₂ p₂ r n₂' m₂' p₂'
unfolding WrittenBack
read_held n m p {major} {minor} {out} {at} {k} {out'} w n₂ m₂ p₂ q h g =
    let l = row_length n m p (one_length_lem w) in
    reads_list (take k (drop at out')) n₂ m₂ p₂ (row_of n m p) ((reads_means _ _).1 (written_back n m p major minor out at k out' w)) q.missing q.phased (omega arith) g

pub reads_back : ReadsBack
unfolding ReadsBack
reads_back n m p major minor out at k out' w n₂ m₂ p₂ r n₂' m₂' p₂' q h g =
    let l = row_length n m p (one_length_lem w) in
    let held = read_held n m p w n₂ m₂ p₂ q h g in
    record { answer = held.answer ∙ rw l; row = row_begins (row_of n m p) n₂ m₂ p₂ held.numbers held.missing held.phased l }

-- ---- one list, one spelling

pub slices_apart : SlicesApart
unfolding SlicesApart OneSpelling
slices_apart n m p major minor out at k out' n₂ m₂ p₂ major₂ minor₂ out₂ at₂ k₂ out₂' w w₂ =
    let t = ours_written major minor (row_of n m p) out at (list_answer_lem w) (as_list w).1 in
    let u = ours_written major₂ minor₂ (row_of n₂ m₂ p₂) out₂ at₂ (list_answer_lem w₂) (as_list w₂).1 in
    one_spelling writer meets major minor (row_of n m p) out at _ major₂ minor₂ (row_of n₂ m₂ p₂) out₂ at₂ _ t u

pub slices_settle : SlicesSettle
unfolding SlicesSettle SlicesWriter
slices_settle n m p major minor out at k out' w n₂ m₂ p₂ r n₂' m₂' p₂' q h g out₂ at₂ x out₂' room v =
    let l = row_length n m p (one_length_lem w) in
    let t = read_held n m p w n₂ m₂ p₂ q h g in
    let b = row_begins (row_of n m p) n₂ m₂ p₂ t.numbers t.missing t.phased l in
    let e = even_begins (row_of n m p) n₂ m₂ p₂ t.numbers t.missing t.phased l in
    let s = slices_writer (take (length n) n₂') (take (length n) m₂') (take (length n) p₂') major minor out₂ at₂ x out₂' e v in
    rw (b, ours_again major minor (row_of n m p) out at (list_answer_lem w) (as_list w).1 out₂ at₂ room) at s

pub slices_least : SlicesLeast
unfolding SlicesLeast
slices_least n m p major minor out at k out' w v p' =
    let a = list_answer_lem w in
    let b = (as_list w).1 in
    rw (written_length (ours_written major minor (row_of n m p) out at a b) a) at (none_shorter (ours_shortest major minor (row_of n m p) out at a b) p')
