-- What `write_alleles` wrote reads back, and is written again, by both contracts and nothing else: it means the row, and what means a list
-- reads as it. Assumes nothing.
use Prim.Native.Nat.{ℕ}
use mathlib.Core.Path.{◌≡◌, refl, sym, ◌∙◌}
use mathlib.Core.List.{List, [], ◌∷◌}
use lib.ListN.{length, take, drop}
use lib.Seq.{take_at}
use Rattle.text.specs.Answer.{says}
use Rattle.text.proofs.Lists.{over_is}
use Rattle.allele.specs.Reading.{list, reading_of, list_of}
use Rattle.allele.proofs.MeansLaws.{reads_means}
use Rattle.allele.specs.declared.allele.Allele.{Allele}
use Rattle.genotype.proofs.AnswerLaws.{answer_list}
use Rattle.spelling.specs.Demands.{writer, RoundTrip, OneSpelling}
use Rattle.spelling.proofs.Exact.{meets}
use Rattle.spelling.proofs.RoundTrip.{round_trip}
use Rattle.spelling.proofs.Spellings.{one_spelling, ours_written, ours_again}
use Rattle.alleles.specs.Demands.{AllelesWriter, Wrote, RowsApart, RowsSettle}
use Rattle.alleles.specs.EndToEnd.{ReadsBack}
use Rattle.alleles.proofs.Demands.{alleles_writer}

pub reads_back : ReadsBack
unfolding ReadsBack AllelesWriter RoundTrip list_of
reads_back as' major minor out at k w out' g done row r row' fits h =
    let s = alleles_writer as' major minor out at w out' g in
    let m = round_trip major minor as' out at k g.small (sym s.0 ∙ done) in
    let e : reading_of (take k (drop at out')) ≡ list as' = (reads_means _ _).1 (rw s.1 m) in
    let l = answer_list (take k (drop at out')) (length row) as' fits in
    (rw (e, l) at h.answer, rw (e, l) at h.records)

-- ---- one list, one spelling

module _ {as' : List Allele} {major minor : ℕ} {out : List ℕ} {at k : ℕ} {out' : List ℕ} (w : Wrote as' major minor out at k out') where
  as_list : ((writer major minor as' out at).answer ≡ says 0 (k ∷ [])) × (out' ≡ (writer major minor as' out at).output)
  unfolding AllelesWriter
  as_list = let s = alleles_writer as' major minor out at w.answer out' w.writes in (sym s.0 ∙ w.done, s.1)

pub rows_apart : RowsApart
unfolding RowsApart OneSpelling
rows_apart as' major minor out at k out' bs major₂ minor₂ out₂ at₂ k₂ out₂' w v =
    let p = as_list w in
    let q = as_list v in
    one_spelling writer meets major minor as' out at _ major₂ minor₂ bs out₂ at₂ _ (ours_written major minor as' out at p.0 p.1) (ours_written major₂ minor₂ bs out₂ at₂ q.0 q.1)

pub rows_settle : RowsSettle
unfolding RowsSettle ReadsBack AllelesWriter
rows_settle as' major minor out at k out' w row r row' fits h out₂ at₂ x out₂' room v =
    let p = as_list w in
    let b = reads_back as' major minor out at k w.answer out' w.writes w.done row r row' fits h in
    let e : take (length as') row' ≡ as' = rw (b.1, over_is as' row) (take_at as' _ (length as') refl) in
    rw (e, ours_again major minor as' out at p.0 p.1 out₂ at₂ room) at (alleles_writer (take (length as') row') major minor out₂ at₂ x out₂' v)
