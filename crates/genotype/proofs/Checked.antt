-- Our checked reader meets what is asked of any, whatever the count: every text means a list with a number above the count, and gets
-- 20, or none, and is read as by the plain reader. What is asked leaves one checked reader for each count. Assumes nothing.
use Prim.Native.Nat.{ℕ, suc, ◌≤◌, ◌<◌}
use mathlib.Core.Path.{◌≡◌, refl, sym, ap, ◌∙◌}
use mathlib.Core.Bool.{true}
use mathlib.Core.Logic.{◌↔◌}
use mathlib.Core.List.{List, [], ◌∷◌}
use mathlib.Core.Option.{Option, some, none}
use native.Mathlib.Omega.{arith}
use native.Mathlib.Decide.{dec_le}
use lib.ListN.{length}
use lib.Dec.{ltb}
use borrow.Author.Tests.{ltb-true, lt-ltb, ne_eqb}
use Rattle.text.specs.Answer.{says, number_of}
use Rattle.text.specs.First.{here, later}
use Rattle.text.proofs.FirstLaws.{where_none, is_first, first_is, none_first, first_none}
use Rattle.allele.specs.Reading.{Reading, list, bad, empty, reading_of, list_of}
use Rattle.allele.specs.Means.{Means}
use Rattle.allele.specs.declared.allele.Allele.{Allele}
use Rattle.allele.proofs.MeansLaws.{reads_means, means_one}
use Rattle.genotype.specs.Answers.{read_answer, first_above, above_answer, checked_answer, text_answer}
use Rattle.genotype.specs.Demands.{reader, Meant, Untouched, checked_reader, AtMost, FirstAbove, MeansAtMost, MeansAbove, Checked, MeetsChecked, OneChecked, OneReader}
use Rattle.genotype.proofs.AnswerLaws.{answer_list, answer_short, answer_bad, answer_empty}
use Rattle.genotype.proofs.ReaderLaws.{checked_answer_lem, checked_row}
use Rattle.genotype.proofs.MostLaws.{most_none, most_more}
use Rattle.genotype.proofs.Refusals.{one_outcome, meets, one_reader}

-- ---- the first above a count

above_exact : (count : ℕ) (a : Allele) → (ltb count a.number ≡ true) ↔ (count < a.number)
above_exact count a = (ltb-true count a.number, lt-ltb count a.number)

-- where there is none, all are at most the count
at_most : (count : ℕ) (as' : List Allele) → ((k : ℕ) → FirstAbove count as' k → ⊥) → AtMost count as'
at_most count [] n = most_none
at_most count (a ∷ as') n = by (dec_le a.number count) (at_most count as')
  where
    by : Dec (a.number ≤ count) → (((k : ℕ) → FirstAbove count as' k → ⊥) → AtMost count as') → AtMost count (a ∷ as')
    by (no h) ih = absurd (n 0 (here {x = a} (omega arith)))
    by (yes h) ih = most_more h (ih (λ k f. n (suc k) (later {x = a} (λ z. omega arith) f)))

-- ---- two kinds of texts

module _ (count : ℕ) (t : List ℕ) where
  -- one that means a list with a larger number is refused with 20 at the first
  above_answer_lem : {k : ℕ} → MeansAbove count t k → (room : ℕ) → checked_answer count t (reading_of t) room ≡ says 20 (k ∷ [])
  unfolding checked_answer above_answer list_of first_above
  above_answer_lem m room = rw ((reads_means t m.list).1 m.means, is_first _ (above_exact count) m.list m.first)

  -- any other is answered as if nothing were checked
  plain_answer : ((k : ℕ) → MeansAbove count t k → ⊥) → (room : ℕ) → checked_answer count t (reading_of t) room ≡ text_answer t room
  unfolding checked_answer above_answer list_of first_above
  plain_answer n room = by (reading_of t) refl
    where
      by : (r : Reading) → reading_of t ≡ r → checked_answer count t r room ≡ read_answer t r room
      by (list as') e =
          rw (first_none _ (above_exact count) as' (λ i f. n i (record { list = as'; means = (reads_means t as').0 e; first = f })))
      by (bad k) e = rw (where_none _ 0)
      by empty e = rw (where_none _ 0)

  data Kind : Type 0 where
    above : (k : ℕ) → MeansAbove count t k → Kind
    within : ((k : ℕ) → MeansAbove count t k → ⊥) → Kind

  kind : Kind
  unfolding first_above
  kind = by (reading_of t) refl
    where
      of : (as' : List Allele) → Means t as' → (o : Option ℕ) → first_above count 0 as' ≡ o → Kind
      of as' m (some k) e = above k (record { list = as'; means = m; first = first_is _ (above_exact count) as' e })
      of as' m none e = within (λ k x. none_first _ (above_exact count) as' e k (rw (means_one t x.list as' x.means m) at x.first))

      -- a text that reads as no list means none
      without : ((as' : List Allele) → reading_of t ≡ list as' → ⊥) → Kind
      without n = within (λ k x. n x.list ((reads_means t x.list).1 x.means))

      by : (r : Reading) → reading_of t ≡ r → Kind
      by (list as') e = of as' ((reads_means t as').0 e) (first_above count 0 as') refl
      by (bad k) e = without (λ as' q. let z : ◌≡◌ {A = ℕ} 0 1 = cc in omega arith)
      by empty e = without (λ as' q. let z : ◌≡◌ {A = ℕ} 0 1 = cc in omega arith)

-- ---- the plain reader

module _ (t : List ℕ) (room : ℕ) where
  plain_low : number_of (text_answer t room) ≤ 17
  plain_low = by (reading_of t)
    where
      by : (r : Reading) → number_of (read_answer t r room) ≤ 17
      by (list as') = elim (dec_le (length as') room) [ yes h ↦ rw (answer_list t room as' h) (omega arith) | no h ↦ rw (answer_short t room as' (omega arith)) (omega arith) ]
      by (bad k) = rw (answer_bad t room k) (omega arith)
      by empty = rw (answer_empty t room) (omega arith)

  -- what it accepts means a list
  plain_means : number_of (text_answer t room) ≡ 0 → Meant t
  plain_means z = by (reading_of t) refl
    where
      by : (r : Reading) → reading_of t ≡ r → Meant t
      by (list as') e = record { list = as'; means = (reads_means t as').0 e }
      by (bad k) e = absurd (let q = rw (e, answer_bad t room k) at z in omega arith)
      by empty e = absurd (let q = rw (e, answer_empty t room) at z in omega arith)

-- ---- what is asked

module _ (count : ℕ) where
  accepted : (t : List ℕ) (row : List Allele) → number_of (checked_reader count t row).answer ≡ 0 → MeansAtMost count t
  accepted t row z = by (kind count t)
    where
      by : Kind count t → MeansAtMost count t
      by (above k m) = absurd (let q = rw (checked_answer_lem count t row, above_answer_lem count t m (length row)) at z in omega arith)
      by (within n) =
          let w = plain_means t (length row) (rw (checked_answer_lem count t row, plain_answer count t n (length row)) at z) in
          record { list = w.list; means = w.means; all = at_most count w.list (λ i f. n i (record { list = w.list; means = w.means; first = f })) }

  -- 20 is given where a number is larger, and nowhere else
  above_only : (t : List ℕ) (row : List Allele) (k : ℕ) → ((checked_reader count t row).answer ≡ says 20 (k ∷ [])) ↔ MeansAbove count t k
  above_only t row k = (λ e. by (kind count t) e, λ m. checked_answer_lem count t row ∙ above_answer_lem count t m (length row))
    where
      by : Kind count t → (checked_reader count t row).answer ≡ says 20 (k ∷ []) → MeansAbove count t k
      by (above j m) e =
          let z = sym (above_answer_lem count t m (length row)) ∙ sym (checked_answer_lem count t row) ∙ e in
          let q : j ≡ k = cc in
          rw q at m
      by (within n) e =
          let z = sym (plain_answer count t n (length row)) ∙ sym (checked_answer_lem count t row) ∙ e in
          absurd (omega (arith, plain_low t (length row), ap number_of z))

  pub checked : Checked count (checked_reader count)
  checked = record { accepted = accepted; above = above_only }

  -- as the plain reader where no number is larger
  as_plain : (t : List ℕ) (row : List Allele) → ((k : ℕ) → MeansAbove count t k → ⊥) → checked_reader count t row ≡ reader t row
  unfolding checked_reader reader
  as_plain t row n = rw (plain_answer count t n (length row))

  pub meets_checked : MeetsChecked count (checked_reader count)
  unfolding OneReader Untouched
  meets_checked =
      record {
        checked = checked;
        plain = λ other w t row n. as_plain t row n ∙ one_reader reader other meets w t row;
        untouched = λ t row z. checked_row count t row ∙ rw (ne_eqb _ 0 (rw (checked_answer_lem count t row) at z));
      }

pub one_checked : OneChecked
unfolding OneChecked Untouched
one_checked count read other w v t row = by (kind count t)
  where
    by : Kind count t → read t row ≡ other t row
    by (above k m) =
        let e = (w.checked.above t row k).1 m in
        let f = (v.checked.above t row k).1 m in
        one_outcome (read t row) (other t row) (e ∙ sym f) (w.untouched t row (λ z. omega (arith, rw e at z)) ∙ sym (v.untouched t row (λ z. omega (arith, rw f at z))))
    by (within n) = w.plain reader meets t row n ∙ sym (v.plain reader meets t row n)
