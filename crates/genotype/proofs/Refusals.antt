-- Our reader refuses with the number and index that the demands say, by what the text reads as; and demands that say so much leave
-- one reader. Assumes nothing.
use Prim.Native.Nat.{ℕ, ◌≤◌}
use mathlib.Core.Path.{◌≡◌, refl, sym, ap, ◌∙◌}
use mathlib.Core.List.{List, [], ◌∷◌}
use native.Mathlib.Omega.{arith}
use native.Mathlib.Decide.{ℕ_discrete, dec_le}
use lib.ListN.{length}
use Rattle.text.specs.Answer.{Answer, says, number_of}
use Rattle.allele.specs.Reading.{Reading, list, bad, empty, reading_of, fault_at}
use Rattle.allele.specs.Means.{Means}
use Rattle.allele.specs.declared.allele.Allele.{Allele}
use Rattle.allele.proofs.MeansLaws.{reads_means, means_one}
use Rattle.allele.proofs.BrokenLaws.{reads_broken}
use Rattle.allele.proofs.MeansOrBroken.{reading_empty, means_some, broken_some, means_whole, broken_one}
use Rattle.genotype.specs.Answers.{read_answer}
use Rattle.genotype.specs.Demands.{Outcome, Reader, reader, Stands, ExactAt, Exact, Untouched, Longer, RefusedAt, Refusals, Meets, OneReader}
use Rattle.genotype.proofs.AnswerLaws.{answer_list, answer_short, answer_bad, answer_empty}
use Rattle.genotype.proofs.Exact.{exact, untouched}

-- ---- which number, and when

pub refusals : Refusals reader
unfolding Refusals reader
refusals t row = by (reading_of t) refl
  where
    held : (as' : List Allele) → Means t as' → Dec (length as' ≤ length row) → RefusedAt t row (read_answer t (list as') (length row))
    held as' m (yes h) =
        rw (answer_list t (length row) as' h)
        (record {
          empty = (λ z. absurd (omega (arith, ap number_of z)), λ z. absurd (means_some t m z));
          broken = λ k o. (λ z. absurd (omega (arith, ap number_of z)), λ g. absurd (means_whole t m g));
          short = (λ z. absurd (omega (arith, ap number_of z)), λ g. absurd (let q = ap length (means_one t g.list as' g.means m) in omega arith));
        })
    held as' m (no h) =
        rw (answer_short t (length row) as' (omega arith))
        (record {
          empty = (λ z. absurd (omega (arith, ap number_of z)), λ z. absurd (means_some t m z));
          broken = λ k o. (λ z. absurd (omega (arith, ap number_of z)), λ g. absurd (means_whole t m g));
          short = (λ z. record { list = as'; means = m; longer = omega arith }, λ g. refl);
        })

    by : (r : Reading) → reading_of t ≡ r → RefusedAt t row (read_answer t r (length row))
    by (list as') e = held as' ((reads_means t as').0 e) (dec_le (length as') (length row))
    by (bad k) e =
        let g = (reads_broken t k (fault_at t k)).0 (e, refl) in
        rw (answer_bad t (length row) k)
        (record {
          empty = (λ z. absurd (omega (arith, ap number_of z)), λ z. absurd (broken_some t g z));
          broken = λ j o. (λ z. let q : k ≡ j = cc in let f : fault_at t k ≡ o = cc in rw (f, q) at g, λ h. let u = broken_one t g h in rw (u.1, u.0));
          short = (λ z. absurd (omega (arith, ap number_of z)), λ h. absurd (means_whole t h.means g));
        })
    by empty e =
        let n = reading_empty t e in
        rw (answer_empty t (length row))
        (record {
          empty = (λ z. n, λ z. refl);
          broken = λ k o. (λ z. absurd (omega (arith, ap number_of z)), λ g. absurd (broken_some t g n));
          short = (λ z. absurd (omega (arith, ap number_of z)), λ g. absurd (means_some t g.means n));
        })

-- ---- one reader

pub one_outcome : (o o' : Outcome) → o.answer ≡ o'.answer → o.row ≡ o'.row → o ≡ o'
one_outcome o o' e f =
    let z : ◌≡◌ {A = Outcome} (record { answer = o.answer; row = o.row }) (record { answer = o'.answer; row = o'.row }) = cc in
    z

-- a list that fits stands in the row
pub stands : (read : Reader) → Meets read → (t : List ℕ) (row : List Allele) (as' : List Allele) → Means t as' → length as' ≤ length row → Stands t row (read t row)
unfolding Exact
stands read w t row as' m h = x.one (elim (ℕ_discrete (number_of (read t row).answer) 0) [ yes z ↦ z | no z ↦ absurd (x.refused.0 z as' m) ])
  where
    x : ExactAt t row (read t row)
    x = w.exact t row (λ bs k. rw (means_one t bs as' k m) h)

-- and what is accepted stands there, as the list that it means would else be too long
pub accepted_stands : (read : Reader) → Meets read → (t : List ℕ) (row : List Allele) → number_of (read t row).answer ≡ 0 → Stands t row (read t row)
unfolding Exact Refusals
accepted_stands read w t row z = (w.exact t row fits).one z
  where
    fits : (as' : List Allele) → Means t as' → length as' ≤ length row
    fits as' m = elim (dec_le (length as') (length row)) [ yes h ↦ h | no h ↦ absurd (long h) ]
      where
        long : (length as' ≤ length row → ⊥) → ⊥
        long h = omega (arith, z, ap number_of ((w.refusals t row).short.1 (record { list = as'; means = m; longer = omega arith })))

-- ours meets the three
pub meets : Meets reader
meets = record { exact = exact; refusals = refusals; untouched = untouched }

pub one_reader : OneReader
unfolding OneReader Refusals Untouched
one_reader read other w v t row = by (reading_of t) refl
  where
    -- refused by both with one answer
    same : (a : Answer) → (number_of a ≡ 0 → ⊥) → (read t row).answer ≡ a → (other t row).answer ≡ a → read t row ≡ other t row
    same a n e f =
        let p = w.untouched t row (λ z. n (rw e at z)) in
        let q = v.untouched t row (λ z. n (rw f at z)) in
        one_outcome (read t row) (other t row) (e ∙ sym f) (p ∙ sym q)

    held : (as' : List Allele) → Means t as' → Dec (length as' ≤ length row) → read t row ≡ other t row
    held as' m (yes h) =
        let s = stands read w t row as' m h in
        let r = stands other v t row as' m h in
        let p = s.only as' m in
        let q = r.only as' m in
        one_outcome (read t row) (other t row) (cc) (cc)
    held as' m (no h) =
        let l : Longer t row = record { list = as'; means = m; longer = omega arith } in
        same (says 17 []) (λ z. omega arith) ((w.refusals t row).short.1 l) ((v.refusals t row).short.1 l)

    by : (r : Reading) → reading_of t ≡ r → read t row ≡ other t row
    by (list as') e = held as' ((reads_means t as').0 e) (dec_le (length as') (length row))
    by (bad k) e =
        let o : ℕ = fault_at t k in
        let g = (reads_broken t k o).0 (e, refl) in
        same (says 12 (k ∷ o ∷ [])) (λ z. omega arith) (((w.refusals t row).broken k o).1 g) (((v.refusals t row).broken k o).1 g)
    by empty e =
        let n = reading_empty t e in
        same (says 11 []) (λ z. omega arith) ((w.refusals t row).empty.1 n) ((v.refusals t row).empty.1 n)
