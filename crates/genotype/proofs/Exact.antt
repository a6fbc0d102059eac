-- Our reader over the definitions meets demand 3: by what the text reads as, and that it reads as a list exactly when it means
-- that list. Assumes nothing.
use Prim.Native.Nat.{ℕ}
use mathlib.Core.Path.{◌≡◌, refl}
use mathlib.Core.List.{List}
use native.Mathlib.Omega.{arith}
use lib.ListN.{length}
use borrow.Author.Tests.{ne_eqb}
use Rattle.text.specs.Answer.{number_of}
use Rattle.allele.specs.Reading.{Reading, list, bad, empty, reading_of, list_of}
use Rattle.allele.specs.declared.allele.Allele.{Allele}
use Rattle.allele.proofs.MeansLaws.{reads_means, means_one}
use Rattle.genotype.specs.Demands.{Outcome, reader, ExactAt, Exact, Untouched}
use Rattle.genotype.proofs.AnswerLaws.{answer_list, answer_bad, answer_empty}

-- a text that reads as no list is refused
refuses : (t : List ℕ) (row : List Allele) (o : Outcome) → ((as' : List Allele) → reading_of t ≡ list as' → ⊥) → (number_of o.answer ≡ 0 → ⊥) → ExactAt t row o
refuses t row o n r = record { refused = (λ z as' m. n as' ((reads_means t as').1 m), λ z. r); one = λ z. absurd (r z) }

pub exact : Exact reader
unfolding Exact reader list_of
exact t row fits = by (reading_of t) refl
  where
    by : (r : Reading) → reading_of t ≡ r → ExactAt t row (reader t row)
    by (list as') e =
        let m = (reads_means t as').0 e in
        let l = fits as' m in
        rw (e, answer_list t (length row) as' l)
        (record {
          refused = (λ n. absurd (n refl), λ n. absurd (n as' m));
          one = λ z. record { list = as'; means = m; only = λ bs k. means_one t bs as' k m; count = refl; holds = refl };
        })
    by (bad k) e = rw (e, answer_bad t (length row) k) (refuses t row _ (λ as' q. let z : ◌≡◌ {A = ℕ} 0 1 = cc in omega arith) (λ z. omega arith))
    by empty e = rw (e, answer_empty t (length row)) (refuses t row _ (λ as' q. let z : ◌≡◌ {A = ℕ} 0 1 = cc in omega arith) (λ z. omega arith))

pub untouched : Untouched reader
unfolding Untouched reader
untouched t row n = rw (ne_eqb _ 0 n)
