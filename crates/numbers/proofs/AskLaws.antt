-- What two arguments ask for, by what each reads as: one law for each way through the code. Assumes nothing.
use Prim.Native.Nat.{ℕ, zero, suc, ◌≤◌, ◌<◌}
use mathlib.Core.Path.{◌≡◌, refl, sym, ap, ◌∙◌}
use mathlib.Core.Bool.{Bool, true, false, not, ◌||◌}
use mathlib.Core.List.{List, [], ◌∷◌}
use mathlib.Core.Option.{some}
use native.Mathlib.Omega.{arith}
use native.Mathlib.Decide.{dec_le}
use lib.ListN.{length, take}
use lib.Seq.{length-take-le}
use lib.Dec.{ltb, eqb}
use borrow.Author.Tests.{lt-ltb, ne_eqb}
use Rattle.std.specs.Prelude.{Result, Ok, Err, Option, Some, None}
use Rattle.std.specs.Result.{result_ok}
use Rattle.text.specs.Pick.{pick, one_if}
use Rattle.text.specs.Answer.{says, number_of}
use Rattle.text.proofs.Lists.{length_over, take_over}
use Rattle.pieces.specs.Pieces.{count_of, lacks}
use Rattle.pieces.proofs.CountLaws.{lacks_is, lacks_yes, lacks_no, lacks_none, lacks_here, lacks_other}
use Rattle.decimal.specs.Decimal.{decimal_answer}
use Rattle.decimal.specs.Paper as P
use Rattle.decimal.specs.declared.read.BadDecimal.{BadDecimal}
use Rattle.decimal.proofs.Value.{told_value, told_bad}
use Rattle.allele.specs.Reading.{Reading, list, bad, empty, reading_of, list_of}
use Rattle.allele.specs.Row.{numbers_of, missing_of}
use Rattle.allele.specs.declared.allele.Allele.{Allele}
use Rattle.allele.proofs.ColumnLaws.{missing_of_none, missing_of_more, numbers_of_length, missing_of_length}
use Rattle.genotype.specs.Answers.{read_answer, text_answer, ReadsText}
use Rattle.genotype.specs.Paper.{read_paper}
use Rattle.genotype.specs.declared.read.ReadError.{ReadError}
use Rattle.genotype.specs.declared.read.ReadError.TheVariants as G
use Rattle.genotype.proofs.CaseLaws.{read_empty, read_bad, read_lengths, read_short, read_above}
use Rattle.genotype.proofs.AnswerLaws.{answer_list, row_even, Holds, reads_list}
use Rattle.genotype.proofs.ReadLaws.{Fits, read_fits}
use Rattle.numbering.specs.Answers.{count_answer, number_answer}
use Rattle.numbering.specs.Paper.{number_paper}
use Rattle.numbering.specs.declared.counts.NoGenotype.{NoGenotype}
use Rattle.numbering.proofs.CaseLaws.{number_is, number_wrong}
use Rattle.numbering.proofs.LimitLaws.{limits_no}
use Rattle.numbering.proofs.NumberLaws.{answer_limits}
use Rattle.numbering.proofs.ToldLaws.{count_told, count_refused}
use Rattle.numbers.specs.Ask.{has_mark, all_answer, any_missing, one_answer, ask_answer}
use Rattle.numbers.specs.Paper.{ask_paper}
use Rattle.numbers.specs.declared.ask.Ask.{Ask}
use Rattle.numbers.specs.declared.ask.Ask.TheVariants as A
use Rattle.numbers.proofs.RowLaws.{eight}

-- ---- an answer whose refusal is dropped

module _ {E : Type 0} {o : Option ℕ} where
  pub ok_some : {x : Result ℕ E} {n : ℕ} → o ≡ result_ok x → o ≡ Some n → x ≡ Ok n
  ok_some {x = Ok m} p q = let e = sym p ∙ q in cc
  ok_some {x = Err e} p q = let e = sym p ∙ q in cc

  pub ok_none : {x : Result ℕ E} → o ≡ result_ok x → o ≡ None → (e : E) × (x ≡ Err e)
  ok_none {x = Ok m} p q = let e = sym p ∙ q in absurd cc
  ok_none {x = Err e} p q = (e, refl)

-- ---- a mark

module _ (t : List ℕ) {m : ℕ} (e : m ≡ count_of 47 t) where
  pub mark_slash : 0 < m → true ≡ has_mark t
  unfolding has_mark
  mark_slash h = rw (lacks_no 47 t e h)

  pub mark_bar : {k : ℕ} → m ≤ 0 → k ≡ count_of 124 t → ltb 0 k ≡ has_mark t
  unfolding has_mark
  mark_bar {k} h f = rw (lacks_yes 47 t e h, lacks_is 124 t f) (by k)
    where
      by : (k : ℕ) → ltb 0 k ≡ not (eqb k 0)
      by zero = refl
      by (suc k) = rw (lt-ltb 0 (suc k) (omega arith), ne_eqb (suc k) 0 (λ z. omega arith))

-- ---- all genotypes, or one by its alleles

module _ (p n : ℕ) {x : Result ℕ NoGenotype} (h : number_paper x ≡ count_answer p n) where
  pub all_counted : {c : ℕ} → x ≡ Ok c → ask_paper (Some (A.All p n c)) ≡ all_answer (some p) (some n)
  unfolding ask_paper all_answer
  all_counted e = let k = count_told p n h e in rw (k.within, k.count)

  pub all_wrong : {no : NoGenotype} → x ≡ Err no → ask_paper None ≡ all_answer (some p) (some n)
  unfolding ask_paper all_answer
  all_wrong e = rw (count_refused p n h e)

module _ (n : ℕ) (g : List ℕ) {x : Result ℕ NoGenotype} (h : number_paper x ≡ number_answer n g) where
  pub number_one : {i : ℕ} → x ≡ Ok i → ask_paper (Some (A.One i)) ≡ number_answer n g
  unfolding ask_paper
  number_one e = sym (number_is e) ∙ h

  pub number_not : {no : NoGenotype} → x ≡ Err no → ask_paper None ≡ number_answer n g
  unfolding ask_paper
  number_not e = sym (number_wrong e) ∙ h

-- ---- one by its text

any_missing_lem : (as' : List Allele) → any_missing as' ≡ not (lacks 1 (missing_of as'))
unfolding any_missing
any_missing_lem [] = rw (missing_of_none, lacks_none 1) refl
any_missing_lem (a ∷ as') = rw (missing_of_more a as') (by a.missing (any_missing_lem as'))
  where
    by : (b : Bool) → any_missing as' ≡ not (lacks 1 (missing_of as')) → (b || any_missing as') ≡ not (lacks 1 (one_if b ∷ missing_of as'))
    by true e = rw (lacks_here 1 (missing_of as') {a = 1} refl) refl
    by false e = rw (lacks_other 1 (missing_of as') {a = 0} (λ z. omega arith)) e

-- a refusal is no 0
refused : (e : ReadError) → number_of (read_paper (Err e)) ≡ 0 → ⊥
refused G.Empty h = let e = ap number_of (read_empty {x = Err G.Empty} refl) in omega arith
refused (G.Bad k fault) h = let e = ap number_of (read_bad {x = Err (G.Bad k fault)} refl) in omega arith
refused G.Lengths h = let e = ap number_of (read_lengths {x = Err G.Lengths} refl) in omega arith
refused G.Short h = let e = ap number_of (read_short {x = Err G.Short} refl) in omega arith
refused (G.Above k) h = let e = ap number_of (read_above {x = Err (G.Above k)} refl) in omega arith

-- more than eight alleles have no number
too_many : (n : ℕ) (as' : List Allele) → 8 < length as' → says 23 [] ≡ one_answer (some n) (list as')
unfolding one_answer
too_many n as' h = by (any_missing as')
  where
    high : number_answer n (numbers_of as') ≡ says 23 []
    high = answer_limits n (numbers_of as') (limits_no (λ l. let e = l.eight in let k = numbers_of_length as' in omega arith))

    by : (b : Bool) → says 23 [] ≡ pick b (says 23 []) (number_answer n (numbers_of as'))
    by true = refl
    by false = sym high

module _ (n : ℕ) (t : List ℕ) {x : Result ℕ ReadError} {a b c : List ℕ} (g : ReadsText t eight eight eight x a b c) where
  text_told : read_paper x ≡ text_answer t 8
  text_told = g.answer ∙ row_even eight eight eight (text_answer t 8) refl refl

  pub one_other : {e : ReadError} → x ≡ Err e → ask_paper None ≡ one_answer (some n) (reading_of t)
  unfolding ask_paper one_answer
  one_other {e} q = by (reading_of t) (rw q at text_told)
    where
      by : (r : Reading) → read_paper (Err e) ≡ read_answer t r 8 → says 23 [] ≡ one_answer (some n) r
      by (list as') h =
          elim (dec_le (length as') 8) [
            | yes f ↦ absurd (refused e (ap number_of (h ∙ answer_list t 8 as' f)))
            | no f ↦ too_many n as' (omega arith)
          ]
      by (bad k) h = refl
      by empty h = refl

  module _ {k : ℕ} (q : x ≡ Ok k) where
    fits : Fits (reading_of t) 8 k
    fits = read_fits t 8 x text_told q

    holds : Holds (list_of (reading_of t)) eight eight eight x a b c
    holds = reads_list t eight eight eight (list_of (reading_of t)) fits.meant refl refl fits.few g

    pub one_numbers : k ≤ length a
    one_numbers =
        let f = fits in
        let m = numbers_of_length (list_of (reading_of t)) in
        let l = ap length holds.numbers ∙ length_over (numbers_of (list_of (reading_of t))) eight (omega arith) in
        omega arith

    pub one_missing : k ≤ length b
    one_missing =
        let f = fits in
        let m = missing_of_length (list_of (reading_of t)) in
        let l = ap length holds.missing ∙ length_over (missing_of (list_of (reading_of t))) eight (omega arith) in
        omega arith

    by_list : one_answer (some n) (reading_of t) ≡ pick (not (lacks 1 (take k b))) (says 23 []) (number_answer n (take k a))
    unfolding one_answer
    by_list =
        let f = fits in
        let u : take k a ≡ numbers_of (list_of (reading_of t)) = rw holds.numbers (take_over _ eight k (let m = numbers_of_length (list_of (reading_of t)) in omega arith)) in
        let v : take k b ≡ missing_of (list_of (reading_of t)) = rw holds.missing (take_over _ eight k (let m = missing_of_length (list_of (reading_of t)) in omega arith)) in
        ap (one_answer (some n)) fits.meant ∙ rw (u, v, any_missing_lem (list_of (reading_of t)))

    module _ {m : ℕ} (e : m ≡ count_of 1 (take k b)) where
      pub one_absent : 0 < m → ask_paper None ≡ one_answer (some n) (reading_of t)
      unfolding ask_paper
      one_absent h = sym (by_list ∙ rw (lacks_no 1 (take k b) e h))

      pub one_number : (r : Option Ask) → m ≤ 0 → ask_paper r ≡ number_answer n (take k a) → ask_paper r ≡ one_answer (some n) (reading_of t)
      one_number r h w = w ∙ sym (by_list ∙ rw (lacks_yes 1 (take k b) e h))

-- ---- the two arguments

module _ (s t : List ℕ) {x : Result ℕ BadDecimal} (h : P.number_paper x ≡ decimal_answer s) where
  pub asked_none : {k : BadDecimal} → x ≡ Err k → ask_paper None ≡ ask_answer s t
  unfolding ask_paper ask_answer one_answer all_answer
  asked_none {k} e = rw (told_bad k s (rw e at h)).0 (by (has_mark t))
    where
      by : (b : Bool) → says 23 [] ≡ pick b (says 23 []) (says 23 [])
      by true = refl
      by false = refl

  module _ {n : ℕ} (e : x ≡ Ok n) {m : Bool} (d : m ≡ has_mark t) where
    pub asked_one : (r : Option Ask) → m ≡ true → ask_paper r ≡ one_answer (some n) (reading_of t) → ask_paper r ≡ ask_answer s t
    unfolding ask_answer
    asked_one r f w = let b : has_mark t ≡ true = sym d ∙ f in rw (b, told_value n s (rw e at h)) w

    module _ (f : m ≡ false) {y : Result ℕ BadDecimal} (g : P.number_paper y ≡ decimal_answer t) where
      pub asked_all : {k : ℕ} (r : Option Ask) → y ≡ Ok k → ask_paper r ≡ all_answer (some n) (some k) → ask_paper r ≡ ask_answer s t
      unfolding ask_answer
      asked_all {k} r q w = let b : has_mark t ≡ false = sym d ∙ f in rw (b, told_value n s (rw e at h), told_value k t (rw q at g)) w

      pub asked_bad : {k : BadDecimal} → y ≡ Err k → ask_paper None ≡ ask_answer s t
      unfolding ask_paper ask_answer all_answer
      asked_bad {k} q = let b : has_mark t ≡ false = sym d ∙ f in rw (b, told_value n s (rw e at h), (told_bad k t (rw q at g)).0)

pub ruleset laws = (
  length-take-le,
  mark_slash,
  mark_bar,
  all_counted,
  all_wrong,
  number_one,
  number_not,
  one_other,
  one_numbers,
  one_missing,
  one_absent,
  one_number,
  asked_none,
  asked_one,
  asked_all,
  asked_bad,
)
