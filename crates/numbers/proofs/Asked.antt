-- What two arguments ask for, as the rules say it: by cases on what each reads as. That leaves one answer. Assumes nothing.
use Prim.Native.Nat.{ℕ}
use mathlib.Core.Path.{◌≡◌, refl, sym, ◌∙◌}
use mathlib.Core.Bool.{Bool, true, false, false≢true}
use mathlib.Core.List.{List, []}
use mathlib.Core.Option.{Option, some, none}
use native.Mathlib.Omega.{arith}
use Rattle.text.specs.Answer.{says}
use Rattle.decimal.specs.Decimal.{value_of}
use Rattle.decimal.proofs.Value.{value_decimal, decimal_value}
use Rattle.allele.specs.Reading.{Reading, list, bad, empty, reading_of}
use Rattle.allele.specs.Row.{numbers_of}
use Rattle.allele.specs.declared.allele.Allele.{Allele}
use Rattle.allele.proofs.MeansLaws.{reads_means}
use Rattle.numbering.specs.Answers.{limits}
use Rattle.numbering.specs.Inner.{is_genotype}
use Rattle.numbering.proofs.OrderLaws.{length_ordering}
use Rattle.numbering.proofs.LimitLaws.{limited, limits_yes}
use Rattle.numbering.proofs.NumberLaws.{answer_is, answer_wrong, tested, untested}
use Rattle.numbers.specs.Ask.{has_mark, any_missing, all_answer, one_answer, ask_answer}
use Rattle.numbers.specs.Demands.{AsksOne, AsksAll, Meets, OneAsker}

-- ---- one genotype

data One (s t : List ℕ) : Type 0 where
  asks : (n : ℕ) (as' : List Allele) → AsksOne s t n as' → One s t
  wrong : ((n : ℕ) (as' : List Allele) → AsksOne s t n as' → ⊥) → one_answer (value_of s) (reading_of t) ≡ says 23 [] → One s t

judge_one : (s t : List ℕ) → One s t
unfolding one_answer
judge_one s t = by (value_of s) refl (reading_of t) refl
  where
    same : {n : ℕ} {as' bs : List Allele} → reading_of t ≡ list as' → AsksOne s t n bs → as' ≡ bs
    same {n} {as'} {bs} f a = let g = (reads_means t bs).1 a.means in let h : list as' ≡ list bs = sym f ∙ g in cc

    number : {n m : ℕ} {bs : List Allele} → value_of s ≡ some n → AsksOne s t m bs → n ≡ m
    number {n} {m} e a = let g = decimal_value s a.alleles in let h : some n ≡ some m = sym e ∙ g in cc

    listed : (n : ℕ) (as' : List Allele) → value_of s ≡ some n → reading_of t ≡ list as' → (b : Bool) → any_missing as' ≡ b → (c : Bool) → is_genotype n (numbers_of as') ≡ c → One s t
    listed n as' e f true w c k = wrong (λ m bs a. false≢true (sym a.whole ∙ rw (same f a) at w)) (rw (e, f, w))
    listed n as' e f false w true k =
        let d = tested n (numbers_of as') k in
        asks n as' (record { alleles = value_decimal s n e; means = (reads_means t as').0 f; whole = w; limits = d.limits; genotype = d.genotype })
    listed n as' e f false w false k =
        wrong (λ m bs a. other m bs a (number e a) (same f a)) (rw (e, f, w) (answer_wrong n (numbers_of as') (untested n (numbers_of as') k)))
      where
        other : (m : ℕ) (bs : List Allele) → AsksOne s t m bs → n ≡ m → as' ≡ bs → ⊥
        other m bs a q r = untested m (numbers_of bs) (rw (q, r) at k) a.limits a.genotype

    by : (o : Option ℕ) → value_of s ≡ o → (r : Reading) → reading_of t ≡ r → One s t
    by none e r f = wrong (λ m bs a. let g = decimal_value s a.alleles in let h : none ≡ some m = sym e ∙ g in let z : ◌≡◌ {A = ℕ} 0 1 = cc in omega arith) (rw e)
    by (some n) e (bad k) f = wrong (λ m bs a. let g = (reads_means t bs).1 a.means in let h : bad k ≡ list bs = sym f ∙ g in let z : ◌≡◌ {A = ℕ} 0 1 = cc in omega arith) (rw (e, f))
    by (some n) e empty f = wrong (λ m bs a. let g = (reads_means t bs).1 a.means in let h : empty ≡ list bs = sym f ∙ g in let z : ◌≡◌ {A = ℕ} 0 1 = cc in omega arith) (rw (e, f))
    by (some n) e (list as') f = listed n as' e f (any_missing as') refl (is_genotype n (numbers_of as')) refl

-- ---- all of them

data All (s t : List ℕ) : Type 0 where
  asks : (p n : ℕ) → AsksAll s t p n → All s t
  wrong : ((p n : ℕ) → AsksAll s t p n → ⊥) → all_answer (value_of s) (value_of t) ≡ says 23 [] → All s t

judge_all : (s t : List ℕ) → All s t
unfolding all_answer
judge_all s t = by (value_of s) refl (value_of t) refl
  where
    both : (p n : ℕ) → value_of s ≡ some p → value_of t ≡ some n → (b : Bool) → limits p n ≡ b → All s t
    both p n e f true l = asks p n (record { ploidy = value_decimal s p e; alleles = value_decimal t n f; limits = limited (sym l) refl })
    both p n e f false l = wrong (λ q m a. other q m a (decimal_value s a.ploidy) (decimal_value t a.alleles)) (rw (e, f, l))
      where
        other : (q m : ℕ) → AsksAll s t q m → value_of s ≡ some q → value_of t ≡ some m → ⊥
        other q m a g h =
            let x : some p ≡ some q = sym e ∙ g in
            let y : some n ≡ some m = sym f ∙ h in
            let u : p ≡ q = cc in
            let v : n ≡ m = cc in
            false≢true (sym l ∙ rw (u, v) (limits_yes a.limits))

    by : (o : Option ℕ) → value_of s ≡ o → (r : Option ℕ) → value_of t ≡ r → All s t
    by none e r f = wrong (λ q m a. let g = decimal_value s a.ploidy in let h : none ≡ some q = sym e ∙ g in let z : ◌≡◌ {A = ℕ} 0 1 = cc in omega arith) (rw e)
    by (some p) e none f = wrong (λ q m a. let g = decimal_value t a.alleles in let h : none ≡ some m = sym f ∙ g in let z : ◌≡◌ {A = ℕ} 0 1 = cc in omega arith) (rw (e, f))
    by (some p) e (some n) f = both p n e f (limits p n) refl

-- ---- the answer

pub meets : Meets ask_answer
unfolding ask_answer one_answer all_answer
meets =
    record {
      one = λ s t n as' h a. rw (h, decimal_value s a.alleles, (reads_means t as').1 a.means, a.whole) (answer_is n (numbers_of as') (limits_yes a.limits) a.genotype);
      not_one = λ s t h z. rw h (no_one s t z (judge_one s t));
      all = λ s t p n h a. rw (h, decimal_value s a.ploidy, decimal_value t a.alleles, limits_yes a.limits, length_ordering p n) refl;
      not_all = λ s t h z. rw h (no_all s t z (judge_all s t));
    }
  where
    no_one : (s t : List ℕ) → ((n : ℕ) (as' : List Allele) → AsksOne s t n as' → ⊥) → One s t → one_answer (value_of s) (reading_of t) ≡ says 23 []
    no_one s t z (asks n as' a) = absurd (z n as' a)
    no_one s t z (wrong n e) = e

    no_all : (s t : List ℕ) → ((p n : ℕ) → AsksAll s t p n → ⊥) → All s t → all_answer (value_of s) (value_of t) ≡ says 23 []
    no_all s t z (asks p n a) = absurd (z p n a)
    no_all s t z (wrong n e) = e

pub one_asker : OneAsker
unfolding OneAsker
one_asker ask other m m' s t = by (has_mark t) refl
  where
    one : has_mark t ≡ true → One s t → ask s t ≡ other s t
    one h (asks n as' a) = m.one s t n as' h a ∙ sym (m'.one s t n as' h a)
    one h (wrong z e) = m.not_one s t h z ∙ sym (m'.not_one s t h z)

    all : has_mark t ≡ false → All s t → ask s t ≡ other s t
    all h (asks p n a) = m.all s t p n h a ∙ sym (m'.all s t p n h a)
    all h (wrong z e) = m.not_all s t h z ∙ sym (m'.not_all s t h z)

    by : (b : Bool) → has_mark t ≡ b → ask s t ≡ other s t
    by true h = one h (judge_one s t)
    by false h = all h (judge_all s t)
