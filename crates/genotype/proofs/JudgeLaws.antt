-- Judging: what the pieces from a place on answer, counted from their index, is what the whole does; room comes last. Assumes nothing.
use Prim.Native.Nat.{ℕ, ◌+◌, ◌≤◌, ◌<◌, zero-le}
use mathlib.Core.Path.{◌≡◌, refl, sym, ◌∙◌}
use mathlib.Core.List.{List, [], ◌∷◌}
use native.Mathlib.Omega.{arith}
use native.Mathlib.Nat.{zero-add}
use lib.ListN.{length, drop}
use borrow.Author.Tests.{lt-leb, le-leb}
use Rattle.std.specs.Prelude.{Ok, Err, Result}
use Rattle.text.specs.Answer.{Answer, says, number_of}
use Rattle.text.specs.Over.{room_for}
use Rattle.allele.specs.Reading.{Reading, list, bad, empty, with, gathered, reading_of, parts_of, fault_at, step_answer}
use Rattle.allele.specs.Paper.{Step, step_paper}
use Rattle.allele.specs.declared.allele.Allele.{Allele}
use Rattle.allele.specs.declared.step.NoAllele.{NoAllele}
use Rattle.allele.specs.declared.step.NoAllele.TheVariants as S
use Rattle.allele.proofs.PieceLaws.{parts_end}
use Rattle.allele.proofs.StepLaws.{further_fault, step_means, found}
use Rattle.allele.proofs.ReadingLaws.{reading_some, reading_none}
use Rattle.genotype.specs.Answers.{read_answer, text_answer}
use Rattle.genotype.specs.Paper.{Read, read_paper}
use Rattle.genotype.specs.declared.read.ReadError.TheVariants as R
use Rattle.genotype.specs.Inner.{whole_answer, Judged}
use Rattle.genotype.specs.declared.lay.Whole.{Whole}
use Rattle.genotype.specs.declared.read.ReadError.{ReadError}

-- ---- the whole text

-- the answer of k alleles and a reading behind them
pub whole_from : List ℕ → ℕ → Reading → Answer
whole_from t k (list as') = says 0 ((k + length as') ∷ [])
whole_from t k (bad j) = says 12 (j ∷ fault_at t j ∷ [])
whole_from t k empty = says 11 []

whole_none : (t : List ℕ) (r : Reading) → whole_from t 0 r ≡ whole_answer t r
unfolding whole_from whole_answer
whole_none t (list as') = let z : 0 + length as' ≡ length as' = omega arith in rw z
whole_none t (bad j) = refl
whole_none t empty = refl

whole_with : (t : List ℕ) (k : ℕ) (a : Allele) (r : Reading) → whole_from t k (with a r) ≡ whole_from t (k + 1) r
unfolding whole_from with
whole_with t k a (list as') = let z : k + length (a ∷ as') ≡ k + 1 + length as' = omega arith in rw z
whole_with t k a (bad j) = refl
whole_with t k a empty = refl

-- neither an allele nor a bad piece, at a place of the text: it is the end
pub end_tells : (t : List ℕ) (at : ℕ) (y : NoAllele) → at ≤ length t → step_paper (Err y) ≡ step_answer t at → ((fault : ℕ) → y ≡ S.Bad fault → ⊥) → length t ≤ at
end_tells t at S.Beyond w e b = let f = step_means t at (Err S.Beyond) e in omega arith
end_tells t at S.Nothing w e b = let f = step_means t at (Err S.Nothing) e in omega arith
end_tells t at S.Empty w e b = let f = step_means t at (Err S.Empty) e in omega arith
end_tells t at (S.Bad fault) w e b = absurd (b fault refl)

-- k alleles are passed, and at stands behind them: a fault from there on is one of the whole
pub record Judging (t : List ℕ) (at k : ℕ) : Type 0 where
  pub within : at ≤ length t
  pub few : k ≤ at
  pub same : whole_from t k (gathered k (parts_of (drop at t))) ≡ whole_answer t (reading_of t)
  pub faults : (j : ℕ) → at + fault_at (drop at t) j ≡ fault_at t (k + j)

pub judge_empty : (t : List ℕ) → length t ≡ 0 → read_paper (Err R.Empty) ≡ whole_answer t (reading_of t)
unfolding read_paper whole_answer
judge_empty t h = rw (reading_none t h)

pub judge_first : (t : List ℕ) → (length t ≡ 0 → ⊥) → Judging t 0 0
judge_first t h =
    record {
      within = zero-le;
      few = zero-le;
      same = rw (reading_some t h) (whole_none t (gathered 0 (parts_of t)));
      faults = λ j. simp zero-add;
    }

module _ (t : List ℕ) (at k : ℕ) (x : Step) (g : Judging t at k) (e : step_paper x ≡ step_answer t at) where
  module _ (a : Allele) (next : ℕ) (q : x ≡ Ok (a, next)) where
    pub judge_turn : Judging t next (k + 1)
    unfolding gathered
    judge_turn =
        let f = found t at x e a next q in
        record {
          within = f.within;
          few = omega arith;
          same = sym (whole_with t k a _) ∙ (rw f.parts at g.same);
          faults = λ j. (let z : k + (j + 1) ≡ k + 1 + j = omega arith in sym (further_fault f j) ∙ g.faults (j + 1) ∙ rw z);
        }

  pub judge_bad : {fault : ℕ} → x ≡ Err (S.Bad fault) → read_paper (Err (R.Bad k fault)) ≡ whole_answer t (reading_of t)
  unfolding read_paper gathered whole_from
  judge_bad {fault} q =
      let f = step_means t at (Err (S.Bad fault)) (rw q at e) in
      let z : k + 0 ≡ k = omega arith in
      let w : fault ≡ fault_at t k = f.there ∙ g.faults 0 ∙ rw z in
      rw w (rw f.parts at g.same)

pub judge_past : {t : List ℕ} {at k : ℕ} → Judging t at k → length t ≤ at → read_paper (Ok k) ≡ whole_answer t (reading_of t)
unfolding read_paper gathered whole_from
judge_past {t} {at} {k} g h = let z : k + 0 ≡ k = omega arith in rw (parts_end t at h, z) at g.same

-- ---- room

-- what is refused has no 0
pub error_number : (x : ReadError) → number_of (read_paper (Err x)) ≡ 0 → ⊥
unfolding read_paper
error_number R.Empty e = omega arith
error_number (R.Bad k fault) e = omega arith
error_number R.Lengths e = omega arith
error_number R.Short e = omega arith
error_number (R.Above k) e = omega arith

module _ {n room : ℕ} where
  pub fit_short : room < n → read_paper (Err R.Short) ≡ room_for n room
  unfolding read_paper
  fit_short h = rw (lt-leb _ _ h)

  pub fit_done : n ≤ room → read_paper (Ok n) ≡ room_for n room
  unfolding read_paper
  fit_done h = rw (le-leb _ _ h)

-- a count is that of a list, and only room is left to be judged
whole_count : (t : List ℕ) (r : Reading) (n room : ℕ) → read_paper (Ok n) ≡ whole_answer t r → room_for n room ≡ read_answer t r room
unfolding read_paper whole_answer read_answer
whole_count t (list as') n room e = let z : n ≡ length as' = cc in rw z
whole_count t (bad k) n room e = cc
whole_count t empty n room e = cc

-- any other answer stands whatever the room
whole_other : (t : List ℕ) (r : Reading) (room : ℕ) → (number_of (whole_answer t r) ≡ 0 → ⊥) → whole_answer t r ≡ read_answer t r room
unfolding whole_answer read_answer
whole_other t (list as') room n = absurd (n refl)
whole_other t (bad k) room n = refl
whole_other t empty room n = refl

module _ (t : List ℕ) (room : ℕ) (w : Result Whole ReadError) (g : Judged t w) where
  pub judge_fits : (v : Whole) (y : Read) → w ≡ Ok v → read_paper y ≡ room_for v.count room → read_paper y ≡ text_answer t room
  judge_fits v y q f = f ∙ whole_count t (reading_of t) v.count room (rw q at g.answer)

  pub judge_error : (x : ReadError) → w ≡ Err x → read_paper (Err x) ≡ text_answer t room
  judge_error x q =
      let e = rw q at g.answer in
      e ∙ whole_other t (reading_of t) room (λ z. error_number x (rw e z))

pub ruleset laws = (fit_short, fit_done, judge_fits, judge_error)
