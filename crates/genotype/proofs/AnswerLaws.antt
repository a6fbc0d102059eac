-- What the readers answer, by what the text reads as and by the row: by cases of the definitions. Assumes nothing.
use Prim.Native.Nat.{ℕ, ◌≤◌, ◌<◌}
use mathlib.Core.Path.{◌≡◌, refl, ap}
use mathlib.Core.Bool.{and-false}
use mathlib.Core.List.{List, [], ◌∷◌}
use native.Mathlib.Omega.{arith}
use native.Mathlib.Decide.{ℕ_discrete}
use lib.ListN.{length}
use borrow.Author.Tests.{eq-eqb, ne_eqb, lt-leb, le-leb}
use Rattle.text.specs.Answer.{Answer, says, number_of}
use Rattle.text.specs.Over.{over}
use Rattle.allele.specs.Reading.{list, bad, empty, reading_of, list_of, fault_at}
use Rattle.allele.specs.Row.{numbers_of, missing_of, phased_of}
use Rattle.allele.specs.declared.allele.Allele.{Allele}
use Rattle.genotype.specs.Answers.{read_answer, row_answer, ReadsText}
use Rattle.genotype.specs.Paper.{Read, read_paper}

-- ---- by what the text reads as

module _ (t : List ℕ) (room : ℕ) where
  pub answer_list : (as' : List Allele) → length as' ≤ room → read_answer t (list as') room ≡ says 0 (length as' ∷ [])
  unfolding read_answer
  answer_list as' h = rw (le-leb _ _ h)

  pub answer_short : (as' : List Allele) → room < length as' → read_answer t (list as') room ≡ says 17 []
  unfolding read_answer
  answer_short as' h = rw (lt-leb _ _ h)

  pub answer_bad : (k : ℕ) → read_answer t (bad k) room ≡ says 12 (k ∷ fault_at t k ∷ [])
  unfolding read_answer
  answer_bad k = refl

  pub answer_empty : read_answer t empty room ≡ says 11 []
  unfolding read_answer
  answer_empty = refl

-- ---- by the row

module _ (n m p : List ℕ) (a : Answer) where
  pub row_even : length n ≡ length m → length n ≡ length p → row_answer n m p a ≡ a
  unfolding row_answer
  row_even e f = rw (eq-eqb _ _ e, eq-eqb _ _ f)

  pub row_uneven_nm : (length n ≡ length m → ⊥) → row_answer n m p a ≡ says 16 []
  unfolding row_answer
  row_uneven_nm e = rw (ne_eqb _ _ e)

  pub row_uneven_np : (length n ≡ length p → ⊥) → row_answer n m p a ≡ says 16 []
  unfolding row_answer
  row_uneven_np e = rw (ne_eqb _ _ e, and-false)

  -- an answer that is done is one for slices of one length
  module _ (z : number_of (row_answer n m p a) ≡ 0) where
    refused : row_answer n m p a ≡ says 16 [] → ⊥
    refused e = let k = ap number_of e in omega arith

    pub row_done_nm : length n ≡ length m
    row_done_nm = elim (ℕ_discrete (length n) (length m)) [ yes e ↦ e | no e ↦ absurd (refused (row_uneven_nm e)) ]

    pub row_done_np : length n ≡ length p
    row_done_np = elim (ℕ_discrete (length n) (length p)) [ yes e ↦ e | no e ↦ absurd (refused (row_uneven_np e)) ]

-- ---- a list that the row holds

pub record Holds (as' : List Allele) (n m p : List ℕ) (r : Read) (n' m' p' : List ℕ) : Type 0 where
  pub answer : read_paper r ≡ says 0 (length as' ∷ [])
  pub numbers : n' ≡ over (numbers_of as') n
  pub missing : m' ≡ over (missing_of as') m
  pub phased : p' ≡ over (phased_of as') p

pub reads_list : (t n m p : List ℕ) (as' : List Allele) {r : Read} {n' m' p' : List ℕ} → reading_of t ≡ list as' → length n ≡ length m → length n ≡ length p
    → length as' ≤ length n → ReadsText t n m p r n' m' p' → Holds as' n m p r n' m' p'
unfolding list_of
reads_list t n m p as' q e f h g =
    let k = rw (row_even n m p _ e f, q, answer_list t (length n) as' h) at g in
    record { answer = k.answer; numbers = k.numbers; missing = k.missing; phased = k.phased }
