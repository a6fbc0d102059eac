-- Three slices read as a list of alleles, one after the other, and what is left of them where a list was laid over; sound alleles, and
-- the first that is not. Assumes nothing.
use Prim.Native.Nat.{ℕ, zero, suc, ◌+◌, ◌<◌, ◌≤◌}
use mathlib.Core.Path.{◌≡◌, refl, sym, ap, ◌∙◌}
use mathlib.Core.Bool.{Bool, true, false, not, false≢true}
use mathlib.Core.Logic.{◌↔◌}
use mathlib.Core.List.{List, [], ◌∷◌, ◌++◌, append-nil}
use mathlib.Core.Option.{some, none}
use native.Mathlib.Omega.{arith}
use native.Mathlib.Nat.{le_of_suc-le-suc}
use native.Mathlib.Numerals.{add-one}
use lib.ListN.{length, get_or, take, drop, drop_of_length-le}
use lib.Dec.{eqb}
use borrow.Author.Tests.{not-true, eq-eqb, ne_eqb}
use Rattle.text.specs.Pick.{pick, one_if}
use Rattle.text.specs.Answer.{Answer, number_of}
use Rattle.text.specs.First.{FirstOf}
use Rattle.text.specs.Over.{over, laid}
use Rattle.text.proofs.Lists.{over_is, take_over}
use Rattle.text.proofs.FirstLaws.{where_none, where_here, where_later, is_first, first_is, none_first, first_none}
use Rattle.allele.specs.Row.{numbers_of, missing_of, phased_of, allele_at, row_of, is_sound, first_unsound, Parallel}
use Rattle.allele.specs.declared.allele.Allele.{Allele}
use Rattle.allele.proofs.ColumnLaws.{numbers_of_none, missing_of_none, phased_of_none, numbers_of_more, missing_of_more, phased_of_more, numbers_of_length, missing_of_length, phased_of_length}

-- ---- the list

pub at_is : (n m p : List ℕ) (k : ℕ)
    → ◌≡◌ {A = Allele} (record { number = get_or n k 0; missing = not (eqb (get_or m k 0) 0); phased = not (eqb (get_or p k 0) 0) }) (allele_at n m p k)
unfolding allele_at
at_is n m p k = refl

-- 1 and 0 stand for what they were written for
pub mark_back : (b : Bool) → not (eqb (one_if b) 0) ≡ b
mark_back true = refl
mark_back false = refl

-- the tails of lists of one length have one length
pub tails : {x y z : ℕ} {n m p : List ℕ} → Parallel (x ∷ n) (y ∷ m) (z ∷ p) → Parallel n m p
tails q = record { missing = omega arith; phased = omega arith }

pub row_length : (n m p : List ℕ) → Parallel n m p → length (row_of n m p) ≡ length n
unfolding row_of
row_length [] m p q = refl
row_length (x ∷ n) [] p q = absurd (omega arith)
row_length (x ∷ n) (y ∷ m) [] q = absurd (omega arith)
row_length (x ∷ n) (y ∷ m) (z ∷ p) q = ap suc (row_length n m p (tails q))

row_suc : (n m p : List ℕ) (k : ℕ) → Parallel n m p → k < length n → drop k (row_of n m p) ≡ allele_at n m p k ∷ drop (suc k) (row_of n m p)
unfolding row_of allele_at
row_suc [] m p k q h = absurd (omega arith)
row_suc (x ∷ n) [] p k q h = absurd (omega arith)
row_suc (x ∷ n) (y ∷ m) [] k q h = absurd (omega arith)
row_suc (x ∷ n) (y ∷ m) (z ∷ p) zero q h = refl
row_suc (x ∷ n) (y ∷ m) (z ∷ p) (suc k) q h = row_suc n m p k (tails q) (le_of_suc-le-suc h)

pub row_here : (n m p : List ℕ) (k : ℕ) {a : Allele} → Parallel n m p → k < length n → a ≡ allele_at n m p k
    → drop k (row_of n m p) ≡ a ∷ drop (k + 1) (row_of n m p)
row_here n m p k q h e = rw (add-one, e) (row_suc n m p k q h)

pub row_past : (n m p : List ℕ) (k : ℕ) → Parallel n m p → length n ≤ k → drop k (row_of n m p) ≡ []
row_past n m p k q h = let e = row_length n m p q in drop_of_length-le (row_of n m p) {i = k} (omega arith)

-- ---- a list laid over them

pub row_append : (as' : List Allele) (n m p : List ℕ) → row_of (numbers_of as' ++ n) (missing_of as' ++ m) (phased_of as' ++ p) ≡ as' ++ row_of n m p
unfolding row_of
row_append [] n m p = rw (numbers_of_none, missing_of_none, phased_of_none)
row_append (a ∷ as') n m p =
    rw (numbers_of_more a as', missing_of_more a as', phased_of_more a as', mark_back a.missing, mark_back a.phased, row_append as' n m p)

row_drop : (k : ℕ) (n m p : List ℕ) → Parallel n m p → row_of (drop k n) (drop k m) (drop k p) ≡ drop k (row_of n m p)
unfolding row_of
row_drop zero n m p q = refl
row_drop (suc k) [] m p q = refl
row_drop (suc k) (x ∷ n) [] p q = absurd (let e = q.missing in omega arith)
row_drop (suc k) (x ∷ n) (y ∷ m) [] q = absurd (let e = q.phased in omega arith)
row_drop (suc k) (x ∷ n) (y ∷ m) (z ∷ p) q = row_drop k n m p (tails q)

pub row_over : (as' : List Allele) (n m p : List ℕ) → Parallel n m p
    → row_of (over (numbers_of as') n) (over (missing_of as') m) (over (phased_of as') p) ≡ over as' (row_of n m p)
row_over as' n m p q =
    rw
    (over_is (numbers_of as') n, over_is (missing_of as') m, over_is (phased_of as') p, over_is as' (row_of n m p), numbers_of_length as', missing_of_length as', phased_of_length as')
    (row_append as' (drop (length as') n) (drop (length as') m) (drop (length as') p) ∙ ap (λ (l : List Allele). as' ++ l) (row_drop (length as') n m p q))

-- where an answer is done, and not otherwise
pub row_laid : (a : Answer) (as' : List Allele) (n m p : List ℕ) → Parallel n m p
    → row_of (laid a (numbers_of as') n) (laid a (missing_of as') m) (laid a (phased_of as') p) ≡ laid a as' (row_of n m p)
row_laid a as' n m p q = by (eqb (number_of a) 0)
  where
    by : (done : Bool)
        → row_of (pick done (over (numbers_of as') n) n) (pick done (over (missing_of as') m) m) (pick done (over (phased_of as') p) p)
        ≡ pick done (over as' (row_of n m p)) (row_of n m p)
    by true = row_over as' n m p q
    by false = refl

-- the columns of a list are slices that stand for it
columns_row : (as' : List Allele) → row_of (numbers_of as') (missing_of as') (phased_of as') ≡ as'
unfolding row_of
columns_row as' = rw (append-nil (numbers_of as'), append-nil (missing_of as'), append-nil (phased_of as'), append-nil as') at (row_append as' [] [] [])

-- and slices that they were laid over begin with them
module _ (as' : List Allele) (n m p : List ℕ) {n' m' p' : List ℕ} {k : ℕ} (e : n' ≡ over (numbers_of as') n) (f : m' ≡ over (missing_of as') m)
    (g : p' ≡ over (phased_of as') p) (h : length as' ≡ k) where
  numbers_begin : take k n' ≡ numbers_of as'
  numbers_begin = rw e (take_over (numbers_of as') n k (sym h ∙ sym (numbers_of_length as')))

  missing_begin : take k m' ≡ missing_of as'
  missing_begin = rw f (take_over (missing_of as') m k (sym h ∙ sym (missing_of_length as')))

  phased_begin : take k p' ≡ phased_of as'
  phased_begin = rw g (take_over (phased_of as') p k (sym h ∙ sym (phased_of_length as')))

  pub row_begins : row_of (take k n') (take k m') (take k p') ≡ as'
  row_begins = rw (numbers_begin, missing_begin, phased_begin) (columns_row as')

  pub even_begins : Parallel (take k n') (take k m') (take k p')
  even_begins =
      rw (numbers_begin, missing_begin, phased_begin)
      (record { missing = numbers_of_length as' ∙ sym (missing_of_length as'); phased = numbers_of_length as' ∙ sym (phased_of_length as') })

-- ---- sound alleles

module _ (a : Allele) where
  pub sound_missing : a.missing ≡ true → eqb a.number 0 ≡ is_sound a
  unfolding is_sound
  sound_missing e = rw e

  pub sound_there : a.missing ≡ false → true ≡ is_sound a
  unfolding is_sound
  sound_there e = rw e

pub unsound_none : (k : ℕ) → first_unsound k [] ≡ none
unfolding first_unsound
unsound_none k = where_none _ k

module _ (k : ℕ) (a : Allele) (as' : List Allele) where
  pub unsound_more : is_sound a ≡ true → first_unsound k (a ∷ as') ≡ first_unsound (k + 1) as'
  unfolding first_unsound
  unsound_more h = where_later _ k a as' (rw h)

  pub unsound_here : is_sound a ≡ false → first_unsound k (a ∷ as') ≡ some k
  unfolding first_unsound
  unsound_here h = where_here _ k a as' (rw h)

  -- in a list without an unsound allele the first is sound, and the others are such a list
  pub sound_parts : first_unsound k (a ∷ as') ≡ none → (is_sound a ≡ true) × (first_unsound (k + 1) as' ≡ none)
  sound_parts e = by (is_sound a) refl
    where
      by : (t : Bool) → is_sound a ≡ t → (is_sound a ≡ true) × (first_unsound (k + 1) as' ≡ none)
      by true h = (h, sym (unsound_more h) ∙ e)
      by false h =
          let s = sym (unsound_here h) ∙ e in
          let z : ◌≡◌ {A = ℕ} 0 1 = cc in
          absurd (omega arith)

-- ---- the first that is not, in the rules' words

-- missing, with a number other than 0
abbrev pub Spoilt : Allele → Type 0
Spoilt a = (a.missing ≡ true) × (a.number ≡ 0 → ⊥)

spoilt_exact : (a : Allele) → (not (is_sound a) ≡ true) ↔ Spoilt a
spoilt_exact a = (λ e. by a.missing refl (not-true _ e), λ h. rw (← sound_missing a h.0, ne_eqb _ 0 h.1))
  where
    by : (m : Bool) → a.missing ≡ m → is_sound a ≡ false → Spoilt a
    by true m s = (m, λ n. false≢true (sym s ∙ sym (sound_missing a m) ∙ eq-eqb _ 0 n))
    by false m s = absurd (false≢true (sym s ∙ sym (sound_there a m)))

module _ (as' : List Allele) where
  pub unsound_first : {k : ℕ} → FirstOf Spoilt as' k → first_unsound 0 as' ≡ some k
  unfolding first_unsound
  unsound_first u = is_first _ spoilt_exact as' u

  pub first_unsound_lem : {k : ℕ} → first_unsound 0 as' ≡ some k → FirstOf Spoilt as' k
  unfolding first_unsound
  first_unsound_lem e = first_is _ spoilt_exact as' e

  pub none_unsound : first_unsound 0 as' ≡ none → (k : ℕ) → FirstOf Spoilt as' k → ⊥
  unfolding first_unsound
  none_unsound e = none_first _ spoilt_exact as' e

  pub sound_first : ((k : ℕ) → FirstOf Spoilt as' k → ⊥) → first_unsound 0 as' ≡ none
  unfolding first_unsound
  sound_first n = first_none _ spoilt_exact as' n
