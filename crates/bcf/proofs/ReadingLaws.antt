-- The codes of entries, and the list that they stand for, from the first entry on. Assumes nothing.
use Prim.Native.Nat.{ℕ, zero, suc, ◌≤◌, ◌<◌, zero-le}
use mathlib.Core.Path.{◌≡◌, refl}
use mathlib.Core.Bool.{Bool, true, false}
use mathlib.Core.List.{List, [], ◌∷◌, map}
use native.Mathlib.Omega.{arith}
use native.Mathlib.Nat.{le_of_suc-le-suc}
use lib.ListN.{length, get_or, drop, length-map}
use lib.Dec.{ltb}
use borrow.Author.Tests.{lt-ltb, le-ltb}
use Rattle.text.specs.Pick.{pick}
use Rattle.bcf.specs.declared.width.Width.{Width}
use Rattle.bcf.specs.Reading.{negative, allele_by, codes_in, list_in}

pub codes_none : (w : Width) → codes_in w [] ≡ []
unfolding codes_in
codes_none w = refl

module _ (w : Width) (e : ℕ) (es : List ℕ) where
  pub codes_more : e < negative w → codes_in w (e ∷ es) ≡ e ∷ codes_in w es
  unfolding codes_in
  codes_more h = rw (lt-ltb e (negative w) h)

  pub codes_stop : negative w ≤ e → codes_in w (e ∷ es) ≡ []
  unfolding codes_in
  codes_stop h = rw (le-ltb e (negative w) h)

-- no more than there are entries
pub codes_few : (w : Width) (es : List ℕ) → length (codes_in w es) ≤ length es
unfolding codes_in
codes_few w [] = zero-le
codes_few w (e ∷ es) = by (ltb e (negative w)) (codes_few w es)
  where
    by : (t : Bool) → length (codes_in w es) ≤ length es → length (pick t (e ∷ codes_in w es) []) ≤ suc (length es)
    by true h = omega arith
    by false h = zero-le

-- ---- the list

pub list_length : (w : Width) (es : List ℕ) → length (list_in w es) ≡ length (codes_in w es)
unfolding list_in
list_length w es = length-map (codes_in w es) allele_by

-- from index k on
pub list_here : (w : Width) (es : List ℕ) (k : ℕ) → k < length (codes_in w es) → drop k (list_in w es) ≡ allele_by (get_or es k 0) ∷ drop (suc k) (list_in w es)
unfolding list_in codes_in
list_here w [] k h = absurd (omega arith)
list_here w (e ∷ es) k h = by (ltb e (negative w)) k h (λ j l. list_here w es j l)
  where
    by : (t : Bool) (k : ℕ) → k < length (pick t (e ∷ codes_in w es) [])
        → ((j : ℕ) → j < length (codes_in w es) → drop j (map allele_by (codes_in w es)) ≡ allele_by (get_or es j 0) ∷ drop (suc j) (map allele_by (codes_in w es)))
        → drop k (map allele_by (pick t (e ∷ codes_in w es) [])) ≡ allele_by (get_or (e ∷ es) k 0) ∷ drop (suc k) (map allele_by (pick t (e ∷ codes_in w es) []))
    by true zero h f = refl
    by true (suc k) h f = f k (le_of_suc-le-suc h)
    by false k h f = absurd (omega arith)
