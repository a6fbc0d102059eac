-- The allele with an index, in a list and beyond it; and the pass over a list that gathers its tally: the alleles still to come stand for
-- all of them. Assumes nothing.
use Prim.Native.Nat.{ℕ, zero, suc, ◌+◌, ◌<◌}
use mathlib.Core.Path.{◌≡◌, refl}
use mathlib.Core.Bool.{true, false}
use mathlib.Core.List.{List, [], ◌∷◌}
use native.Mathlib.Omega.{arith}
use native.Mathlib.Nat.{le_of_suc-le-suc}
use native.Mathlib.Numerals.{add-one}
use lib.ListN.{length, drop}
use Rattle.allele.specs.declared.allele.Allele.{Allele}
use Rattle.allele.proofs.RowLaws.{row_here, row_past}
use Rattle.spelling.specs.Row.{first_of, IsAt}
use Rattle.spelling.specs.Inner.{begun, tallied, tally_from, tally_of}
use Rattle.spelling.specs.declared.tally.Tally.{Tally}

-- ---- the allele with an index

here_suc : (as' : List Allele) (k : ℕ) → k < length as' → drop k as' ≡ first_of (drop k as') ∷ drop (suc k) as'
unfolding first_of
here_suc [] k h = absurd (omega arith)
here_suc (a ∷ as') zero h = refl
here_suc (a ∷ as') (suc k) h = here_suc as' k (le_of_suc-le-suc h)

module _ (as' : List Allele) where
  -- within the list
  pub at_within : {k : ℕ} {a : Allele} → k < length as' → a ≡ first_of (drop k as') → IsAt as' k a
  at_within {k} h e = rw (add-one, e) (here_suc as' k h)

  pub at_first : (k : ℕ) {a : Allele} → IsAt as' k a → a ≡ first_of (drop k as')
  unfolding first_of
  at_first k h = rw h

  -- and beyond it
  pub at_beyond : (k : ℕ) → drop k as' ≡ [] → ◌≡◌ {A = Allele} (record { number = 0; missing = true; phased = false }) (first_of (drop k as'))
  unfolding first_of
  at_beyond k h = rw h

-- ---- the tally

pub record Tallying (as' : List Allele) (room : ℕ) (t : Tally) (k : ℕ) : Type 0 where
  pub same : tally_from t k (drop k as') ≡ tally_of room as'

pub tally_first : {as' : List Allele} {room : ℕ} {t : Tally} → t ≡ begun room → Tallying as' room t 0
unfolding tally_of
tally_first e = record { same = rw e }

module _ {as' : List Allele} {room : ℕ} {t : Tally} {k : ℕ} (g : Tallying as' room t k) where
  pub tally_turn : {a : Allele} {u : Tally} → drop k as' ≡ a ∷ drop (k + 1) as' → u ≡ tallied t a k → Tallying as' room u (k + 1)
  unfolding tally_from
  tally_turn e f = record { same = rw f (rw e at g.same) }

  pub tally_past : drop k as' ≡ [] → t ≡ tally_of room as'
  unfolding tally_from
  tally_past e = rw e at g.same

pub ruleset laws = (tally_first, tally_turn, tally_past, row_here, row_past)
