-- The loops over a row: one record more, and the end. Assumes nothing.
use Prim.Native.Nat.{ℕ, ◌<◌, ◌≤◌, ◌+◌}
use mathlib.Core.Path.{◌≡◌}
use mathlib.Core.Bool.{true}
use mathlib.Core.List.{List, ◌∷◌}
use native.Mathlib.Omega.{arith}
use native.Mathlib.Decide.{dec_lt}
use native.Mathlib.Numerals.{add-one}
use Rattle.std.specs.Prelude.{Ok}
use lib.ListN.{length, get_or, drop, drop_of_length-le}
use lib.Seq.{drop-cons}
use Rattle.std.proofs.lemmas.List.{get_or_default}
use Rattle.text.specs.Over.{over}
use Rattle.allele.specs.declared.allele.Allele.{Allele}
use Rattle.spelling.specs.Demands.{Fitting}
use Rattle.spelling.specs.Inner.{planned_text, tallied, tally_of}
use Rattle.spelling.specs.Promises.{PutsOne}
use Rattle.spelling.specs.declared.tally.Tally.{Tally}
use Rattle.spelling.specs.declared.tally.Plan.{Plan}
use Rattle.spelling.proofs.LayLaws.{Laying, lay_turn, lay_bytes}
use Rattle.spelling.proofs.RowLaws.{Tallying, tally_turn, tally_past}

-- what is read past the end of a row, as `Fitting` has it
abbrev blank : Allele
blank = record { number = 0; missing = true; phased = true }

-- ---- looked at

-- the numbers of the first records have 64 bits
pub record Small (row : List Allele) (i : ℕ) : Type 0 where
  pub each : (j : ℕ) → j < i → (get_or row j blank).number ≤ 18446744073709551615

pub small_first : {row : List Allele} → Small row 0
small_first = record { each = λ j h. absurd (omega arith) }

pub small_all : {row : List Allele} {i : ℕ} → Small row i → length row ≤ i → Fitting row
small_all s h = record { each = λ j l. s.each j (omega arith) }

here : (row : List Allele) (i : ℕ) (d : Allele) → i < length row → drop i row ≡ get_or row i d ∷ drop (i + 1) row
here row i d h = rw (add-one, drop-cons row i d)

module _ {row : List Allele} {i : ℕ} (d : Allele) where
  pub small_more : Small row i → i < length row → (get_or row i d).number ≤ 18446744073709551615 → Small row (i + 1)
  small_more s h f = record { each = by }
    where
      by : (j : ℕ) → j < i + 1 → (get_or row j blank).number ≤ 18446744073709551615
      by j l =
          elim (dec_lt j i) [
            | yes m ↦ s.each j m
            | no m ↦ let z : j ≡ i = omega arith in rw (z, get_or_default row i blank d h) f
          ]

  -- ---- tallied

  pub tally_more : {room : ℕ} {t u : Tally} → Tallying row room t i → i < length row → u ≡ tallied t (get_or row i d) i → Tallying row room u (i + 1)
  tally_more g h e = tally_turn g (here row i d h) e

  -- ---- written

  pub lay_more : {plan : Plan} {l₀ l l' : List ℕ} {at r : ℕ} → Laying row plan l₀ l at i → i < length row → PutsOne (get_or row i d) (Ok plan) i l at r l' → Laying row plan l₀ l' r (i + 1)
  lay_more g h w = lay_turn g (here row i d h) w

module _ {row : List Allele} {i : ℕ} (h : length row ≤ i) where
  pub tally_end : {room : ℕ} {t : Tally} → Tallying row room t i → t ≡ tally_of room row
  tally_end g = tally_past g (drop_of_length-le row h)

  pub lay_end : {plan : Plan} {l₀ l : List ℕ} {at : ℕ} → Laying row plan l₀ l at i → l ≡ over (planned_text plan row) l₀
  lay_end g = lay_bytes g (drop_of_length-le row h)
