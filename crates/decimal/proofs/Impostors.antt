-- Readers that blame another byte do not meet what is asked: a text has one first fault, and three short texts tell where. Assumes
-- nothing.
use Prim.Native.Nat.{ℕ}
use mathlib.Core.Path.{◌≡◌, refl}
use mathlib.Core.List.{List, [], ◌∷◌, ◌++◌}
use native.Mathlib.Omega.{arith}
use Rattle.text.specs.Answer.{Answer, says}
use Rattle.decimal.specs.Decimal.{is_digit, worth, fault_of}
use Rattle.decimal.specs.Shortest.{shortest}
use Rattle.decimal.specs.Demands.{Decimal, Readable, FirstFault}
use Rattle.decimal.proofs.Blame.{fault_one}
use Rattle.decimal.proofs.FirstFault.{decimal_fault}

module _ (read : List ℕ → Answer) (claim : FirstFault (Readable Decimal) 12 read) where
  other_place : (t : List ℕ) (j k : ℕ) → fault_of t ≡ j → (j ≡ k → ⊥) → read t ≡ says 12 (k ∷ []) → ⊥
  other_place t j k f n e = n (rw f at (fault_one (decimal_fault t) ((claim t k).0 e).1))

  -- one that blames the start of every text: `1a`
  pub blames_start : read (49 ∷ 97 ∷ []) ≡ says 12 (0 ∷ []) → ⊥
  unfolding fault_of is_digit worth
  blames_start = other_place (49 ∷ 97 ∷ []) 1 0 refl (λ z. omega arith)

  -- one that looks for a missing digit before the sign: `+`
  pub blames_sign : read (43 ∷ []) ≡ says 12 (0 ∷ []) → ⊥
  unfolding fault_of
  blames_sign = other_place (43 ∷ []) 1 0 refl (λ z. omega arith)

  -- one that goes on past the limit to a bad byte: `18446744073709551616a`
  pub blames_later : read (shortest 18446744073709551616 ++ 97 ∷ []) ≡ says 12 (20 ∷ []) → ⊥
  unfolding fault_of is_digit shortest worth
  blames_later = other_place (shortest 18446744073709551616 ++ 97 ∷ []) 19 20 refl (λ z. omega arith)
