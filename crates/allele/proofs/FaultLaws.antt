-- The place of a fault, piece by piece: it is that of the rest from a place on, counted from there. Assumes nothing.
use Prim.Native.Nat.{ℕ, ◌+◌, ◌<◌}
use mathlib.Core.Path.{◌≡◌, refl}
use mathlib.Core.Bool.{true, false}
use mathlib.Core.List.{List, ◌∷◌}
use native.Mathlib.Omega.{arith}
use native.Mathlib.Numerals.{add-one}
use lib.ListN.{length, get_or, drop}
use Rattle.decimal.specs.Decimal.{fault_of}
use Rattle.allele.specs.Reading.{is_mark, head_of, piece_fault, fault_in, fault_at}
use Rattle.allele.proofs.PieceLaws.{pieces_at}

-- ---- of one piece

module _ (b : ℕ) (s : List ℕ) where
  pub piece_marked : is_mark b ≡ true → piece_fault (b ∷ s) ≡ 1 + fault_of s
  unfolding piece_fault
  piece_marked e = rw e

  pub piece_plain : is_mark b ≡ false → piece_fault (b ∷ s) ≡ fault_of (b ∷ s)
  unfolding piece_fault
  piece_plain e = rw e

-- ---- of one of several

module _ (p : List ℕ) (ps : List (List ℕ)) where
  pub fault_first : fault_in 0 (p ∷ ps) ≡ piece_fault p
  unfolding fault_in
  fault_first = refl

  pub fault_later : (k : ℕ) → fault_in (k + 1) (p ∷ ps) ≡ length p + fault_in k ps
  unfolding fault_in
  fault_later k = rw add-one

-- ---- from a place of the text on

module _ (t : List ℕ) (at : ℕ) (h : at < length t) where
  pub fault_here : fault_at (drop at t) 0 ≡ piece_fault (get_or t at 0 ∷ head_of (drop (at + 1) t))
  unfolding fault_at
  fault_here = rw (pieces_at t at h) (fault_first _ _)

  pub fault_past : (k : ℕ)
      → at + fault_at (drop at t) (k + 1)
      ≡ at + 1 + length (head_of (drop (at + 1) t)) + fault_at (drop (at + 1 + length (head_of (drop (at + 1) t))) t) k
  unfolding fault_at
  fault_past k = rw (pieces_at t at h, fault_later) (omega arith)
