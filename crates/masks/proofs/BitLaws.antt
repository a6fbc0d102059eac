-- The lowest bit of a number that is odd times a power of two: its place, and the number without it. Assumes nothing.
use Prim.Native.Nat.{ℕ, suc, ◌+◌, ◌-◌, ◌*◌, ◌/◌, ◌%◌, ◌^◌, ◌<◌}
use mathlib.Core.Path.{◌≡◌, ◌∙◌}
use native.Mathlib.Omega.{arith}
use native.Mathlib.Nat.{add-zero, mul_comm, one-mul, add-mul}
use lib.Bits.{bit_and, and_block, and_step, and_self}
use lib.Count.{count_trailing_zeros}
use lib.Pow.{pow_pos, ones_lt}
use Rattle.text.proofs.BitLaws.{zeros_odd, zeros_more}

odd_half : (q : ℕ) → (1 + 2 * q) / 2 ≡ q
odd_half q = omega arith

odd_odd : (q : ℕ) → (1 + 2 * q) % 2 ≡ 1
odd_odd q = omega arith

even_half : (q : ℕ) → (2 * q) / 2 ≡ q
even_half q = omega arith

even_even : (q : ℕ) → (2 * q) % 2 ≡ 0
even_even q = omega arith

-- the place of the lowest bit
pub lowest : (k q t : ℕ) → t < k → count_trailing_zeros k ((1 + 2 * q) * 2 ^ t) ≡ t
lowest k q t h =
    let e : k ≡ t + suc (k - suc t) = omega arith in
    let f : 1 + 2 * q ≡ q * 2 + 1 = omega arith in
    rw (e, f, zeros_more t (suc (k - suc t)) (q * 2 + 1), zeros_odd (k - suc t) q) (add-zero t)

odd_and : (q : ℕ) → bit_and (1 + 2 * q) (2 * q) ≡ 2 * q
odd_and q = and_step (1 + 2 * q) (2 * q) ∙ rw (odd_half, odd_odd, even_half, even_even, and_self) (add-zero _ ∙ mul_comm q 2)

less_one : (q p : ℕ) → 0 < p → (1 + 2 * q) * p - 1 ≡ 2 * q * p + (p - 1)
less_one q p h = rw (add-mul 1 (2 * q) p, one-mul p) (omega arith)

-- the number without it
pub cleared : (q t : ℕ) → bit_and ((1 + 2 * q) * 2 ^ t) ((1 + 2 * q) * 2 ^ t - 1) ≡ 2 * q * 2 ^ t
cleared q t =
    let z : (1 + 2 * q) * 2 ^ t + 0 ≡ (1 + 2 * q) * 2 ^ t = add-zero _ in
    rw (less_one q (2 ^ t) (pow_pos t), ← z) (and_block t (1 + 2 * q) (2 * q) 0 (2 ^ t - 1) (pow_pos t) (ones_lt t) ∙ rw (odd_and q) (add-zero _))
