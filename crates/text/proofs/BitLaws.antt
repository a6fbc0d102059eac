-- The zeros below the lowest bit of a number. Assumes nothing.
use Prim.Native.Nat.{ℕ, zero, suc, ◌+◌, ◌*◌, ◌%◌, ◌^◌}
use mathlib.Core.Path.{◌≡◌, sym}
use native.Mathlib.Omega.{arith}
use native.Mathlib.Nat.{zero-add, mul-one}
use lib.Bits.{shifted_half, shifted_even}
use lib.Count.{count_trailing_zeros}

-- an odd number has none
pub zeros_odd : (k m : ℕ) → count_trailing_zeros (suc k) (m * 2 + 1) ≡ 0
unfolding count_trailing_zeros
zeros_odd k m = let a : (m * 2 + 1) % 2 ≡ 1 = omega arith in rw a

-- a number times a power of two has as many more
pub zeros_more : (n k m : ℕ) → count_trailing_zeros (n + k) (m * 2 ^ n) ≡ n + count_trailing_zeros k m
unfolding count_trailing_zeros
zeros_more zero k m = rw (zero-add k, mul-one m) (sym (zero-add _))
zeros_more (suc n) k m =
    let e : suc n + k ≡ suc (n + k) = omega arith in
    rw (e, shifted_even m n, shifted_half m n) (omega (arith, zeros_more n k m))
