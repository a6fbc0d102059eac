-- What the private functions of this crate promise each other. Assumes nothing.
use Rattle.std.specs.Prelude.{ℕ, ◌+◌, ◌*◌, ◌≤◌, List, length, get_or}

-- the sum of the eight elements from an index on
unfoldable pub eight_of : List ℕ → ℕ → ℕ
eight_of t i =
    get_or t i 0 + get_or t (i + 1) 0 + get_or t (i + 2) 0 + get_or t (i + 3) 0 + get_or t (i + 4) 0 + get_or t (i + 5) 0 + get_or t (i + 6) 0 + get_or t (i + 7) 0

unfoldable pub sum_of : List ℕ → ℕ
sum_of t =
    eight_of t 0
    + eight_of t 8 * 256
    + eight_of t 16 * 65536
    + eight_of t 24 * 16777216
    + eight_of t 32 * 4294967296
    + eight_of t 40 * 1099511627776
    + eight_of t 48 * 281474976710656
    + eight_of t 56 * 72057594037927936

-- the elements from an index on are at most the weights 1, 2, 4 .. 128
pub record Light (t : List ℕ) (i : ℕ) : Type 0 where
  pub fits : i + 8 ≤ length t
  pub most0 : get_or t i 0 ≤ 1
  pub most1 : get_or t (i + 1) 0 ≤ 2
  pub most2 : get_or t (i + 2) 0 ≤ 4
  pub most3 : get_or t (i + 3) 0 ≤ 8
  pub most4 : get_or t (i + 4) 0 ≤ 16
  pub most5 : get_or t (i + 5) 0 ≤ 32
  pub most6 : get_or t (i + 6) 0 ≤ 64
  pub most7 : get_or t (i + 7) 0 ≤ 128

pub record Lights (t : List ℕ) : Type 0 where
  pub first : Light t 0
  pub second : Light t 8
  pub third : Light t 16
  pub fourth : Light t 24
  pub fifth : Light t 32
  pub sixth : Light t 40
  pub seventh : Light t 48
  pub eighth : Light t 56
