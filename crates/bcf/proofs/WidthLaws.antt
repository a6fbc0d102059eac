-- The numbers of each width, one law for each: by its tables. Assumes nothing.
use Prim.Native.Nat.{ℕ, ◌/◌, ◌%◌, ◌≤◌, ◌<◌}
use mathlib.Core.Path.{◌≡◌}
use native.Mathlib.Omega.{arith}
use borrow.Author.Tests.{le-leb, lt-leb}
use Rattle.bcf.specs.Layout.{size, padding, largest}
use Rattle.bcf.specs.Reading.{negative}
use Rattle.bcf.specs.Writing.{width_for}
use Rattle.bcf.specs.declared.width.Width.{Width}
use Rattle.bcf.specs.declared.width.Width.TheVariants.{W8, W16, W32}

module _ {w : Width} (e : w ≡ W8) where
  pub size_8 : 1 ≡ size w
  unfolding size
  size_8 = rw e

  pub whole_8 : (n : ℕ) → n ≡ n / size w
  unfolding size
  whole_8 n = rw e (omega arith)

  pub left_8 : (n : ℕ) → 0 ≡ n % size w
  unfolding size
  left_8 n = rw e (omega arith)

  pub negative_8 : 128 ≡ negative w
  unfolding negative
  negative_8 = rw e

  pub padding_8 : 129 ≡ padding w
  unfolding padding
  padding_8 = rw e

module _ {w : Width} (e : w ≡ W16) where
  pub size_16 : 2 ≡ size w
  unfolding size
  size_16 = rw e

  pub whole_16 : (n : ℕ) → n / 2 ≡ n / size w
  unfolding size
  whole_16 n = rw e

  pub left_16 : (n : ℕ) → n % 2 ≡ n % size w
  unfolding size
  left_16 n = rw e

  pub negative_16 : 32768 ≡ negative w
  unfolding negative
  negative_16 = rw e

  pub padding_16 : 32769 ≡ padding w
  unfolding padding
  padding_16 = rw e

module _ {w : Width} (e : w ≡ W32) where
  pub size_32 : 4 ≡ size w
  unfolding size
  size_32 = rw e

  pub whole_32 : (n : ℕ) → n / 4 ≡ n / size w
  unfolding size
  whole_32 n = rw e

  pub left_32 : (n : ℕ) → n % 4 ≡ n % size w
  unfolding size
  left_32 n = rw e

  pub negative_32 : 2147483648 ≡ negative w
  unfolding negative
  negative_32 = rw e

  pub padding_32 : 2147483649 ≡ padding w
  unfolding padding
  padding_32 = rw e

-- ---- the smallest that holds a number

module _ (x : ℕ) where
  pub fits_8 : x ≤ 62 → W8 ≡ width_for x
  unfolding width_for largest
  fits_8 h = rw (le-leb x 62 h)

  pub fits_16 : 62 < x → x ≤ 16382 → W16 ≡ width_for x
  unfolding width_for largest
  fits_16 h l = rw (lt-leb x 62 h, le-leb x 16382 l)

  pub fits_32 : 62 < x → 16382 < x → W32 ≡ width_for x
  unfolding width_for largest
  fits_32 h l = rw (lt-leb x 62 h, lt-leb x 16382 l)

pub ruleset laws = (size_8, whole_8, left_8, negative_8, padding_8, size_16, whole_16, left_16, negative_16, padding_16, size_32, whole_32, left_32, negative_32, padding_32, fits_8, fits_16, fits_32)
