-- What the private functions of this crate promise each other. Assumes nothing.
use Rattle.std.specs.Prelude.{ℕ, ◌*◌, ◌^◌, ◌≡◌, length}
use Rattle.decimal.specs.Shortest.{shortest}
use Rattle.decimal.specs.declared.print.Size.{Size}

-- how many digits n has, and the power of ten that the first of them counts
pub record Sizes (n : ℕ) (r : Size) : Type 0 where
  pub count : r.len ≡ length (shortest n)
  pub power : r.power * 10 ≡ 10 ^ r.len
