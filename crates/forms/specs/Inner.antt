-- What the private functions of this crate promise each other. Assumes nothing.
use Rattle.std.specs.Prelude.{ℕ, ◌+◌, ◌*◌, ◌<◌, ◌^◌, ◌≡◌, Bool, ◌&&◌, List, length, get_or, ltb, eqb}
use Rattle.forms.specs.Form.{end_at}

-- field i is not empty, and the next one starts past one tab after its end
unfoldable pub follows : List ℕ → ℕ → Bool
follows places i = ltb 0 (get_or places (2 * i + 1) 0) && eqb (get_or places (2 * i + 2) 0) (end_at places i + 1)

-- ten places, each of which ends at a number of 64 bits
pub record Bounded (places : List ℕ) : Type 0 where
  pub ten : length places ≡ 20
  pub ends : (i : ℕ) → i < 10 → end_at places i < 2 ^ 64
