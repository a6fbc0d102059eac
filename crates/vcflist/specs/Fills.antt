-- What reading into a buffer behind its first bytes leaves of them, and how far it is filled. Assumes nothing.
use Rattle.std.specs.Prelude.{ℕ, ◌≤◌, ◌≡◌, false, List, length, take, Ok}
use Rattle.vcflist.specs.declared.input.Held.{Held}

-- the first `kept` bytes stay; no fewer are held, and none beyond the buffer; it is full where the input did not end and no read failed
pub record Fills (kept : ℕ) (b : List ℕ) (r : Held) (b' : List ℕ) : Type 0 where
  pub stay : take kept b' ≡ take kept b
  pub from : kept ≤ r.end
  pub within : kept ≤ length b → r.end ≤ length b
  pub full : r.last ≡ Ok false → length b ≤ r.end
