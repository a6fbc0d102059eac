-- What functions promise each other, here and in the crates above. Assumes nothing.
use Rattle.std.specs.Prelude.{ℕ, ◌+◌, ◌-◌, ◌≤◌, ◌<◌, ◌≡◌, List, length, get_or, drop, ltb}
use Rattle.text.specs.Pick.{pick}
use Rattle.pieces.specs.Before.{before_either}
use Rattle.pieces.specs.Pieces.{count_of}

-- ---- bytes that are neither of two

-- 32 bytes on, or at the text's end
unfoldable pub near_end : ℕ → ℕ → ℕ
near_end from len = pick (ltb (len - from) 32) len (from + 32)

-- no a and no b from one place of a text up to another
pub record Quiet (a b : ℕ) (s : List ℕ) (from end : ℕ) : Type 0 where
  pub after : from ≤ end
  pub within : end ≤ length s
  pub no_first : (k : ℕ) → from ≤ k → k < end → get_or s k 0 ≡ a → ⊥
  pub no_second : (k : ℕ) → from ≤ k → k < end → get_or s k 0 ≡ b → ⊥

-- how many such bytes a text starts with
unfoldable pub quiet_length : ℕ → ℕ → List ℕ → ℕ
quiet_length a b s = length (before_either a b s)

-- the first a or b from the place i on, or the text's end, is that from the place `from` on
pub record Seeking (a b : ℕ) (s : List ℕ) (from i : ℕ) : Type 0 where
  pub same : i + quiet_length a b (drop i s) ≡ from + quiet_length a b (drop from s)

-- ---- counting a byte in a part of a text

-- 8 bits hold how many bytes the part has
pub record ShortPart (s : List ℕ) (from end : ℕ) : Type 0 where
  pub after : from ≤ end
  pub within : end ≤ length s
  pub short : end < from + 256

-- r bytes of the part are b
pub record CountsPart (b : ℕ) (s : List ℕ) (from end r : ℕ) : Type 0 where
  pub few : from + r ≤ end
  pub same : r + count_of b (drop end s) ≡ count_of b (drop from s)
