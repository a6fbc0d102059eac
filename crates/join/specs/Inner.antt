-- What the private functions of this crate promise each other. Assumes nothing.
use Rattle.std.specs.Prelude.{ℕ, ◌+◌, ◌<◌, ◌≤◌, ◌≡◌, true, List, ◌++◌, length, get_or}
use Rattle.text.specs.Over.{over_at}
use Rattle.text.specs.Verdict.{fine}
use Rattle.record.specs.Ending.{Ending}
use Rattle.entries.specs.Entries.{rising, entry_list}
use Rattle.entries.specs.Inner.{start_of}
use Rattle.join.specs.Join.{columns_judged}

-- ---- all columns judged at once

-- a byte that may stand anywhere in a column: ASCII, and neither a tab nor an LF
pub record Simple (b : ℕ) : Type 0 where
  pub small : b < 128
  pub no_tab : b ≡ 9 → ⊥
  pub no_feed : b ≡ 10 → ⊥

-- only such a byte has no mark
pub record Marks (b r : ℕ) : Type 0 where
  pub none : r ≡ 0 → Simple b

-- the first n bytes of a text are such
pub record AllSimple (s : List ℕ) (n : ℕ) : Type 0 where
  pub each : (k : ℕ) → k < n → Simple (get_or s k 0)

-- each of the first n columns ends above its start, and none above the last of them
pub record Apart (ends : List ℕ) (n : ℕ) : Type 0 where
  pub some : (k : ℕ) → k < n → start_of ends k < get_or ends k 0
  pub below : (k : ℕ) → k < n → get_or ends k 0 ≤ start_of ends n

-- the ends are in order, and no column is refused
pub record Fine (t ends : List ℕ) (e : Ending) : Type 0 where
  pub rises : rising 0 ends (length t) ≡ true
  pub judged : columns_judged 0 (entry_list t ends) e ≡ fine

-- ---- writing

-- a text begins with a column of n bytes, and the columns behind it are the rest; from the place `at` on there is room in l for all of
-- it and a byte more
pub record Lies (n : ℕ) (t : List ℕ) (at : ℕ) (l : List ℕ) : Type 0 where
  pub within : n ≤ length t
  pub room : at + length t < length l

-- the column is at most 16 bytes long, and 16 bytes stand from its start on
pub record Short (n : ℕ) (t : List ℕ) : Type 0 where
  pub few : n ≤ 16
  pub long : 16 ≤ length t

-- l' is l with p laid over it from the place `at` on, and behind p it may differ in the next `size` bytes: what is laid over these lies
-- as it would behind p alone
pub record Puts (p : List ℕ) (size at : ℕ) (l l' : List ℕ) : Type 0 where
  pub len : length l' ≡ length l
  pub same : (vs : List ℕ) → size ≤ length vs → over_at (at + length p) vs l' ≡ over_at at (p ++ vs) l
