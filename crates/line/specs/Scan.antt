-- What the functions that read a line by blocks promise each other. Assumes nothing.
use Rattle.std.specs.Prelude.{ℕ, ◌+◌, ◌-◌, ◌/◌, ◌%◌, ◌^◌, ◌<◌, ◌≤◌, ◌≡◌, Bool, true, false, ◌⊎◌, List, length, get_or, take}
use Rattle.std.specs.Int.Bits.{bit_and}
use Rattle.text.specs.Flags.{Neither, Plain, Each}
use Rattle.masks.specs.Mask.{mask_at}
use Rattle.line.specs.Inner.{Clear, Stopped, TextEnd, Judging, InOrder, Told}
use Rattle.line.specs.declared.scan.Met.{Met}
use Rattle.line.specs.declared.scan.Met.TheVariants as M
use Rattle.line.specs.declared.scan.Bounds.{Bounds}

-- ---- the flags of a block

-- the byte at a place is no tab and no LF, and below 80 hex
pub record Smooth (s : List ℕ) (k : ℕ) : Type 0 where
  pub quiet : Neither 9 10 s k
  pub plain : Plain s k

-- it is no LF and no tab behind a tab, and below 80 hex
pub record Calm (s : List ℕ) (k : ℕ) : Type 0 where
  pub no_feed : get_or s k 0 ≡ 10 → ⊥
  pub no_pair : get_or s (k - 1) 0 ≡ 9 → get_or s k 0 ≡ 9 → ⊥
  pub plain : Plain s k

-- a flag of the byte at a place is 0 exactly where the byte is as asked
pub record FlagsOf (P : List ℕ → ℕ → Type 0) (s : List ℕ) (k r : ℕ) : Type 0 where
  pub yes : r ≡ 0 → P s k
  pub no : P s k → r ≡ 0

-- the flags of the places from one to another, each as T says, gathered by `|`: none is above what they are, which has no bit that none has
pub record Gathers (T : ℕ → ℕ → Type 0) (at end h : ℕ) : Type 0 where
  pub each : (k : ℕ) → at ≤ k → k < end → (r : ℕ) × (T k r × (r ≤ h))
  pub few : (j : ℕ) → ((k r : ℕ) → at ≤ k → k < end → T k r → r < 2 ^ j) → h < 2 ^ j

-- each byte from one place to another is as asked
pub record Runs (P : List ℕ → ℕ → Type 0) (s : List ℕ) (at end : ℕ) : Type 0 where
  pub after : at ≤ end
  pub within : end ≤ length s
  pub each : Each P s at end

-- a place is in a block that a test passes
pub record InBlock (T : ℕ → Bool → Type 0) (k : ℕ) : Type 0 where
  pub block : ℕ
  pub after : block ≤ k
  pub before : k < block + 64
  pub passes : T block true

-- so is each from one to another
abbrev pub Passes : (ℕ → Bool → Type 0) → List ℕ → ℕ → ℕ → Type 0
Passes T s at end = Runs (λ s k. InBlock T k) s at end

-- ---- the columns as they are gone through

-- k tabs are kept, of which there are at most nine; a column starts at `start`, and what is left is judged as the whole
pub record Scanning (s : List ℕ) (at k start : ℕ) (tabs : List ℕ) : Type 0 where
  pub col : ℕ
  pub most : k ≤ 9
  pub fewer : k < 9 → col ≡ k + 1
  pub nine : k ≡ 9 → 10 ≤ col
  pub tabbed : 0 < k → get_or s (start - 1) 0 ≡ 9
  pub judging : Judging s at col start tabs

-- the same, where no tab and no LF stands from the column's start to the place `cur`
pub record Poised (s : List ℕ) (at k cur : ℕ) (tabs : List ℕ) : Type 0 where
  pub start : ℕ
  pub scanning : Scanning s at k start tabs
  pub clear : Clear s start cur

-- an LF ends the line's last column, which is not empty
pub record FedAt (s : List ℕ) (at k feed : ℕ) (tabs : List ℕ) : Type 0 where
  pub start : ℕ
  pub scanning : Scanning s at k start tabs
  pub stopped : Stopped s start feed 10
  pub some : start ≡ feed → ⊥

-- one more tab kept, where there is room
pub record More (k r : ℕ) : Type 0 where
  pub room : k < 9 → r ≡ k + 1
  pub full : k ≡ 9 → r ≡ 9

-- where not so, no two bits of a mask stand side by side, and the first is not set where a column starts there
pub record HasEmpty (m : ℕ) (fresh r : Bool) : Type 0 where
  pub apart : r ≡ false → bit_and m (m / 2) ≡ 0
  pub first : r ≡ false → fresh ≡ true → m % 2 ≡ 1 → ⊥

-- a block and its mask, which says of no empty column
pub record Entered (s : List ℕ) (at i m k : ℕ) (tabs : List ℕ) : Type 0 where
  pub fits : i + 64 ≤ length s
  pub mask : m ≡ mask_at 9 10 s i
  pub apart : bit_and m (m / 2) ≡ 0
  pub poised : Poised s at k i tabs
  pub first : poised.start ≡ i → m % 2 ≡ 1 → ⊥

-- the LF is one of the block's
pub record FedIn (s : List ℕ) (at k feed cur : ℕ) (tabs : List ℕ) : Type 0 where
  pub inside : feed < cur
  pub fed : FedAt s at k feed tabs

-- what a block, up to the place cur, says
pub record Meets (s : List ℕ) (at cur : ℕ) (r : Met) (tabs : List ℕ) : Type 0 where
  pub size : length tabs ≡ 9
  pub feed : (k p : ℕ) → r ≡ M.Feed k p → FedIn s at k p cur tabs
  pub past : (k : ℕ) → r ≡ M.Past k → Poised s at k cur tabs

-- from the place cur on to another
pub record Further (s : List ℕ) (cur k cur' : ℕ) : Type 0 where
  pub after : cur ≤ cur'
  pub within : cur' ≤ length s
  pub moved : (at : ℕ) (tabs : List ℕ) → Poised s at k cur tabs → Poised s at k cur' tabs
  pub small : Each Plain s cur cur'

-- the flags say where a column starts at the place i, and that all bytes from the line's start on are below 80 hex
pub record Swept (s : List ℕ) (at i k : ℕ) (fresh plain : Bool) (tabs : List ℕ) : Type 0 where
  pub begun : at ≤ i
  pub poised : Poised s at k i tabs
  pub new : poised.start ≡ i → fresh ≡ true
  pub small : plain ≡ true → Each Plain s at i

-- ---- the line that a scan found

-- an LF ends the line there
pub record Scanned (s : List ℕ) (at k feed : ℕ) (plain : Bool) (tabs : List ℕ) : Type 0 where
  pub fed : FedAt s at k feed tabs
  pub small : plain ≡ true → Each Plain s at feed

-- a part, whose bytes are below 80 hex where the flag says so
pub record PlainIf (s : List ℕ) (at end : ℕ) (plain : Bool) : Type 0 where
  pub after : at ≤ end
  pub within : end ≤ length s
  pub small : plain ≡ true → Each Plain s at end

pub record Whole (k : ℕ) (r : Bool) : Type 0 where
  pub whole : r ≡ true → (k ≡ 7) ⊎ (k ≡ 9)

-- where so many tabs are kept, the LF stands behind them
pub record Feeds (s : List ℕ) (at k feed : ℕ) : Type 0 where
  pub late : (k ≡ 7) ⊎ (k ≡ 9) → at + 1 < feed
  pub within : (k ≡ 7) ⊎ (k ≡ 9) → feed < length s

-- the text's end, where as many columns as there may be are in order
pub record WholeEnd (s : List ℕ) (at k feed end : ℕ) : Type 0 where
  pub whole : (k ≡ 7) ⊎ (k ≡ 9)
  pub ends : TextEnd s at feed end
  pub full : get_or s (end - 1) 0 ≡ 9 → ⊥

-- a line whose columns are in order, with the first of its tabs
pub record Bounded (s : List ℕ) (at : ℕ) (b : Bounds) (tabs : List ℕ) : Type 0 where
  pub order : InOrder s at b.end b.next
  pub told : Told (take b.end s) at tabs
  pub plain_if : PlainIf s at b.end b.plain
