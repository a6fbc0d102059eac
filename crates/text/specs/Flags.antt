-- What a block of bytes has, told by one flag. Assumes nothing.
use Rattle.std.specs.Prelude.{ℕ, ◌+◌, ◌<◌, ◌≤◌, ◌≡◌, Bool, true, false, List, get_or}

-- 1 where two bytes are equal, else 0
pub record OneIf (b c r : ℕ) : Type 0 where
  pub same : b ≡ c → r ≡ 1
  pub other : (b ≡ c → ⊥) → r ≡ 0

-- the byte at a place is neither of two
pub record Neither (a b : ℕ) (s : List ℕ) (k : ℕ) : Type 0 where
  pub no_first : get_or s k 0 ≡ a → ⊥
  pub no_second : get_or s k 0 ≡ b → ⊥

-- it is below 80 hex
pub record Plain (s : List ℕ) (k : ℕ) : Type 0 where
  pub small : get_or s k 0 < 128

-- so is each from one place up to another
abbrev pub Each : (List ℕ → ℕ → Type 0) → List ℕ → ℕ → ℕ → Type 0
Each P s from end = (k : ℕ) → from ≤ k → k < end → P s k

-- the flag tells whether that is so of n bytes
pub record TellsOf (n : ℕ) (P : List ℕ → ℕ → Type 0) (s : List ℕ) (at : ℕ) (r : Bool) : Type 0 where
  pub yes : r ≡ true → Each P s at (at + n)
  pub no : r ≡ false → Each P s at (at + n) → ⊥

-- of 64 bytes
abbrev pub Tells : (List ℕ → ℕ → Type 0) → List ℕ → ℕ → Bool → Type 0
Tells P s at r = TellsOf 64 P s at r
