-- The promise of each public function of this crate, by its name, and that each determines the outcome. Assumes nothing.
use Rattle.std.specs.Prelude.{ℕ, ◌-◌, ◌≡◌, List}
use Rattle.std.specs.Int.Bits.{bit_and}
use Rattle.std.specs.Int.Count.{count_trailing_zeros}
use Rattle.text.specs.Outcome.{OneAnswer}
use Rattle.masks.specs.Mask.{mask_at}

abbrev pub MasksBlock : ℕ → ℕ → List ℕ → ℕ → ℕ → Type 0
MasksBlock a b s at r = r ≡ mask_at a b s at

-- 64 where no bit is set
abbrev pub FindsLow : ℕ → ℕ → Type 0
FindsLow m r = r ≡ count_trailing_zeros 64 m

abbrev pub ClearsLow : ℕ → ℕ → Type 0
ClearsLow m r = r ≡ bit_and m (m - 1)

pub record Determined : Type 0 where
  pub mask : (a b : ℕ) (s : List ℕ) (at : ℕ) → OneAnswer (MasksBlock a b s at)
  pub low : (m : ℕ) → OneAnswer (FindsLow m)
  pub rest : (m : ℕ) → OneAnswer (ClearsLow m)
