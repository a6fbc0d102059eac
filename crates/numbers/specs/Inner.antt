-- What the private functions of this crate promise each other. Assumes nothing.
use Rattle.std.specs.Prelude.{ℕ, ◌+◌, ◌<◌, ◌≤◌, ◌≡◌, List, [], ◌∷◌, ◌++◌, length}
use Rattle.text.specs.Over.{over, over_at}
use Rattle.decimal.specs.Shortest.{shortest}
use Rattle.numbers.specs.Table.{later_text, row_text}

-- alleles with `/` between, behind the byte b
unfoldable pub behind : ℕ → List ℕ → List ℕ
unfolding later_text
behind b [] = []
behind b (k ∷ g) = b ∷ (shortest k ++ later_text g)

-- the bytes s put into l from the place `at` on; r is the place past them
pub record Puts (at : ℕ) (s l : List ℕ) (r : ℕ) (l' : List ℕ) : Type 0 where
  pub place : r ≡ at + length s
  pub within : r ≤ length l
  pub bytes : l' ≡ over_at at s l

-- the bytes s put at the start of l; r is how many they are
pub record Starts (s l : List ℕ) (r : ℕ) (l' : List ℕ) : Type 0 where
  pub size : r ≡ length s
  pub within : r ≤ length l
  pub bytes : l' ≡ over s l

-- there is an allele, and the line fits l
pub record LineFits (i : ℕ) (g l : List ℕ) : Type 0 where
  pub some : 0 < length g
  pub room : length (row_text i g) ≤ length l
