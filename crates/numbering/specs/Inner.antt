-- What the private functions of this crate promise each other. Assumes nothing.
use Rattle.std.specs.Prelude.{ℕ, ◌+◌, ◌≤◌, ◌≡◌, Bool, true, false, ◌&&◌, Result, Ok, Err, List, [], ◌∷◌, ◌++◌, length, drop, leb, ltb}
use Rattle.text.specs.Over.{over_at}
use Rattle.numbering.specs.Ordering.{ordering}
use Rattle.numbering.specs.Answers.{limits}
use Rattle.numbering.specs.declared.counts.NoGenotype.{NoGenotype}
use Rattle.numbering.specs.declared.shape.Shape.{Shape}

-- within the limits the shape is of this ploidy and these alleles
pub record ShapeOf (p n : ℕ) (s : Shape) : Type 0 where
  pub within : limits p n ≡ true
  pub ploidy : s.ploidy ≡ p
  pub alleles : s.alleles ≡ n

abbrev pub Shapes : ℕ → ℕ → Result Shape NoGenotype → Type 0
Shapes p n (Ok s) = ShapeOf p n s
Shapes p n (Err e) = limits p n ≡ false

-- alleles that never fall, from low on, each one of the n
unfoldable pub never_falls : ℕ → ℕ → List ℕ → Bool
never_falls low n [] = true
never_falls low n (k ∷ g) = leb low k && (ltb k n && never_falls k n g)

-- a genotype, within the limits
unfoldable pub is_genotype : ℕ → List ℕ → Bool
is_genotype n g = limits (length g) n && never_falls 0 n g

-- genotypes one after the other, each with the same last alleles s
unfoldable pub spread : List ℕ → List (List ℕ) → List ℕ
spread s [] = []
spread s (g ∷ gs) = (g ++ s) ++ spread s gs

-- the genotypes of ploidy p over n alleles, each with the alleles of cur from index p on
unfoldable pub block : ℕ → ℕ → List ℕ → List ℕ
unfolding spread
block p n cur = spread (drop p cur) (ordering p n)

-- cur has that index, and the block fits row from index at on
pub record BlockFits (p n : ℕ) (cur row : List ℕ) (at : ℕ) : Type 0 where
  pub ploidy : p ≤ length cur
  pub room : at + length (block p n cur) ≤ length row

-- the block was written there, up to r
pub record Listed (p n : ℕ) (cur row : List ℕ) (at r : ℕ) (cur' row' : List ℕ) : Type 0 where
  pub next : r ≡ at + length (block p n cur)
  pub rest : drop p cur' ≡ drop p cur
  pub size : length cur' ≡ length cur
  pub long : length row' ≡ length row
  pub rows : row' ≡ over_at at (block p n cur) row
