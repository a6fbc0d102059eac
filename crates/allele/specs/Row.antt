-- A list of alleles as three lists of numbers, and back (docs/RULES.md, "Genotypes"). Assumes nothing.
use Rattle.std.specs.Prelude.{ℕ, ◌≡◌, Bool, not, ◌||◌, List, [], ◌∷◌, map, length, get_or, eqb}
use Rattle.std.proofs.Math.Option.{Option}
use Rattle.text.specs.Pick.{one_if}
use Rattle.text.specs.First.{first_where}
use Rattle.allele.specs.declared.allele.Allele.{Allele}

-- ---- as three lists

unfoldable pub numbers_of : List Allele → List ℕ
numbers_of as' = map (λ (a : Allele). a.number) as'

unfoldable pub missing_of : List Allele → List ℕ
missing_of as' = map (λ (a : Allele). one_if a.missing) as'

unfoldable pub phased_of : List Allele → List ℕ
phased_of as' = map (λ (a : Allele). one_if a.phased) as'

-- ---- and back

-- 0 is not missing, or unphased, and any other number is missing, or phased
abbrev pub allele_of : ℕ → ℕ → ℕ → Allele
allele_of x y z = record { number = x; missing = not (eqb y 0); phased = not (eqb z 0) }

unfoldable pub allele_at : List ℕ → List ℕ → List ℕ → ℕ → Allele
allele_at n m p k = allele_of (get_or n k 0) (get_or m k 0) (get_or p k 0)

unfoldable pub row_of : List ℕ → List ℕ → List ℕ → List Allele
row_of [] m p = []
row_of (x ∷ n) [] p = []
row_of (x ∷ n) (y ∷ m) [] = []
row_of (x ∷ n) (y ∷ m) (z ∷ p) = allele_of x y z ∷ row_of n m p

-- three slices of one length
pub record Parallel (n m p : List ℕ) : Type 0 where
  pub missing : length n ≡ length m
  pub phased : length n ≡ length p

-- ---- sound alleles

-- a missing allele's number is 0
unfoldable pub is_sound : Allele → Bool
is_sound a = not a.missing || eqb a.number 0

-- the index of the first that is not, the first of these having index k
unfoldable pub first_unsound : ℕ → List Allele → Option ℕ
first_unsound k as' = first_where (λ (a : Allele). not (is_sound a)) k as'
