-- The order of genotypes, as VCF 4.4 writes it (docs/RULES.md, "Genotype numbers"). Assumes nothing.
use Rattle.std.specs.Prelude.{ℕ, zero, suc, List, [], ◌∷◌, ◌++◌}

-- each of these genotypes followed by the allele a
unfoldable pub followed : ℕ → List (List ℕ) → List (List ℕ)
followed a [] = []
followed a (g ∷ gs) = (g ++ a ∷ []) ∷ followed a gs

-- the ordering for a ploidy over so many alleles: for each allele a in turn, the ordering for one ploidy less over the alleles 0 to a,
-- each followed by a
unfoldable pub ordering : ℕ → ℕ → List (List ℕ)
unfolding followed
ordering zero n = [] ∷ []
ordering (suc p) zero = []
ordering (suc p) (suc a) = ordering (suc p) a ++ followed a (ordering p (suc a))
