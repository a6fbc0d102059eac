-- What VCF 4.4 gives in closed form: how many genotypes there are, and the number of one (docs/RULES.md, "Genotype numbers").
-- Assumes nothing.
use Rattle.std.specs.Prelude.{ℕ, zero, suc, ◌+◌, ◌-◌, List, [], ◌∷◌}

-- the binomial, n over k
unfoldable pub choose : ℕ → ℕ → ℕ
choose n zero = 1
choose zero (suc k) = 0
choose (suc n) (suc k) = choose n k + choose n (suc k)

-- (alleles + ploidy - 1 over ploidy)
unfoldable pub how_many : ℕ → ℕ → ℕ
unfolding choose
how_many p n = choose (n + p - 1) p

-- the sum of (k + m - 1 over m) over alleles k, the first of which is allele m of its genotype
unfoldable pub sum_from : ℕ → List ℕ → ℕ
unfolding choose
sum_from m [] = 0
sum_from m (k ∷ g) = choose (k + m - 1) m + sum_from (suc m) g

-- over all alleles of a genotype, counted from 1
unfoldable pub closed_sum : List ℕ → ℕ
unfolding sum_from
closed_sum g = sum_from 1 g
