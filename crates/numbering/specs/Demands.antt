-- What is asked of the order of genotypes, for every ploidy and every number of alleles, and of any functions that count, number, give
-- back and list them (docs/STATEMENTS.md). Assumes nothing.
use Rattle.std.specs.Prelude.{ℕ, suc, ◌+◌, ◌*◌, ◌/◌, ◌<◌, ◌≤◌, ◌≡◌, ◌↔◌, length, get_or, take, drop}
use mathlib.Core.List.{List, [], ◌∷◌, Memᴰ}
use Rattle.text.specs.Answer.{Answer, says}
use Rattle.text.specs.Outcome.{Outcome}
use Rattle.text.specs.Over.{over}
use Rattle.numbering.specs.Closed.{how_many, closed_sum}

-- p alleles, each one of the n, that never fall
pub record Genotype (p n : ℕ) (g : List ℕ) : Type 0 where
  pub ploidy : length g ≡ p
  pub below : (i : ℕ) → i < length g → get_or g i 0 < n
  pub order : (i : ℕ) → suc i < length g → get_or g i 0 ≤ get_or g (suc i) 0

-- ---- the order

-- exactly the genotypes are listed
abbrev pub ListsGenotypes : (ℕ → ℕ → List (List ℕ)) → Type 0
ListsGenotypes order = (p n : ℕ) (g : List ℕ) → Memᴰ g (order p n) ↔ Genotype p n g

-- each once
abbrev pub ListsOnce : (ℕ → ℕ → List (List ℕ)) → Type 0
ListsOnce order = (p n i j : ℕ) → i < length (order p n) → j < length (order p n) → get_or (order p n) i [] ≡ get_or (order p n) j [] → i ≡ j

-- there are (alleles + ploidy - 1 over ploidy)
abbrev pub Counted : (ℕ → ℕ → List (List ℕ)) → Type 0
Counted order = (p n : ℕ) → length (order p n) ≡ how_many p n

-- they stand in the order of their numbers, which are the closed sum: each at its own, and at each index the one with that number
pub record InNumberOrder (order : ℕ → ℕ → List (List ℕ)) : Type 0 where
  pub under : (p n : ℕ) (g : List ℕ) → Genotype p n g → closed_sum g < length (order p n)
  pub there : (p n : ℕ) (g : List ℕ) → Genotype p n g → get_or (order p n) (closed_sum g) [] ≡ g
  pub back : (p n i : ℕ) → i < length (order p n) → closed_sum (get_or (order p n) i []) ≡ i

-- the list for fewer alleles is the beginning of that for more
abbrev pub Begins : (ℕ → ℕ → List (List ℕ)) → Type 0
Begins order = (p m n : ℕ) → m ≤ n → take (length (order p m)) (order p n) ≡ order p m

-- one allele stands at its own number
abbrev pub OfOne : (ℕ → ℕ → List (List ℕ)) → Type 0
OfOne order = (n a : ℕ) → a < n → get_or (order 1 n) a [] ≡ a ∷ []

-- two alleles stand at k(k+1)/2 + j
abbrev pub OfTwo : (ℕ → ℕ → List (List ℕ)) → Type 0
OfTwo order = (n j k : ℕ) → j ≤ k → k < n → get_or (order 2 n) (k * (k + 1) / 2 + j) [] ≡ j ∷ k ∷ []

-- ---- the functions, by the closed forms

pub record Limits (p n : ℕ) : Type 0 where
  pub one : 1 ≤ p
  pub eight : p ≤ 8
  pub some : 1 ≤ n
  pub most : n ≤ 64

-- the count is the binomial
pub record Counts (count : ℕ → ℕ → Answer) : Type 0 where
  pub is : (p n : ℕ) → Limits p n → count p n ≡ says 0 (how_many p n ∷ [])
  pub other : (p n : ℕ) → (Limits p n → ⊥) → count p n ≡ says 23 []

-- the number of a genotype is the closed sum; what is no genotype has none
pub record Numbers (number : ℕ → List ℕ → Answer) : Type 0 where
  pub is : (n : ℕ) (g : List ℕ) → Limits (length g) n → Genotype (length g) n g → number n g ≡ says 0 (closed_sum g ∷ [])
  pub other : (n : ℕ) (g : List ℕ) → (Limits (length g) n → Genotype (length g) n g → ⊥) → number n g ≡ says 23 []

-- this answer, and the row as it was found
pub record Refused (number : ℕ) (row : List ℕ) (o : Outcome) : Type 0 where
  pub answer : o.answer ≡ says number []
  pub left : o.output ≡ row

-- the genotype of a number is what is given that number: the way back
pub record Places (number : ℕ → List ℕ → Answer) (place : ℕ → ℕ → ℕ → List ℕ → Outcome) : Type 0 where
  pub done : (i p n : ℕ) (row g : List ℕ) → length g ≡ p → number n g ≡ says 0 (i ∷ []) → p ≤ length row → (place i p n row).answer ≡ says 0 (p ∷ [])
  pub written : (i p n : ℕ) (row g : List ℕ) → length g ≡ p → number n g ≡ says 0 (i ∷ []) → p ≤ length row → (place i p n row).output ≡ over g row
  pub short : (i p n : ℕ) (row g : List ℕ) → length g ≡ p → number n g ≡ says 0 (i ∷ []) → length row < p → Refused 17 row (place i p n row)
  pub other : (i p n : ℕ) (row : List ℕ) → ((g : List ℕ) → length g ≡ p → number n g ≡ says 0 (i ∷ []) → ⊥) → Refused 23 row (place i p n row)

-- a row that holds c genotypes of ploidy p, each where its number says, and then what stood there before
pub record Holds (number : ℕ → List ℕ → Answer) (c p n : ℕ) (row row' : List ℕ) : Type 0 where
  pub size : length row' ≡ length row
  pub rest : drop (c * p) row' ≡ drop (c * p) row
  pub each : (i : ℕ) (g : List ℕ) → length g ≡ p → number n g ≡ says 0 (i ∷ []) → take p (drop (i * p) row') ≡ g

-- all are listed, each where its number says
pub record Lists (count : ℕ → ℕ → Answer) (number : ℕ → List ℕ → Answer) (list : ℕ → ℕ → List ℕ → Outcome) : Type 0 where
  pub done : (p n c : ℕ) (row : List ℕ) → count p n ≡ says 0 (c ∷ []) → c * p ≤ length row → (list p n row).answer ≡ says 0 (c ∷ [])
  pub holds : (p n c : ℕ) (row : List ℕ) → count p n ≡ says 0 (c ∷ []) → c * p ≤ length row → Holds number c p n row (list p n row).output
  pub short : (p n c : ℕ) (row : List ℕ) → count p n ≡ says 0 (c ∷ []) → length row < c * p → Refused 17 row (list p n row)
  pub other : (p n : ℕ) (row : List ℕ) → count p n ≡ says 23 [] → Refused 23 row (list p n row)

-- four functions that are so
pub record Four : Type 0 where
  pub count : ℕ → ℕ → Answer
  pub number : ℕ → List ℕ → Answer
  pub place : ℕ → ℕ → ℕ → List ℕ → Outcome
  pub list : ℕ → ℕ → List ℕ → Outcome
  pub counts : Counts count
  pub numbers : Numbers number
  pub places : Places number place
  pub lists : Lists count number list

-- two such fours give one answer to every question, and leave one row
pub record Alike (f h : Four) : Type 0 where
  pub count : (p n : ℕ) → f.count p n ≡ h.count p n
  pub number : (n : ℕ) (g : List ℕ) → f.number n g ≡ h.number n g
  pub place : (i p n : ℕ) (row : List ℕ) → f.place i p n row ≡ h.place i p n row
  pub list : (p n : ℕ) (row : List ℕ) → f.list p n row ≡ h.list p n row

unfoldable pub OneEach : Type 0
OneEach = (f h : Four) → Alike f h
