-- What the functions of this crate answer, by the order of genotypes alone (docs/RULES.md, "Genotype numbers"). Assumes nothing.
use Rattle.std.specs.Prelude.{ℕ, Bool, ◌&&◌, length, get_or, leb, ltb}
use mathlib.Core.List.{List, [], ◌∷◌, flatten}
use Rattle.std.proofs.Math.Option.{Option, some, none}
use Rattle.text.specs.Pick.{pick, within}
use Rattle.text.specs.Answer.{Answer, says}
use Rattle.text.specs.Over.{laid}
use Rattle.text.specs.First.{first_where}
use Rattle.text.specs.Same.{same}
use Rattle.numbering.specs.Ordering.{ordering}

-- ploidy 1 to 8, and 1 to 64 alleles
unfoldable pub limits : ℕ → ℕ → Bool
limits p n = within 1 8 p && within 1 64 n

-- how many genotypes there are
unfoldable pub count_answer : ℕ → ℕ → Answer
count_answer p n = pick (limits p n) (says 0 (length (ordering p n) ∷ [])) (says 23 [])

-- 0 and an index; 23 where there is none
unfoldable pub indexed : Option ℕ → Answer
indexed (some i) = says 0 (i ∷ [])
indexed none = says 23 []

-- the index of a genotype in the order of those of its ploidy
unfoldable pub number_answer : ℕ → List ℕ → Answer
unfolding indexed
number_answer n g = pick (limits (length g) n) (indexed (first_where (λ (h : List ℕ). same h g) 0 (ordering (length g) n))) (says 23 [])

-- 23, and then 17 where the room is too short for so many numbers, before 0 and a value
abbrev pub filling : Bool → ℕ → ℕ → ℕ → Answer
filling good many room value = pick good (pick (leb many room) (says 0 (value ∷ [])) (says 17 [])) (says 23 [])

-- there is a genotype at this index
abbrev pub is_there : ℕ → ℕ → ℕ → Bool
is_there i p n = limits p n && ltb i (length (ordering p n))

-- that genotype, which has as many numbers as the ploidy says
unfoldable pub genotype_answer : ℕ → ℕ → ℕ → ℕ → Answer
genotype_answer i p n room = filling (is_there i p n) p room p

-- all of them, one after the other
unfoldable pub list_answer : ℕ → ℕ → ℕ → Answer
list_answer p n room = filling (limits p n) (length (flatten (ordering p n))) room (length (ordering p n))

-- ---- the row

-- genotype i over its first numbers, if the answer is 0
abbrev pub genotype_left : ℕ → ℕ → ℕ → List ℕ → List ℕ
genotype_left i p n row = laid (genotype_answer i p n (length row)) (get_or (ordering p n) i []) row

-- all genotypes over them, one after the other
abbrev pub all_left : ℕ → ℕ → List ℕ → List ℕ
all_left p n row = laid (list_answer p n (length row)) (flatten (ordering p n)) row
