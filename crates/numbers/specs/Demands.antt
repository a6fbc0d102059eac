-- What is asked of the texts of the table and of the answers to questions, together (docs/STATEMENTS.md). Assumes nothing.
use Rattle.std.specs.Prelude.{ℕ, ◌+◌, ◌<◌, ◌≤◌, ◌≡◌, true, false, List, [], ◌∷◌, length, get_or}
use Rattle.text.specs.Answer.{Answer, says}
use Rattle.text.specs.Outcome.{Outcome}
use Rattle.text.specs.Over.{over_at}
use Rattle.decimal.specs.Shortest.{shortest}
use Rattle.decimal.specs.Demands.{Decimal}
use Rattle.allele.specs.Means.{Means}
use Rattle.allele.specs.Row.{numbers_of}
use Rattle.allele.specs.declared.allele.Allele.{Allele}
use Rattle.numbering.specs.Ordering.{ordering}
use Rattle.numbering.specs.Closed.{how_many, closed_sum}
use Rattle.numbering.specs.Demands.{Limits, Genotype, Refused}
use Rattle.numbers.specs.Ask.{has_mark, any_missing}
use Rattle.numbers.specs.Table.{row_text}

-- the way back: the text of genotype i, asked, is answered by i. That of a single allele has no mark, and is asked behind one; so may be
-- every other
pub record GivesBack (text : List ℕ → List ℕ) (ask : List ℕ → List ℕ → Answer) : Type 0 where
  pub several : (p n i : ℕ) → Limits p n → i < length (ordering p n) → 2 ≤ p → ask (shortest n) (text (get_or (ordering p n) i [])) ≡ says 0 (i ∷ [])
  pub marked : (p n i : ℕ) → Limits p n → i < length (ordering p n) → ask (shortest n) (47 ∷ text (get_or (ordering p n) i [])) ≡ says 0 (i ∷ [])

-- every genotype has a line, and there is room for it where 36 bytes are left
abbrev pub RowsFit : (ℕ → ℕ → ℕ → List ℕ) → (ℕ → ℕ → ℕ → List ℕ → ℕ → Answer) → Type 0
RowsFit line put =
    (i p n at : ℕ) (out : List ℕ) → Limits p n → i < length (ordering p n) → at + 36 ≤ length out → put i p n out at ≡ says 0 (length (line i p n) ∷ [])

-- ---- what two arguments ask for, in the rules' words

-- an allele count, and a text that means a genotype of so many, none of its alleles missing
pub record AsksOne (s t : List ℕ) (n : ℕ) (as' : List Allele) : Type 0 where
  pub alleles : Decimal s n
  pub means : Means t as'
  pub whole : any_missing as' ≡ false
  pub limits : Limits (length (numbers_of as')) n
  pub genotype : Genotype (length (numbers_of as')) n (numbers_of as')

-- a ploidy and an allele count
pub record AsksAll (s t : List ℕ) (p n : ℕ) : Type 0 where
  pub ploidy : Decimal s p
  pub alleles : Decimal t n
  pub limits : Limits p n

-- a text with a mark asks for one, any other for all; where that is not so, 23
pub record Meets (ask : List ℕ → List ℕ → Answer) : Type 0 where
  pub one : (s t : List ℕ) (n : ℕ) (as' : List Allele) → has_mark t ≡ true → AsksOne s t n as' → ask s t ≡ says 0 (closed_sum (numbers_of as') ∷ [])
  pub not_one : (s t : List ℕ) → has_mark t ≡ true → ((n : ℕ) (as' : List Allele) → AsksOne s t n as' → ⊥) → ask s t ≡ says 23 []
  pub all : (s t : List ℕ) (p n : ℕ) → has_mark t ≡ false → AsksAll s t p n → ask s t ≡ says 0 (p ∷ n ∷ how_many p n ∷ [])
  pub not_all : (s t : List ℕ) → has_mark t ≡ false → ((p n : ℕ) → AsksAll s t p n → ⊥) → ask s t ≡ says 23 []

-- two that do so give one answer to all arguments
unfoldable pub OneAsker : Type 0
OneAsker = (ask other : List ℕ → List ℕ → Answer) → Meets ask → Meets other → (s t : List ℕ) → ask s t ≡ other s t

-- ---- a line of the table, in the rules' words

-- g is the genotype with the number i
pub record IsGenotype (i p n : ℕ) (g : List ℕ) : Type 0 where
  pub limits : Limits p n
  pub genotype : Genotype p n g
  pub number : closed_sum g ≡ i

-- its line is put from the place on, where it fits; 6, then 23, then 17, and the output as it was
pub record PutsLines (put : ℕ → ℕ → ℕ → List ℕ → ℕ → Outcome) : Type 0 where
  pub done : (i p n : ℕ) (out : List ℕ) (at : ℕ) (g : List ℕ) → IsGenotype i p n g → at + length (row_text i g) ≤ length out → (put i p n out at).answer ≡ says 0 (length (row_text i g) ∷ [])
  pub bytes : (i p n : ℕ) (out : List ℕ) (at : ℕ) (g : List ℕ) → IsGenotype i p n g → at + length (row_text i g) ≤ length out → (put i p n out at).output ≡ over_at at (row_text i g) out
  pub full : (i p n : ℕ) (out : List ℕ) (at : ℕ) (g : List ℕ) → IsGenotype i p n g → at ≤ length out → length out < at + length (row_text i g) → Refused 17 out (put i p n out at)
  pub wrong : (i p n : ℕ) (out : List ℕ) (at : ℕ) → ((g : List ℕ) → IsGenotype i p n g → ⊥) → at ≤ length out → Refused 23 out (put i p n out at)
  pub beyond : (i p n : ℕ) (out : List ℕ) (at : ℕ) → length out < at → Refused 6 out (put i p n out at)

-- two that do so give one answer and leave one output
unfoldable pub OnePutter : Type 0
OnePutter = (put other : ℕ → ℕ → ℕ → List ℕ → ℕ → Outcome) → PutsLines put → PutsLines other → (i p n : ℕ) (out : List ℕ) (at : ℕ) → put i p n out at ≡ other i p n out at
