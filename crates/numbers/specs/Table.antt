-- What the program prints (docs/RULES.md, "The program numbering"). Assumes nothing.
use Rattle.std.specs.Prelude.{ℕ, ◌≡◌, List, [], ◌∷◌, ◌++◌, get_or, drop, Result}
use Rattle.text.specs.Pick.{pick}
use Rattle.text.specs.Answer.{Answer, says}
use Rattle.text.specs.Over.{room_answer, laid_at}
use Rattle.text.specs.Place.{placed}
use Rattle.decimal.specs.Shortest.{shortest}
use Rattle.numbering.specs.Ordering.{ordering}
use Rattle.numbering.specs.Answers.{is_there}
use Rattle.numbers.specs.Paper.{row_paper}
use Rattle.numbers.specs.declared.row.RowError.{RowError}

-- each of these alleles behind a `/`
unfoldable pub later_text : List ℕ → List ℕ
later_text [] = []
later_text (k ∷ g) = 47 ∷ (shortest k ++ later_text g)

-- a genotype's alleles with `/` between
unfoldable pub genotype_text : List ℕ → List ℕ
unfolding later_text
genotype_text [] = []
genotype_text (k ∷ g) = shortest k ++ later_text g

-- a line of the table: the number, a tab, the genotype, LF
unfoldable pub row_text : ℕ → List ℕ → List ℕ
unfolding genotype_text
row_text i g = shortest i ++ 9 ∷ (genotype_text g ++ 10 ∷ [])

-- genotype i of ploidy p over n alleles, as a line
unfoldable pub line_of : ℕ → ℕ → ℕ → List ℕ
unfolding row_text
line_of i p n = row_text i (get_or (ordering p n) i [])

-- 6 beyond the output, then 23 where there is no such genotype, then by room
unfoldable pub row_answer : ℕ → ℕ → ℕ → List ℕ → ℕ → Answer
unfolding line_of
row_answer i p n out at = placed at out (pick (is_there i p n) (room_answer (line_of i p n) (drop at out)) (says 23 []))

pub record PutsRow (i p n : ℕ) (out : List ℕ) (at : ℕ) (r : Result ℕ RowError) (out' : List ℕ) : Type 0 where
  pub answer : row_paper r ≡ row_answer i p n out at
  pub bytes : out' ≡ laid_at (row_answer i p n out at) at (line_of i p n) out
