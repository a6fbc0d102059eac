-- The promise of each public function of this crate, by its name, and that each determines the outcome. Assumes nothing.
use Rattle.std.specs.Prelude.{ℕ, ◌≡◌, List, length, Result}
use Rattle.text.specs.Outcome.{OneAnswer, OneOutcome}
use Rattle.numbering.specs.Answers.{count_answer, number_answer, genotype_answer, list_answer, genotype_left, all_left}
use Rattle.numbering.specs.Paper.{number_paper, filled_paper}
use Rattle.numbering.specs.declared.counts.NoGenotype.{NoGenotype}
use Rattle.numbering.specs.declared.genotype.FillError.{FillError}

abbrev pub CountsGenotypes : ℕ → ℕ → Result ℕ NoGenotype → Type 0
CountsGenotypes p n r = number_paper r ≡ count_answer p n

abbrev pub NumbersGenotype : List ℕ → ℕ → Result ℕ NoGenotype → Type 0
NumbersGenotype g n r = number_paper r ≡ number_answer n g

pub record PlacesGenotype (i p n : ℕ) (l : List ℕ) (r : Result ℕ FillError) (l' : List ℕ) : Type 0 where
  pub answer : filled_paper r ≡ genotype_answer i p n (length l)
  pub row : l' ≡ genotype_left i p n l

pub record ListsAll (p n : ℕ) (l : List ℕ) (r : Result ℕ FillError) (l' : List ℕ) : Type 0 where
  pub answer : filled_paper r ≡ list_answer p n (length l)
  pub row : l' ≡ all_left p n l

pub record Determined : Type 0 where
  pub count_of : (p n : ℕ) → OneAnswer (CountsGenotypes p n)
  pub number_of : (g : List ℕ) (n : ℕ) → OneAnswer (NumbersGenotype g n)
  pub genotype_of : (i p n : ℕ) (l : List ℕ) → OneOutcome (PlacesGenotype i p n l)
  pub list_all : (p n : ℕ) (l : List ℕ) → OneOutcome (ListsAll p n l)
