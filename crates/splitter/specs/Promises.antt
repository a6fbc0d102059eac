-- The promise of the public function of this crate is the line reader's: it determines the outcome. Assumes nothing.
use Rattle.std.specs.Prelude.{ℕ, List}
use Rattle.text.specs.Outcome.{OneAnswer}
use Rattle.line.specs.Promises.{ReadsLine, KeepsNumbers}
use Rattle.line.specs.Paper.{Read}

pub record Determined : Type 0 where
  pub split_line : (s : List ℕ) (at : ℕ) → OneAnswer (λ (r : Read). ReadsLine s at r × KeepsNumbers r)
