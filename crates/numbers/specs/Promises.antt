-- That the promise of each function with one determines the outcome. Assumes nothing.
use Rattle.std.specs.Prelude.{ℕ, List}
use Rattle.text.specs.Outcome.{OneAnswer, OneOutcome}
use Rattle.numbers.specs.Table.{PutsRow}
use Rattle.numbers.specs.Ask.{Asks}

pub record Determined : Type 0 where
  pub put_row : (i p n : ℕ) (out : List ℕ) (at : ℕ) → OneOutcome (PutsRow i p n out at)
  pub asked : (s t : List ℕ) → OneAnswer (Asks s t)
