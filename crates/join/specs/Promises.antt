-- That the promise of this crate's public function determines the outcome. Assumes nothing.
use Rattle.std.specs.Prelude.{ℕ, List}
use Rattle.text.specs.Outcome.{OneOutcome}
use Rattle.record.specs.Ending.{Ending}
use Rattle.join.specs.Join.{JoinsAt}

pub record Determined : Type 0 where
  pub join : (t ends : List ℕ) (e : Ending) (at : ℕ) (out : List ℕ) → OneOutcome (JoinsAt t ends e at out)
