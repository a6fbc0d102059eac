-- That the promise of each public function of this crate determines the outcome. Assumes nothing.
use Rattle.std.specs.Prelude.{ℕ, List}
use Rattle.text.specs.Outcome.{OneOutcome}
use Rattle.genotype.specs.Promises.{OneReading}
use Rattle.bcf.specs.Reading.{ReadsTold}
use Rattle.bcf.specs.Writing.{WritesVector}

pub record Determined : Type 0 where
  pub read_vector : (b : ℕ) (v n m p : List ℕ) → OneReading (ReadsTold b v n m p)
  pub write_vector : (n m p : List ℕ) (k : ℕ) (out : List ℕ) (at : ℕ) → OneOutcome (WritesVector n m p k out at)
