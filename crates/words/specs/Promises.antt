-- The promise of the public function of this crate determines the outcome. Assumes nothing.
use Rattle.std.specs.Prelude.{ℕ, List}
use Rattle.text.specs.Outcome.{OneAnswer}
use Rattle.pieces.specs.Promises.{FindsEither}

pub record Determined : Type 0 where
  pub find_byte : (b : ℕ) (s : List ℕ) (from : ℕ) → OneAnswer (FindsEither b b s from)
