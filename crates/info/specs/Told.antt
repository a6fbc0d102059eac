-- A step's number, and the next place, as two numbers. Assumes nothing.
use Rattle.std.specs.Prelude.{◌≡◌}
use Rattle.text.specs.Answer.{Answer, number_of, next_of}
use Rattle.info.specs.declared.step.Told.{Told}

-- the answer's number, and its first value
pub record Tells (a : Answer) (r : Told) : Type 0 where
  pub number : r.number ≡ number_of a
  pub next : r.next ≡ next_of a
