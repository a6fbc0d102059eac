-- What is found of texts that are judged in order, and what is answered where they are to be written. Assumes nothing.
use Rattle.std.specs.Prelude.{ℕ, List, [], ◌∷◌}
use Rattle.text.specs.Answer.{Answer, says}
use Rattle.text.specs.Over.{room_answer}

-- they are in order; or the first that is not has a number, and where it is
pub data Verdict : Type 0 where
  fine : Verdict
  refused : ℕ → ℕ → Verdict

-- vs is to be written in l: room is judged last
abbrev pub fitted : Verdict → List ℕ → List ℕ → Answer
fitted fine vs l = room_answer vs l
fitted (refused n i) vs l = says n (i ∷ [])
