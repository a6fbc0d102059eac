-- Samples and their subfields (docs/RULES.md, "Samples"). Assumes nothing.
use Rattle.std.specs.Prelude.{ℕ, List}
use Rattle.text.specs.Answer.{Answer}
use Rattle.pieces.specs.Pieces.{pieces, step_answer}
use Rattle.pieces.specs.Nth.{nth_answer}

-- split at every tab; the empty text holds none
unfoldable pub samples_of : List ℕ → List (List ℕ)
samples_of t = pieces 9 t

unfoldable pub sample_step : List ℕ → ℕ → Answer
sample_step t at = step_answer 9 t at

unfoldable pub sample_answer : List ℕ → ℕ → Answer
sample_answer t n = nth_answer 9 t n

-- split at every colon; the empty sample has none
unfoldable pub subfield_answer : List ℕ → ℕ → Answer
subfield_answer sample n = nth_answer 58 sample n
