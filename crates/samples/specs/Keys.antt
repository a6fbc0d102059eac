-- The keys of FORMAT (docs/RULES.md, "Samples"). Assumes nothing.
use Rattle.std.specs.Prelude.{ℕ, List, [], ◌∷◌}
use Rattle.std.proofs.Math.Option.{Option, some, none}
use Rattle.text.specs.Answer.{Answer, says}
use Rattle.text.specs.Same.{same}
use Rattle.text.specs.First.{first_where}
use Rattle.pieces.specs.Pieces.{pieces}

unfoldable pub keys_of : List ℕ → List (List ℕ)
keys_of format = pieces 58 format

-- 0 and the index, or 10
unfoldable pub index_answer : Option ℕ → Answer
index_answer (some i) = says 0 (i ∷ [])
index_answer none = says 10 []

-- the first of these keys that is equal, the first of them having index i
unfoldable pub index_in : ℕ → List (List ℕ) → List ℕ → Answer
unfolding index_answer
index_in i ks key = index_answer (first_where (λ (k : List ℕ). same k key) i ks)

unfoldable pub key_answer : List ℕ → List ℕ → Answer
key_answer format key = index_in 0 (keys_of format) key
