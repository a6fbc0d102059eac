-- An INFO entry by its key (docs/RULES.md, "INFO"). Assumes nothing.
use Rattle.std.specs.Prelude.{ℕ, ◌+◌, Bool, ◌||◌, not, List, [], ◌∷◌, length, eqb}
use Rattle.text.specs.Pick.{pick}
use Rattle.text.specs.Answer.{Answer, says, number_of}
use Rattle.text.specs.Same.{same}
use Rattle.pieces.specs.Pieces.{pieces}
use Rattle.info.specs.Info.{key_of, pair_of, first_answer}

-- the search stops at the entry e, answered a: it is refused, or its key is the wanted one
unfoldable pub settles : List ℕ → List ℕ → Answer → Bool
settles key e a = not (eqb (number_of a) 0) || same (key_of (pair_of e)) key

-- the first of the texts between `;`, from the place on, at which the search stops; 10 with the column's end where there is none
unfoldable pub find_in : List ℕ → ℕ → ℕ → List (List ℕ) → Answer
unfolding first_answer
find_in key end at [] = says 10 (end ∷ [])
find_in key end at (e ∷ es) = pick (settles key e (first_answer at (e ∷ es))) (first_answer at (e ∷ es)) (find_in key end (at + length e + 1) es)

unfoldable pub find_answer : List ℕ → List ℕ → Answer
find_answer t key = find_in key (length t) 0 (pieces 59 t)
