-- What a writer answers, and what it leaves in lent output (docs/RULES.md, "Lent output"). Assumes nothing.
use Rattle.std.specs.Prelude.{ℕ, ◌≡◌, List, [], ◌∷◌, ◌++◌, length, take, drop, eqb, leb, Result}
use Rattle.text.specs.Pick.{pick}
use Rattle.text.specs.Answer.{Answer, says, number_of}
use Rattle.text.specs.Paper.{written_paper}
use Rattle.text.specs.declared.copy.NoRoom.{NoRoom}

-- ---- the output

-- vs over the first elements of l
unfoldable pub over : {X : Type 0} → List X → List X → List X
over vs l = vs ++ drop (length vs) l

-- vs over the elements of l from index at on
unfoldable pub over_at : {X : Type 0} → ℕ → List X → List X → List X
unfolding over
over_at at vs l = take at l ++ over vs (drop at l)

-- only an answer that is done changes memory: then vs lies over the first elements of l
abbrev pub laid : {X : Type 0} → Answer → List X → List X → List X
laid a vs l = pick (eqb (number_of a) 0) (over vs l) l

-- or over those from index at on
abbrev pub laid_at : {X : Type 0} → Answer → ℕ → List X → List X → List X
laid_at a at vs l = pick (eqb (number_of a) 0) (over_at at vs l) l

-- ---- the answer

-- 0 and n where there is room for n, else 17
abbrev pub room_for : ℕ → ℕ → Answer
room_for n room = pick (leb n room) (says 0 (n ∷ [])) (says 17 [])

unfoldable pub room_answer : List ℕ → List ℕ → Answer
room_answer vs l = room_for (length vs) (length l)

-- what is left in l where vs is written if it fits
abbrev pub room_left : List ℕ → List ℕ → List ℕ
room_left vs l = laid (room_answer vs l) vs l

-- a writer of the bytes vs answers r, and leaves l' in a slice that held l
pub record Writes (vs l : List ℕ) (r : Result ℕ NoRoom) (l' : List ℕ) : Type 0 where
  pub answer : written_paper r ≡ room_answer vs l
  pub bytes : l' ≡ room_left vs l
