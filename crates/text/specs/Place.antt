-- What is answered by where a place lies: beyond a text, at its end, or in it. Assumes nothing.
use Rattle.std.specs.Prelude.{ℕ, List, [], ◌∷◌, length, eqb, leb, ltb}
use Rattle.text.specs.Pick.{pick}
use Rattle.text.specs.Answer.{Answer, says}

-- 6 beyond the bytes l, else the answer a
abbrev pub placed : ℕ → List ℕ → Answer → Answer
placed at l a = pick (leb at (length l)) a (says 6 [])

-- 6 beyond the text, the number n at its end, both with the place given as the next one; else the answer a
abbrev pub from_place : ℕ → List ℕ → ℕ → Answer → Answer
from_place at t n a = pick (ltb (length t) at) (says 6 (at ∷ [])) (pick (eqb at (length t)) (says n (at ∷ [])) a)
