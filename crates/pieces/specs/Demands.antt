-- What is asked of any splitter and of any step over pieces, as functions on lists (docs/STATEMENTS.md). Assumes nothing.
use Rattle.std.specs.Prelude.{ℕ, ◌+◌, ◌<◌, ◌≤◌, ◌≡◌, length, get_or, take, drop}
use mathlib.Core.List.{List, [], ◌∷◌, flatten}
use Rattle.text.specs.Answer.{Answer, says}
use Rattle.pieces.specs.Pieces.{joined}

-- no byte of the piece is the separator
pub record Free (separator : ℕ) (p : List ℕ) : Type 0 where
  pub free : (k : ℕ) → k < length p → get_or p k 0 ≡ separator → ⊥

-- a non-empty list of pieces, each free of the separator, that joined are the text
pub record Cut (separator : ℕ) (t : List ℕ) (ps : List (List ℕ)) : Type 0 where
  pub some : 0 < length ps
  pub each : (i : ℕ) → i < length ps → Free separator (get_or ps i [])
  pub whole : joined separator ps ≡ t

-- the splitter's list is such a list, and the only one
pub record Splits (splitter : ℕ → List ℕ → List (List ℕ)) : Type 0 where
  pub is : (separator : ℕ) (t : List ℕ) → Cut separator t (splitter separator t)
  pub only : (separator : ℕ) (t : List ℕ) (ps : List (List ℕ)) → Cut separator t ps → ps ≡ splitter separator t

-- where piece n starts: past those before it, with a separator behind each
unfoldable pub start_in : List (List ℕ) → ℕ → ℕ
start_in ps n = n + length (flatten (take n ps))

-- a step is given a separator, a text and a place, and answers on paper
abbrev pub Stepper : Type 0
Stepper = ℕ → List ℕ → ℕ → Answer

-- the steps from a place on cut these pieces out of the text, one after the other: the last goes to the text's end; the next
-- place, which lies in the text, is one byte past any other
pub data Walk (step : Stepper) (separator : ℕ) (t : List ℕ) : ℕ → List (List ℕ) → Type 0 where
  last : {at n : ℕ} → step separator t at ≡ says 0 (at ∷ n ∷ []) → at + n ≡ length t → Walk step separator t at (take n (drop at t) ∷ [])
  more : {at n next : ℕ} {ps : List (List ℕ)} → step separator t at ≡ says 0 (at ∷ n ∷ next ∷ []) → next ≡ at + n + 1 → next ≤ length t
      → Walk step separator t next ps → Walk step separator t at (take n (drop at t) ∷ ps)

-- from the start of a text that is not empty the steps visit the splitter's pieces, in order
unfoldable pub Visits : Stepper → (ℕ → List ℕ → List (List ℕ)) → Type 0
Visits step splitter = (separator : ℕ) (t : List ℕ) → 0 < length t → Walk step separator t 0 (splitter separator t)

-- two steps that walk the same pieces from one place on give one answer, with all its values, where each piece starts
unfoldable pub OneWalk : Type 0
OneWalk =
    (step other : Stepper) (separator : ℕ) (t : List ℕ) (at : ℕ) (ps : List (List ℕ)) → Walk step separator t at ps → Walk other separator t at ps
    → (n : ℕ) → n < length ps → step separator t (at + start_in ps n) ≡ other separator t (at + start_in ps n)

-- asked by its number n: 10 where the list has not so many; else the place past the n pieces before it and their separators, which cuts piece n out of the text
pub record Numbered (ps : List (List ℕ)) (t : List ℕ) (n : ℕ) (a : Answer) : Type 0 where
  pub past : length ps ≤ n → a ≡ says 10 []
  pub place : n < length ps → a ≡ says 0 (start_in ps n ∷ length (get_or ps n []) ∷ [])
  pub cuts : n < length ps → take (length (get_or ps n [])) (drop (start_in ps n) t) ≡ get_or ps n []

abbrev pub Numbers : (ℕ → List ℕ → ℕ → Answer) → (ℕ → List ℕ → List (List ℕ)) → Type 0
Numbers nth list = (separator : ℕ) (t : List ℕ) (n : ℕ) → Numbered (list separator t) t n (nth separator t n)
