-- What it is that a promise determines an outcome (docs/RULES.md, "The three demands"), and the outcome of a writer. Assumes nothing.
use Rattle.std.specs.Prelude.{ℕ, ◌+◌, ◌≤◌, ◌≡◌, List, [], ◌∷◌, length, take, drop}
use Rattle.std.specs.Borrow.{Bor}
use Rattle.text.specs.Answer.{Answer, says}
use Rattle.text.specs.Over.{over_at}

-- two answers that it allows are equal
abbrev pub OneAnswer : {X : Type 0} → (X → Type 0) → Type 0
OneAnswer {X} allows = (r r' : X) → allows r → allows r' → r ≡ r'

-- and so is what is left in lent memory
abbrev pub OneOutcome : {X Y : Type 0} → (X → Y → Type 0) → Type 0
OneOutcome {X} {Y} allows = (r r' : X) (l l' : Y) → allows r l → allows r' l' → (r ≡ r') × (l ≡ l')

-- two parts of a text are at one address and hold the same bytes: a slice's name is no part of the machine
abbrev pub OnePart : (Bor (List ℕ) → Type 0) → Type 0
OnePart allows = (r r' : Bor (List ℕ)) → allows r → allows r' → (r.ref_ptr ≡ r'.ref_ptr) × (r.now ≡ r'.now)

-- what a writer answers on paper, and what it leaves in its output
pub record Outcome : Type 0 where
  pub answer : Answer
  pub output : List ℕ

-- what was written is such a text; it lies over the output from the place on, and its length is answered
pub record WrittenAs (Is : List ℕ → Type 0) (out : List ℕ) (at : ℕ) (o : Outcome) : Type 0 where
  pub text : List ℕ
  pub is : Is text
  pub count : o.answer ≡ says 0 (length text ∷ [])
  pub fits : at + length text ≤ length out
  pub bytes : o.output ≡ over_at at text out

-- the outcome of which that is so with the text t
abbrev pub laid_over : List ℕ → List ℕ → ℕ → Outcome
laid_over t out at = record { answer = says 0 (length t ∷ []); output = over_at at t out }

-- the text that an outcome has written: as many bytes as it answers, from the place on
pub record HasWritten (o : Outcome) (at : ℕ) (t : List ℕ) : Type 0 where
  pub count : o.answer ≡ says 0 (length t ∷ [])
  pub bytes : take (length t) (drop at o.output) ≡ t
