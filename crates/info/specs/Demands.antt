-- What is asked of any step over an INFO column, any finder and any count, as functions on lists (docs/RULES.md, "INFO";
-- docs/STATEMENTS.md). Assumes nothing.
use Rattle.std.specs.Prelude.{ℕ, ◌+◌, ◌-◌, ◌<◌, ◌≤◌, ◌≡◌, ◌↔◌, List, [], ◌∷◌, ◌++◌, map, length, get_or, take, drop}
use Rattle.text.specs.Answer.{Answer, says, number_of, values_of}
use Rattle.pieces.specs.Pieces.{joined, count_of}
use Rattle.pieces.specs.Demands.{Free}
use Rattle.info.specs.Info.{Pair, alone, paired, key_of}
use Rattle.info.specs.Find.{find_answer}

-- a stepper is given a column and a place, and answers on paper
abbrev pub Stepper : Type 0
Stepper = List ℕ → ℕ → Answer

-- a finder is given a column and a key
abbrev pub Finder : Type 0
Finder = List ℕ → List ℕ → Answer

-- ---- a step, by the shape of what is left

-- a key: not empty, no `=` and no `;`
pub record Key (k : List ℕ) : Type 0 where
  pub some : 0 < length k
  pub no_equals : Free 61 k
  pub no_semicolon : Free 59 k

-- what a step from a place answers, by what is left from there on (61 is `=`, 59 is `;`): the number, the next place, and the places of an entry
-- 6: the place lies beyond the column; 10: it is the end
-- 0: a key, or a key, `=` and a value, before the column's end or before `;` and more
-- 7 after a key, 9 after a value: that `;` is the last byte; 7 is judged before 8, so there the key may be empty
-- 8: an empty key, before `=` or before `;` and more
pub data StepAt (t : List ℕ) (at : ℕ) : Answer → Type 0 where
  past_end : length t < at → StepAt t at (says 6 (at ∷ []))
  at_end : at ≡ length t → StepAt t at (says 10 (at ∷ []))
  key_last : {k : List ℕ} → Key k → drop at t ≡ k → StepAt t at (says 0 (length t ∷ at ∷ length k ∷ []))
  key_more : {k : List ℕ} → Key k → (b : ℕ) (rest : List ℕ) → drop at t ≡ k ++ 59 ∷ b ∷ rest → StepAt t at (says 0 ((at + length k + 1) ∷ at ∷ length k ∷ []))
  value_last : {k v : List ℕ} → Key k → Free 59 v → drop at t ≡ k ++ 61 ∷ v
      → StepAt t at (says 0 (length t ∷ at ∷ length k ∷ (at + length k + 1) ∷ length v ∷ []))
  value_more : {k v : List ℕ} → Key k → Free 59 v → (b : ℕ) (rest : List ℕ) → drop at t ≡ k ++ 61 ∷ v ++ 59 ∷ b ∷ rest
      → StepAt t at (says 0 ((at + length k + 1 + length v + 1) ∷ at ∷ length k ∷ (at + length k + 1) ∷ length v ∷ []))
  key_dangles : {k : List ℕ} → Free 61 k → Free 59 k → drop at t ≡ k ++ 59 ∷ [] → StepAt t at (says 7 (length t ∷ []))
  value_dangles : {k v : List ℕ} → Key k → Free 59 v → drop at t ≡ k ++ 61 ∷ v ++ 59 ∷ [] → StepAt t at (says 9 (length t ∷ []))
  equals_first : {rest : List ℕ} → drop at t ≡ 61 ∷ rest → StepAt t at (says 8 ((at + 1) ∷ []))
  semicolon_first : {b : ℕ} {rest : List ℕ} → drop at t ≡ 59 ∷ b ∷ rest → StepAt t at (says 8 ((at + 1) ∷ []))

-- a stepper answers so, and only so
unfoldable pub Steps : Stepper → Type 0
Steps step = (t : List ℕ) (at : ℕ) (a : Answer) → (step t at ≡ a) ↔ StepAt t at a

-- two steppers that meet it give one answer, with all its values, from every place of every column
unfoldable pub OneStepper : Type 0
OneStepper = (step other : Stepper) → Steps step → Steps other → (t : List ℕ) (at : ℕ) → step t at ≡ other t at

-- ---- the scan is tied to the text

unfoldable pub spelled : Pair → List ℕ
spelled (alone k) = k
spelled (paired k v) = k ++ 61 ∷ v

unfoldable pub value_free : Pair → Type 0
value_free (alone k) = Unit {0}
value_free (paired k v) = Free 59 v

-- its key is one, and its value, if it has one, holds no `;`
pub record Good (p : Pair) : Type 0 where
  pub key : Key (key_of p)
  pub value : value_free p

-- the entries, spelled and joined by `;`, are the column
pub record WellFormed (t : List ℕ) (es : List Pair) : Type 0 where
  pub each : (i : ℕ) → i < length es → Good (get_or es i (alone []))
  pub whole : joined 59 (map spelled es) ≡ t

-- the steps from a place on cut these entries out of the column, one after the other, and end with 10
pub data Scan (step : Stepper) (t : List ℕ) : ℕ → List Pair → Type 0 where
  end : {at : ℕ} → step t at ≡ says 10 (at ∷ []) → Scan step t at []
  bare : {at next k m : ℕ} {es : List Pair} → step t at ≡ says 0 (next ∷ k ∷ m ∷ []) → Scan step t next es → Scan step t at (alone (take m (drop k t)) ∷ es)
  full : {at next k m v n : ℕ} {es : List Pair} → step t at ≡ says 0 (next ∷ k ∷ m ∷ v ∷ n ∷ []) → Scan step t next es
      → Scan step t at (paired (take m (drop k t)) (take n (drop v t)) ∷ es)

-- the steps of a column meet no refusal exactly when it is well formed, and then they are its entries
unfoldable pub Scans : Stepper → Type 0
Scans step = (t : List ℕ) (es : List Pair) → WellFormed t es ↔ Scan step t 0 es

-- ---- each step moves on

-- where each number goes on: 6 and 10 at the place given, 7 and 9 at the column's end, 8 past one byte
pub data GoesOn (t : List ℕ) (at : ℕ) : ℕ → ℕ → Type 0 where
  entry : {next : ℕ} → at < next → next ≤ length t → GoesOn t at 0 next
  beyond : length t < at → GoesOn t at 6 at
  after_key : at < length t → GoesOn t at 7 (length t)
  no_key : at < length t → GoesOn t at 8 (at + 1)
  after_value : at < length t → GoesOn t at 9 (length t)
  ended : at ≡ length t → GoesOn t at 10 at

-- the answer's first value is the next place
pub record Moved (t : List ℕ) (at : ℕ) (a : Answer) : Type 0 where
  pub next : ℕ
  pub places : List ℕ
  pub values : values_of a ≡ next ∷ places
  pub goes : GoesOn t at (number_of a) next

unfoldable pub MovesOn : Stepper → Type 0
MovesOn step = (t : List ℕ) (at : ℕ) → Moved t at (step t at)

-- 10 is the answer of step number n from the place on, and of none before it
pub data Ends (step : Stepper) (t : List ℕ) : ℕ → ℕ → Type 0 where
  now : {at : ℕ} {vs : List ℕ} → step t at ≡ says 10 vs → Ends step t at 1
  later : {at a next n : ℕ} {vs : List ℕ} → step t at ≡ says a (next ∷ vs) → (a ≡ 10 → ⊥) → Ends step t next n → Ends step t at (n + 1)

-- so many steps, at most the bytes from the place on and one more
pub record Finished (step : Stepper) (t : List ℕ) (at : ℕ) : Type 0 where
  pub steps : ℕ
  pub few : steps ≤ length t - at + 1
  pub ends : Ends step t at steps

unfoldable pub Finishes : Stepper → Type 0
Finishes step = (t : List ℕ) (at : ℕ) → at ≤ length t → Finished step t at

-- ---- the first entry with a key

-- from the place on, steps whose keys are others, then this answer: the entry with the key, a refusal, or 10 with the column's length
pub data Leads (step : Stepper) (t key : List ℕ) : ℕ → Answer → Type 0 where
  found : {at next k m : ℕ} {vs : List ℕ} → step t at ≡ says 0 (next ∷ k ∷ m ∷ vs) → take m (drop k t) ≡ key → Leads step t key at (says 0 (next ∷ k ∷ m ∷ vs))
  refused : {at n next : ℕ} → step t at ≡ says n (next ∷ []) → 7 ≤ n → n ≤ 9 → Leads step t key at (says n (next ∷ []))
  none : {at : ℕ} → step t at ≡ says 10 (at ∷ []) → Leads step t key at (says 10 (length t ∷ []))
  other : {at next k m : ℕ} {vs : List ℕ} {a : Answer} → step t at ≡ says 0 (next ∷ k ∷ m ∷ vs) → (take m (drop k t) ≡ key → ⊥) → Leads step t key next a
      → Leads step t key at a

-- a finder's answer is that one, and there is no other
pub record First (step : Stepper) (find : Finder) : Type 0 where
  pub is : (t key : List ℕ) → Leads step t key 0 (find t key)
  pub only : (t key : List ℕ) (a : Answer) → Leads step t key 0 a → a ≡ find t key

-- ---- what follows from the steps alone

-- the statements above, of a stepper and of our finder
pub record Follows (step : Stepper) : Type 0 where
  pub scans : Scans step
  pub moves_on : MovesOn step
  pub finishes : Finishes step
  pub first : First step find_answer

-- any stepper that meets `Steps` meets them
unfoldable pub StepsSuffice : Type 0
StepsSuffice = (step : Stepper) → Steps step → Follows step

-- and two finders of the first entry, each over a stepper that meets `Steps`, give one answer for every column and key
unfoldable pub OneFinder : Type 0
OneFinder = (step other : Stepper) → Steps step → Steps other → (find seek : Finder) → First step find → First other seek → (t key : List ℕ) → find t key ≡ seek t key

-- ---- the count

-- semicolons plus one, and 0 for the empty column
pub record Counts (count : List ℕ → ℕ) : Type 0 where
  pub none : count [] ≡ 0
  pub some : (t : List ℕ) → 0 < length t → count t ≡ count_of 59 t + 1
