-- What is asked of any count, step and finder of samples, subfields and keys, as functions on lists (docs/RULES.md,
-- "Samples"; docs/STATEMENTS.md). Assumes nothing.
use Rattle.std.specs.Prelude.{ℕ, ◌<◌, ◌≡◌, List, [], ◌∷◌, length}
use Rattle.text.specs.Answer.{Answer, says}
use Rattle.text.specs.First.{FirstOf}
use Rattle.pieces.specs.Pieces.{pieces}
use Rattle.pieces.specs.Demands.{Walk, Numbered}

-- counted, visited by steps and asked by number, the samples are the pieces between tabs, in order
pub record Listed (count : List ℕ → ℕ) (step sample : List ℕ → ℕ → Answer) : Type 0 where
  pub counts : (t : List ℕ) → count t ≡ length (pieces 9 t)
  pub visits : (t : List ℕ) → 0 < length t → Walk (λ separator. step) 9 t 0 (pieces 9 t)
  pub none : step [] 0 ≡ says 10 []
  pub numbers : (t : List ℕ) (n : ℕ) → Numbered (pieces 9 t) t n (sample t n)

-- asked by number, the subfields are the pieces between colons, in order
unfoldable pub Subfields : (List ℕ → ℕ → Answer) → Type 0
Subfields subfield = (t : List ℕ) (n : ℕ) → Numbered (pieces 58 t) t n (subfield t n)

-- the index of the first of the keys that is equal, or 10 where none is
pub data FirstKey (ks : List (List ℕ)) (key : List ℕ) : Answer → Type 0 where
  first : {i : ℕ} → FirstOf (λ (k : List ℕ). k ≡ key) ks i → FirstKey ks key (says 0 (i ∷ []))
  none : ((i : ℕ) → FirstOf (λ (k : List ℕ). k ≡ key) ks i → ⊥) → FirstKey ks key (says 10 [])

unfoldable pub Keys : (List ℕ → List ℕ → Answer) → Type 0
Keys index = (format key : List ℕ) → FirstKey (pieces 58 format) key (index format key)
