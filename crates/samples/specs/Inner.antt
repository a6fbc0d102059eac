-- What the private functions of this crate promise each other. Assumes nothing.
use Rattle.std.specs.Prelude.{ℕ, ◌+◌, ◌<◌, ◌≤◌, ◌≡◌, List, [], ◌∷◌, length, drop, Option, Some, None}
use Rattle.text.specs.Range.{cut}
use Rattle.text.specs.declared.range.Range.{Range}
use Rattle.pieces.specs.Pieces.{split}

-- the keys from a place on, if there is one
unfoldable pub keys_from : List ℕ → Option ℕ → List (List ℕ)
keys_from t None = []
keys_from t (Some at) = split 58 (drop at t)

-- the key r starts at the place, and the others follow from the next one on
pub record KeyAt (t : List ℕ) (at : ℕ) (r : Range) (next : Option ℕ) : Type 0 where
  pub start : r.start ≡ at
  pub within : r.start + r.len ≤ length t
  pub some : 0 < length t
  pub keys : split 58 (drop at t) ≡ cut r t ∷ keys_from t next
  pub onward : (n : ℕ) → next ≡ Some n → (at < n) × (n ≤ length t)

-- no key starts at a place of an empty text only
abbrev pub ReadsKey : List ℕ → ℕ → Option (Range × Option ℕ) → Type 0
ReadsKey t at (Some (r, next)) = KeyAt t at r next
ReadsKey t at None = at ≤ length t → length t ≡ 0
