-- What is asked of any cutter of a text into characters, as a function on lists (docs/STATEMENTS.md). Assumes nothing.
use Rattle.std.specs.Prelude.{ℕ, ◌<◌, ◌≡◌, Bool, true, ◌↔◌}
use mathlib.Core.List.{List, ◌∷◌, ◌++◌, flatten}
use Rattle.std.proofs.Math.Option.{Option, some}
use Rattle.text.specs.Utf8.{all_chars}

-- a list of characters, each in one of the nine rows, that one after the other are the text
pub record Characters (t : List ℕ) (cs : List (List ℕ)) : Type 0 where
  pub each : all_chars cs ≡ true
  pub whole : flatten cs ≡ t

-- what the cutter gives is such a list, and it gives each such list: so a text that has one has no other
pub record Cuts (chars : List ℕ → Option (List (List ℕ))) : Type 0 where
  pub is : (t : List ℕ) (cs : List (List ℕ)) → chars t ≡ some cs → Characters t cs
  pub only : (t : List ℕ) (cs : List (List ℕ)) → Characters t cs → chars t ≡ some cs

-- a text is UTF-8 exactly when the texts before and after one of its bytes below 80 hex are
abbrev pub Parted : (List ℕ → Bool) → Type 0
Parted check = (a c : List ℕ) (b : ℕ) → b < 0x80 → (check (a ++ b ∷ c) ≡ true) ↔ ((check a ≡ true) × (check c ≡ true))
