-- What the private functions of this crate promise each other. Assumes nothing.
use Rattle.std.specs.Prelude.{ℕ, ◌+◌, ◌≤◌, ◌≡◌, Bool, List, length, drop}
use Rattle.text.specs.Pick.{within}
use Rattle.text.specs.Utf8.{lead, lead_of, char_size, is_utf8}

-- the first byte a asks for n bytes in all, and r tells whether b is within the bounds of the second
pub record Second (n a b : ℕ) (r : Bool) : Type 0 where
  pub low : ℕ
  pub high : ℕ
  pub asks : lead_of a ≡ lead n low high
  pub tells : r ≡ within low high b

-- r is the size of the character at a place, which ends within the text
pub record CharAt (s : List ℕ) (at r : ℕ) : Type 0 where
  pub size : r ≡ char_size (drop at s)
  pub fits : at + r ≤ length s
  pub small : r ≤ 4

-- what is left from one place on is UTF-8 exactly when what is left from another on is
pub record Passes (s : List ℕ) (from to : ℕ) : Type 0 where
  pub reached : to ≤ length s
  pub same : is_utf8 (drop to s) ≡ is_utf8 (drop from s)
