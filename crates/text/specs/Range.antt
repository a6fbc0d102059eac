-- What a range cuts out of a text. Assumes nothing.
use Rattle.std.specs.Prelude.{ℕ, List, [], ◌∷◌, take, drop}
use Rattle.text.specs.declared.range.Range.{Range}

abbrev pub range_at : ℕ → ℕ → Range
range_at start len = record { start = start; len = len }

-- its start and its length, as an answer carries them
abbrev pub range_places : Range → List ℕ
range_places r = r.start ∷ r.len ∷ []

-- the bytes from the range's start on, as many as its length
unfoldable pub cut : Range → List ℕ → List ℕ
cut r t = take r.len (drop r.start t)
