-- UTF-8: a text is a list of characters, each in one of nine rows (docs/RULES.md, "Characters"; RFC 3629). Assumes nothing.
use Rattle.std.specs.Prelude.{ℕ, zero, suc, ◌-◌, Bool, true, false, ◌&&◌, List, [], ◌∷◌, length, take, eqb}
use Rattle.std.proofs.Math.Option.{Option, some, none}
use Rattle.text.specs.Pick.{pick, within}
use Rattle.text.specs.Answer.{Answer, says}

-- ---- the table

-- the first byte's bounds, the second's, and the number of bytes in all
pub data Row : Type 0 where
  row : ℕ → ℕ → ℕ → ℕ → ℕ → Row

unfoldable pub table : List Row
table =
    row 0x00 0x7f 0x00 0x00 1
    ∷ row 0xc2 0xdf 0x80 0xbf 2
    ∷ row 0xe0 0xe0 0xa0 0xbf 3
    ∷ row 0xe1 0xec 0x80 0xbf 3
    ∷ row 0xed 0xed 0x80 0x9f 3
    ∷ row 0xee 0xef 0x80 0xbf 3
    ∷ row 0xf0 0xf0 0x90 0xbf 4
    ∷ row 0xf1 0xf3 0x80 0xbf 4
    ∷ row 0xf4 0xf4 0x80 0x8f 4
    ∷ []

-- what a first byte asks for: the number of bytes in all, and the second's bounds
pub data Lead : Type 0 where
  lead : ℕ → ℕ → ℕ → Lead

-- as the first row says that the byte falls in; no number of bytes where it falls in none
unfoldable pub lead_in : ℕ → List Row → Lead
lead_in a [] = lead 0 0 0
lead_in a (row low high low₂ high₂ n ∷ rows) = pick (within low high a) (lead n low₂ high₂) (lead_in a rows)

unfoldable pub lead_of : ℕ → Lead
lead_of a = lead_in a table

-- ---- one character

-- further bytes are 80 to BF
unfoldable pub further : List ℕ → Bool
further [] = true
further (b ∷ s) = within 0x80 0xbf b && further s

-- the bytes after the first: the second within its own bounds, and the further ones
unfoldable pub second : ℕ → ℕ → List ℕ → Bool
second low high [] = true
second low high (b ∷ s) = within low high b && further s

-- the bytes after the first are as many and such as the first asks for
unfoldable pub follows : Lead → List ℕ → Bool
follows (lead n low high) s = eqb (suc (length s)) n && second low high s

unfoldable pub is_char : List ℕ → Bool
is_char [] = false
is_char (a ∷ s) = follows (lead_of a) s

unfoldable pub all_chars : List (List ℕ) → Bool
all_chars [] = true
all_chars (c ∷ cs) = is_char c && all_chars cs

-- ---- a text

-- n where the first n bytes of a text whose first byte asks so are a character, else 0
unfoldable pub size_by : Lead → List ℕ → ℕ
size_by (lead n low high) s = pick (follows (lead n low high) (take (n - 1) s)) n 0

-- the size of the character that a text begins with, or 0 where it begins with none
unfoldable pub char_size : List ℕ → ℕ
char_size [] = 0
char_size (a ∷ s) = size_by (lead_of a) s

-- one character before the others, where there are such
unfoldable pub before : List ℕ → Option (List (List ℕ)) → Option (List (List ℕ))
before c none = none
before c (some cs) = some (c ∷ cs)

-- the characters of a text after its first k bytes: each is taken whole at its first byte, and its other bytes are passed
unfoldable pub chars_from : ℕ → List ℕ → Option (List (List ℕ))
chars_from k [] = some []
chars_from (suc k) (a ∷ s) = chars_from k s
chars_from zero (a ∷ s) = elim (char_size (a ∷ s)) [ zero ↦ none | suc n ↦ before (take (suc n) (a ∷ s)) (chars_from n s) ]

-- the list of a text's characters, where it is one
unfoldable pub chars_of : List ℕ → Option (List (List ℕ))
chars_of t = chars_from 0 t

unfoldable pub there : Option (List (List ℕ)) → Bool
there none = false
there (some cs) = true

unfoldable pub is_utf8 : List ℕ → Bool
is_utf8 t = there (chars_of t)

unfoldable pub utf8_answer : List ℕ → Answer
utf8_answer t = pick (is_utf8 t) (says 0 []) (says 5 [])
