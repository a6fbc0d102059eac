-- A list of alleles that comes as three slices of one length. Assumes nothing.
use Rattle.std.specs.Prelude.{ℕ, ◌+◌, ◌≡◌, ◌⊎◌, true, false, List, [], ◌∷◌, length, drop, Option, Some, None}
use Rattle.std.specs.Borrow.{Bor}
use Rattle.allele.specs.Row.{row_of}
use Rattle.allele.specs.declared.allele.Allele.{Allele}
use Rattle.spelling.specs.declared.row.Row.{Row}

abbrev pub list_of : Row → List Allele
list_of r = row_of r.numbers.now r.missing.now r.phased.now

-- made of slices of one length, and of no others
abbrev pub MakesRow : Bor (List ℕ) → Bor (List ℕ) → Bor (List ℕ) → Option Row → Type 0
MakesRow n m p None = (length n.now ≡ length m.now → ⊥) ⊎ (length n.now ≡ length p.now → ⊥)
MakesRow n m p (Some r) = (r.numbers ≡ n) × (r.missing ≡ m) × (r.phased ≡ p)

-- the first allele, and of none an allele that is missing
unfoldable pub first_of : List Allele → Allele
first_of [] = record { number = 0; missing = true; phased = false }
first_of (a ∷ as') = a

-- the allele with index k
abbrev pub IsAt : List Allele → ℕ → Allele → Type 0
IsAt as' k a = drop k as' ≡ a ∷ drop (k + 1) as'
