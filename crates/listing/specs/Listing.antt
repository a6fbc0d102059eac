-- The listing of an input (docs/RULES.md, "The program vcflist"): its leading lines, what is found at each place, and the rows.
-- Assumes nothing.
use Rattle.std.specs.Prelude.{ℕ, zero, suc, ◌+◌, ◌≡◌, Bool, true, false, List, [], ◌∷◌, length, drop, ltb, eqb}
use Rattle.std.proofs.Math.Option as O
use Rattle.text.specs.Pick.{pick}
use Rattle.text.specs.Answer.{Answer, says, number_of, next_of}
use Rattle.pieces.specs.Pieces.{split}
use Rattle.record.specs.Ending.{ending_bytes}
use Rattle.record.specs.Place.{column_of}
use Rattle.record.specs.declared.place.Name.TheVariants as N
use Rattle.line.specs.Line.{Line, line, line_of, read_answer}
use Rattle.fields.specs.Fields.{read_text}
use Rattle.info.specs.Info.{info_count}

-- ---- a line

-- how many bytes lie from the line's start through its LF, or through the end
unfoldable pub size_of : Line → ℕ
size_of (line t e rest) = length t + length (ending_bytes e)

-- its columns, between tabs
unfoldable pub columns_of : Line → List (List ℕ)
columns_of (line t e rest) = split 9 t

-- how many entries a text of INFO claims, if there is any
unfoldable pub infos_of : O.Option (List ℕ) → ℕ
infos_of O.none = 0
infos_of (O.some t) = info_count t

-- and the INFO column, by what it reads as
unfoldable pub infos_in : List (List ℕ) → ℕ
infos_in cs = infos_of (read_text N.Info (column_of N.Info cs))

-- how many columns there are, the INFO count, and how many of the columns are samples
unfoldable pub counts_of : List (List ℕ) → List ℕ
counts_of cs = length cs ∷ infos_in cs ∷ length (drop 9 cs) ∷ []

-- ---- what is found at a place

-- no line is longer
abbrev pub longest : ℕ
longest = 65536

-- 22, and the place past them, where more bytes than that lie from the place through the LF or the end; else what the line reader answers
unfoldable pub found_at : List ℕ → ℕ → Answer
found_at s at = pick (ltb longest (size_of (line_of (drop at s)))) (says 22 ((at + size_of (line_of (drop at s))) ∷ [])) (read_answer s at)

-- the row for it: 0 with the line's counts, or the refusal's number
unfoldable pub row_of : Line → Answer → Answer
row_of l (says zero vs) = says 0 (counts_of (columns_of l))
row_of l (says (suc n) vs) = says (suc n) []

-- ---- the listing

unfoldable pub begins_hash : List ℕ → Bool
begins_hash [] = false
begins_hash (b ∷ s) = eqb b 35

-- from a place on, lines that begin with `#` lead to the place where the first other line starts
pub data Leads (s : List ℕ) : ℕ → ℕ → Type 0 where
  none : {at : ℕ} → begins_hash (drop at s) ≡ false → Leads s at at
  one : {at first : ℕ} → begins_hash (drop at s) ≡ true → Leads s (at + size_of (line_of (drop at s))) first → Leads s at first

-- the rows from a place on, each read going on from the next place, up to answer 1
pub data Rows (s : List ℕ) : ℕ → List Answer → Type 0 where
  end : {at : ℕ} → number_of (found_at s at) ≡ 1 → Rows s at []
  row : {at : ℕ} {rows : List Answer} → (number_of (found_at s at) ≡ 1 → ⊥) → Rows s (next_of (found_at s at)) rows
      → Rows s at (row_of (line_of (drop at s)) (found_at s at) ∷ rows)

pub record Listing (s : List ℕ) (rows : List Answer) : Type 0 where
  pub first : ℕ
  pub leads : Leads s 0 first
  pub lists : Rows s first rows
