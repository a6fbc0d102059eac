-- The place of each field of a line that was read, and which of the line's columns it is (docs/RULES.md, "A line"). Assumes nothing.
use Rattle.std.specs.Prelude.{ℕ, ◌+◌, ◌-◌, List, [], ◌∷◌, length, get_or, drop, eqb, leb, ltb}
use Rattle.text.specs.Pick.{pick}
use Rattle.text.specs.Range.{range_at}
use Rattle.text.specs.declared.range.Range.{Range}
use Rattle.pieces.specs.Pieces.{joined}
use Rattle.pieces.specs.Demands.{start_in}
use Rattle.record.specs.declared.place.Record.{Record}
use Rattle.record.specs.declared.place.Name.{Name}
use Rattle.record.specs.declared.place.Name.TheVariants as N

-- ---- as the record has it

-- a place that no input reaches: no slice is so long
unfoldable pub nowhere : Range
nowhere = range_at 18446744073709551615 0

-- from a start to an end; where the end lies before the start there is no place
unfoldable pub span : ℕ → ℕ → Range
span start end = pick (leb start end) (range_at start (end - start)) nowhere

-- where FORMAT and the samples start, by the end before: past one tab, or at it where there is no FORMAT, as then the ninth end is INFO's
unfoldable pub passed : Record → ℕ → ℕ
passed r before = pick (eqb r.format r.info) before (before + 1)

-- each field from past one tab after the end before it
unfoldable pub range_of : Record → Name → Range
range_of r N.Chrom = span r.start r.chrom
range_of r N.Pos = span (r.chrom + 1) r.pos
range_of r N.Id = span (r.pos + 1) r.id
range_of r N.Reference = span (r.id + 1) r.reference
range_of r N.Alt = span (r.reference + 1) r.alt
range_of r N.Qual = span (r.alt + 1) r.qual
range_of r N.Filter = span (r.qual + 1) r.filter
range_of r N.Info = span (r.filter + 1) r.info
range_of r N.Format = span (passed r r.info) r.format
range_of r N.Samples = span (passed r r.format) r.end

-- ---- as the line has it

-- the number of its column, from 0; the samples are all columns from theirs on
abbrev pub column_number : Name → ℕ
column_number N.Chrom = 0
column_number N.Pos = 1
column_number N.Id = 2
column_number N.Reference = 3
column_number N.Alt = 4
column_number N.Qual = 5
column_number N.Filter = 6
column_number N.Info = 7
column_number N.Format = 8
column_number N.Samples = 9

-- its column among the line's: FORMAT and the samples are empty where there are eight
unfoldable pub column_of : Name → List (List ℕ) → List ℕ
column_of n cs = pick (eqb (column_number n) 9) (joined 9 (drop 9 cs)) (get_or cs (column_number n) [])

-- where that starts in the line's text: past the columns before it, or at the end of the text where there is none
unfoldable pub column_start : Name → List (List ℕ) → ℕ
column_start n cs = pick (ltb (column_number n) (length cs)) (start_in cs (column_number n)) (length (joined 9 cs))

-- ---- places by fewer numbers

-- where each field ends, by starts and lengths
unfoldable pub ends_of : List ℕ → List ℕ
ends_of [] = []
ends_of (start ∷ []) = []
ends_of (start ∷ len ∷ places) = (start + len) ∷ ends_of places

-- the same places in fewer numbers: the line's start, and where each field ends; the samples end where the text does
unfoldable pub numbers_of : List ℕ → List ℕ
numbers_of places = get_or places 0 0 ∷ ends_of places
