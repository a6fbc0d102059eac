-- What is asked of any function that gives the fields of a line that was read, what ALT then counts, and what is asked of any reader
-- of POS (docs/RULES.md, "A line", "Genotypes"; docs/STATEMENTS.md). Assumes nothing.
use Rattle.std.specs.Prelude.{ℕ, ◌+◌, ◌<◌, ◌≡◌, ◌↔◌, List, [], ◌∷◌, length, drop, Option, Some, Result, Ok}
use Rattle.text.specs.Answer.{Answer, says}
use Rattle.text.specs.Range.{cut}
use Rattle.text.specs.declared.range.Range.{Range}
use Rattle.decimal.specs.Demands.{Decimal, FirstFault}
use Rattle.record.specs.Ending.{Ending}
use Rattle.record.specs.Place.{column_of, column_start}
use Rattle.record.specs.declared.place.Record.{Record}
use Rattle.record.specs.declared.place.Name.{Name}
use Rattle.record.specs.declared.place.Name.TheVariants as N
use Rattle.line.specs.Promises.{ReadsLine}
use Rattle.line.specs.Demands.{Begins}
use Rattle.lists.specs.AlternateBases.{alt_count}
use Rattle.fields.specs.Fields.{dot_of, empty, absent, itself}
use Rattle.fields.specs.Paper.{field_paper}
use Rattle.fields.specs.Promises.{FindsField}
use Rattle.fields.specs.declared.field.Beyond.{Beyond}

-- it is given a buffer, a record and a name, and answers on paper
abbrev pub Finder : Type 0
Finder = List ℕ → Record → Name → Answer

-- what is answered for a field whose column c starts at a place: that place and the column's length;
-- of a column that is exactly `.` so, or empty at the column's end, or absent, by the field
pub data ReadsAs (n : Name) (start : ℕ) (c : List ℕ) : Answer → Type 0 where
  other : (c ≡ 46 ∷ [] → ⊥) → ReadsAs n start c (says 0 (start ∷ length c ∷ []))
  dot_itself : c ≡ 46 ∷ [] → dot_of n ≡ itself → ReadsAs n start c (says 0 (start ∷ 1 ∷ []))
  dot_empty : c ≡ 46 ∷ [] → dot_of n ≡ empty → ReadsAs n start c (says 0 ((start + 1) ∷ 0 ∷ []))
  dot_absent : c ≡ 46 ∷ [] → dot_of n ≡ absent → ReadsAs n start c (says 0 [])

-- the line reader made this record of the line at a place, which begins with these columns
pub record Made (s : List ℕ) (at : ℕ) (r : Record) (cs : List (List ℕ)) : Type 0 where
  pub next : ℕ
  pub read : ReadsLine s at (Ok (r, next))
  pub ending : Ending
  pub rest : List ℕ
  pub begin : Begins (drop at s) cs ending rest

-- each field of such a record, in its buffer, is its own column, as it reads: so the number is never 6
unfoldable pub Finds : Finder → Type 0
Finds find = (s : List ℕ) (at : ℕ) (r : Record) (cs : List (List ℕ)) → Made s at r cs → (n : Name)
    → ReadsAs n (at + column_start n cs) (column_of n cs) (find s r n)

-- so it is of what `field` answers
unfoldable pub FieldFinds : Type 0
FieldFinds = (s : List ℕ) (at : ℕ) (r : Record) (cs : List (List ℕ)) → Made s at r cs → (n : Name) (x : Result (Option Range) Beyond) → FindsField s r n x
    → ReadsAs n (at + column_start n cs) (column_of n cs) (field_paper x)

-- two that do so give one answer for each field of a record that the line reader made
unfoldable pub OneFinder : Type 0
OneFinder = (find other : Finder) → Finds find → Finds other → (s : List ℕ) (at next : ℕ) (r : Record) → ReadsLine s at (Ok (r, next))
    → (n : Name) → find s r n ≡ other s r n

-- ---- ALT

-- it gives a text of the buffer, and this has so many alternate alleles
pub record HasCount (s : List ℕ) (x : Result (Option Range) Beyond) (count : ℕ) : Type 0 where
  pub range : Range
  pub at : x ≡ Ok (Some range)
  pub same : alt_count (cut range s) ≡ count

-- ALT as it stands in the line, be it `.`, and as `field` gives it, then empty, has one count
unfoldable pub AltCounted : Type 0
AltCounted = (s : List ℕ) (at : ℕ) (r : Record) (cs : List (List ℕ)) → Made s at r cs → (x : Result (Option Range) Beyond) → FindsField s r N.Alt x
    → HasCount s x (alt_count (column_of N.Alt cs))

-- ---- POS

-- a text that POS can be: `0`, or a decimal worth 1 or more
pub data Positioned : List ℕ → Type 0 where
  nowhere : Positioned (48 ∷ [])
  somewhere : {t : List ℕ} {n : ℕ} → Decimal t n → 0 < n → Positioned t

-- 0 alone exactly for `0`; 0 and n exactly for the decimals worth n, where that is 1 or more; 21 and the place of the first fault
-- for all others, so that one worth 0 is at fault at its end
pub record MeetsPos (read : List ℕ → Answer) : Type 0 where
  pub none : (t : List ℕ) → (read t ≡ says 0 []) ↔ (t ≡ 48 ∷ [])
  pub values : (t : List ℕ) (n : ℕ) → (read t ≡ says 0 (n ∷ [])) ↔ (Decimal t n × (0 < n))
  pub faults : FirstFault Positioned 21 read

-- two readers that do so give one answer for every text
unfoldable pub OnePos : Type 0
OnePos = (read other : List ℕ → Answer) → MeetsPos read → MeetsPos other → (t : List ℕ) → read t ≡ other t
