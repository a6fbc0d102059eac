-- What is asked of any judge of an entry, of any writer of a list and of any count of ALT, as functions on lists (docs/RULES.md,
-- "Genotypes", "Filters and ALT", "One list, one spelling"; docs/STATEMENTS.md). Assumes nothing.
use Rattle.std.specs.Prelude.{ℕ, ◌+◌, ◌<◌, ◌≤◌, ◌≡◌, true, false, ◌↔◌, List, [], ◌∷◌, ◌++◌, length, get_or, take, drop, Result}
use Rattle.text.specs.Pick.{pick}
use Rattle.text.specs.Answer.{Answer, says, number_of}
use Rattle.text.specs.Same.{same}
use Rattle.text.specs.Place.{placed}
use Rattle.text.specs.Over.{laid_at}
use Rattle.text.specs.Outcome.{Outcome, WrittenAs, HasWritten}
use Rattle.text.specs.Space.{code_point, is_space}
use Rattle.text.specs.Demands.{Characters}
use Rattle.pieces.specs.Pieces.{split}
use Rattle.pieces.specs.Demands.{Free, Cut}
use Rattle.entries.specs.Entries.{rising, entry_list}
use Rattle.lists.specs.Kind.{separator_of, invalid_of}
use Rattle.lists.specs.Paper.{write_paper}
use Rattle.lists.specs.Write.{list_text, entries_answer, WritesListAt}
use Rattle.lists.specs.declared.write.Kind.{Kind}
use Rattle.lists.specs.declared.write.Kind.TheVariants as K
use Rattle.lists.specs.declared.write.WriteError.{WriteError}

-- ---- valid entries

-- characters of the text, none of which is white space
pub record Unspaced (t : List ℕ) (cs : List (List ℕ)) : Type 0 where
  pub are : Characters t cs
  pub none : (i : ℕ) → i < length cs → is_space (code_point (get_or cs i [])) ≡ false

-- a filter is not empty, `.` or `0`, and holds no `;`
pub record FilterValid (t : List ℕ) : Type 0 where
  pub some : 0 < length t
  pub not_dot : t ≡ 46 ∷ [] → ⊥
  pub not_zero : t ≡ 48 ∷ [] → ⊥
  pub no_semicolon : Free 59 t

-- not empty, and free of `<` and `>`
pub record Inside (t : List ℕ) : Type 0 where
  pub some : 0 < length t
  pub no_open : Free 60 t
  pub no_close : Free 62 t

-- an ALT entry is not empty and holds no comma; one that begins with `<` and, past that byte, ends with `>` has an inside
pub record AltValid (t : List ℕ) : Type 0 where
  pub some : 0 < length t
  pub no_comma : Free 44 t
  pub symbol : (inside : List ℕ) → t ≡ 60 ∷ inside ++ 62 ∷ [] → Inside inside

abbrev pub Valid : Kind → List ℕ → Type 0
Valid K.Filters t = FilterValid t
Valid K.Alts t = AltValid t

-- valid, and none of its characters is white space
abbrev pub Fine : Kind → List ℕ → Type 0
Fine kind t = Valid kind t × ((cs : List (List ℕ)) × Unspaced t cs)

-- 5 exactly where the text has no characters; fine exactly where it is valid and no character is white space; else 14 or 15
pub record JudgedAs (kind : Kind) (t : List ℕ) (a : Answer) : Type 0 where
  pub broken : (a ≡ says 5 []) ↔ ((cs : List (List ℕ)) → Characters t cs → ⊥)
  pub fine : (a ≡ says 0 []) ↔ (Valid kind t × ((cs : List (List ℕ)) × Unspaced t cs))
  pub other : (a ≡ says 5 [] → ⊥) → (a ≡ says 0 [] → ⊥) → a ≡ says (invalid_of kind) []

unfoldable pub Judges : (Kind → List ℕ → Answer) → Type 0
Judges judge = (kind : Kind) (t : List ℕ) → JudgedAs kind t (judge kind t)

-- ---- what is written gives the entries back

-- the entries of a written text: none for `.`, else its pieces
unfoldable pub entries_of : Kind → List ℕ → List (List ℕ)
entries_of kind t = pick (same t (46 ∷ [])) [] (split (separator_of kind) t)

-- of valid filters always; of valid ALT entries for every list but that of a single `.`
pub record GivesBack (write : Kind → List (List ℕ) → List ℕ) : Type 0 where
  pub filters : (es : List (List ℕ)) → ((i : ℕ) → i < length es → FilterValid (get_or es i [])) → entries_of K.Filters (write K.Filters es) ≡ es
  pub alts : (es : List (List ℕ)) → ((i : ℕ) → i < length es → AltValid (get_or es i [])) → (es ≡ (46 ∷ []) ∷ [] → ⊥) → entries_of K.Alts (write K.Alts es) ≡ es

-- ---- the ALT count

-- `.` and the empty column have none; any other has as many as the texts without a comma that, joined by commas, are the column
pub record Counts (count : List ℕ → ℕ) : Type 0 where
  pub dot : count (46 ∷ []) ≡ 0
  pub empty : count [] ≡ 0
  pub other : (t : List ℕ) (es : List (List ℕ)) → (t ≡ 46 ∷ [] → ⊥) → (t ≡ [] → ⊥) → Cut 44 t es → count t ≡ length es

-- two that do so give every column one count
unfoldable pub OneCount : Type 0
OneCount = (count other : List ℕ → ℕ) → Counts count → Counts other → (t : List ℕ) → count t ≡ other t

-- what is written of valid ALT entries counts these, for every list but that of a single `.`
unfoldable pub CountsWritten : (List ℕ → ℕ) → (Kind → List (List ℕ) → List ℕ) → Type 0
CountsWritten count write = (es : List (List ℕ)) → ((i : ℕ) → i < length es → AltValid (get_or es i [])) → (es ≡ (46 ∷ []) ∷ [] → ⊥)
    → count (write K.Alts es) ≡ length es

-- ---- writers

-- a writer is given a kind, entries, an output and a place in it
abbrev pub Writer : Type 0
Writer = Kind → List (List ℕ) → List ℕ → ℕ → Outcome

-- ours, over the definitions
unfoldable pub writer : Writer
writer kind es out at =
    record {
      answer = placed at out (entries_answer kind es (drop at out));
      output = laid_at (placed at out (entries_answer kind es (drop at out))) at (list_text kind es) out;
    }

-- the text of a list: `.` for none, else the entries, which are free of the separator, with separators between
pub data TextOf (kind : Kind) : List (List ℕ) → List ℕ → Type 0 where
  none : TextOf kind [] (46 ∷ [])
  some : {es : List (List ℕ)} {t : List ℕ} → Cut (separator_of kind) t es → TextOf kind es t

-- what is written is the text of the list, and lies over the output from the place on
abbrev pub Written : Kind → List (List ℕ) → List ℕ → ℕ → Outcome → Type 0
Written kind es out at o = WrittenAs (TextOf kind es) out at o

unfoldable pub WritesText : Writer → Type 0
WritesText write = (kind : Kind) (es : List (List ℕ)) (out : List ℕ) (at : ℕ) → number_of (write kind es out at).answer ≡ 0 → Written kind es out at (write kind es out at)

-- the number that refuses an entry: 5 where it has no characters, else 14 or 15 where it is not fine
pub data Fault (kind : Kind) (e : List ℕ) : ℕ → Type 0 where
  broken : ((cs : List (List ℕ)) → Characters e cs → ⊥) → Fault kind e 5
  invalid : {cs : List (List ℕ)} → Characters e cs → (Fine kind e → ⊥) → Fault kind e (invalid_of kind)

-- the first entry that is not fine has index k, and this number refuses it
pub data FirstFault (kind : Kind) : List (List ℕ) → ℕ → ℕ → Type 0 where
  here : {e : List ℕ} {es : List (List ℕ)} {number : ℕ} → Fault kind e number → FirstFault kind (e ∷ es) 0 number
  later : {e : List ℕ} {es : List (List ℕ)} {k number : ℕ} → Fine kind e → FirstFault kind es k number → FirstFault kind (e ∷ es) (k + 1) number

abbrev pub AllFine : Kind → List (List ℕ) → Type 0
AllFine kind es = (i : ℕ) → i < length es → Fine kind (get_or es i [])

-- 6 beyond the output; else the first fault, with the entry's index; else 17, where all are fine and their text does not fit
pub data Refused (kind : Kind) (es : List (List ℕ)) (out : List ℕ) (at : ℕ) : Answer → Type 0 where
  beyond : length out < at → Refused kind es out at (says 6 [])
  fault : {k number : ℕ} → at ≤ length out → FirstFault kind es k number → Refused kind es out at (says number (k ∷ []))
  short : {t : List ℕ} → at ≤ length out → AllFine kind es → TextOf kind es t → length out < at + length t → Refused kind es out at (says 17 [])

-- an answer other than 0 is given exactly where it is due, with the values that it carries
unfoldable pub Refusals : Writer → Type 0
Refusals write = (kind : Kind) (es : List (List ℕ)) (out : List ℕ) (at : ℕ) (a : Answer) → (number_of a ≡ 0 → ⊥)
    → ((write kind es out at).answer ≡ a) ↔ Refused kind es out at a

-- a refusal leaves the output as it was
unfoldable pub Untouched : Writer → Type 0
Untouched write = (kind : Kind) (es : List (List ℕ)) (out : List ℕ) (at : ℕ) → (number_of (write kind es out at).answer ≡ 0 → ⊥) → (write kind es out at).output ≡ out

-- (so the entries of a list that is written are all fine)
pub record Meets (write : Writer) : Type 0 where
  pub writes_text : WritesText write
  pub refusals : Refusals write
  pub untouched : Untouched write

-- two writers that meet these three give one answer, with all its values, and leave one output, for every list, output and place
unfoldable pub OneWriter : Type 0
OneWriter = (write other : Writer) → Meets write → Meets other → (kind : Kind) (es : List (List ℕ)) (out : List ℕ) (at : ℕ)
    → write kind es out at ≡ other kind es out at

-- ---- one list, one spelling

-- two lists of filters that are written have one text exactly where they are equal
unfoldable pub OneFilters : Writer → Type 0
OneFilters write = (es fs : List (List ℕ)) (out : List ℕ) (at : ℕ) (t : List ℕ) (out₂ : List ℕ) (at₂ : ℕ) (u : List ℕ)
    → HasWritten (write K.Filters es out at) at t → HasWritten (write K.Filters fs out₂ at₂) at₂ u → (t ≡ u) ↔ (es ≡ fs)

-- equal, or the empty list and the list of a single `.`
pub data Alike (es fs : List (List ℕ)) : Type 0 where
  equal : es ≡ fs → Alike es fs
  none_dot : es ≡ [] → fs ≡ (46 ∷ []) ∷ [] → Alike es fs
  dot_none : es ≡ (46 ∷ []) ∷ [] → fs ≡ [] → Alike es fs

-- two lists of ALT entries that are written have one text exactly where they are so
unfoldable pub OneAlts : Writer → Type 0
OneAlts write = (es fs : List (List ℕ)) (out : List ℕ) (at : ℕ) (t : List ℕ) (out₂ : List ℕ) (at₂ : ℕ) (u : List ℕ)
    → HasWritten (write K.Alts es out at) at t → HasWritten (write K.Alts fs out₂ at₂) at₂ u → (t ≡ u) ↔ Alike es fs

-- both follow, of any writer
unfoldable pub Spellings : Type 0
Spellings = (write : Writer) → Meets write → OneFilters write × OneAlts write

-- ---- the writers over an entry list

-- where the ends are in order, `write_filters` and `write_alts` answer and leave what the writer does with the entries that they stand for;
-- else 16, behind 6, and the output is left as it was
pub record EntriesWriter : Type 0 where
  pub rises : (kind : Kind) (t ends out : List ℕ) (at : ℕ) (r : Result ℕ WriteError) (out' : List ℕ) → rising 0 ends (length t) ≡ true → WritesListAt kind t ends out at r out'
      → (write_paper kind r ≡ (writer kind (entry_list t ends) out at).answer) × (out' ≡ (writer kind (entry_list t ends) out at).output)
  pub falls : (kind : Kind) (t ends out : List ℕ) (at : ℕ) (r : Result ℕ WriteError) (out' : List ℕ) → rising 0 ends (length t) ≡ false → WritesListAt kind t ends out at r out'
      → (write_paper kind r ≡ placed at out (says 16 [])) × (out' ≡ out)

-- one of them, by its contract, answered 0 and n, and left out'
pub record Wrote (kind : Kind) (t ends out : List ℕ) (at n : ℕ) (out' : List ℕ) : Type 0 where
  pub answer : Result ℕ WriteError
  pub writes : WritesListAt kind t ends out at answer out'
  pub done : write_paper kind answer ≡ says 0 (n ∷ [])

-- so the bytes that `write_filters` writes of two entry lists are the same exactly where their entries are equal
unfoldable pub FiltersApart : Type 0
FiltersApart =
    (t ends out : List ℕ) (at n : ℕ) (out' : List ℕ) (t₂ ends₂ out₂ : List ℕ) (at₂ n₂ : ℕ) (out₂' : List ℕ)
    → Wrote K.Filters t ends out at n out' → Wrote K.Filters t₂ ends₂ out₂ at₂ n₂ out₂'
    → (take n (drop at out') ≡ take n₂ (drop at₂ out₂')) ↔ (entry_list t ends ≡ entry_list t₂ ends₂)

-- and those that `write_alts` writes exactly where their entries are alike
unfoldable pub AltsApart : Type 0
AltsApart =
    (t ends out : List ℕ) (at n : ℕ) (out' : List ℕ) (t₂ ends₂ out₂ : List ℕ) (at₂ n₂ : ℕ) (out₂' : List ℕ)
    → Wrote K.Alts t ends out at n out' → Wrote K.Alts t₂ ends₂ out₂ at₂ n₂ out₂'
    → (take n (drop at out') ≡ take n₂ (drop at₂ out₂')) ↔ Alike (entry_list t ends) (entry_list t₂ ends₂)
