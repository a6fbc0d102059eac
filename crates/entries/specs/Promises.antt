-- The promise of each public function of this crate, by its name, and that each determines the outcome. Assumes nothing.
use Rattle.std.specs.Prelude.{ℕ, ◌≡◌, false, List, [], length, get_or, Result, Ok, Err}
use Rattle.std.specs.Borrow.{Bor}
use Rattle.text.specs.Outcome.{OneAnswer, OneOutcome, OnePart}
use Rattle.text.specs.Part.{Part}
use Rattle.text.specs.Over.{Writes}
use Rattle.text.specs.declared.copy.NoRoom.{NoRoom}
use Rattle.pieces.specs.Pieces.{joined}
use Rattle.text.specs.declared.range.Range.{Range}
use Rattle.entries.specs.Paper.{ends_paper, entry_paper}
use Rattle.entries.specs.Inner.{ends_answer, entry_answer, entry_range, JoinsList}
use Rattle.entries.specs.Entries.{rising, entry_list}
use Rattle.entries.specs.declared.list.Entries.{Entries}
use Rattle.entries.specs.declared.entries.WrongEnds.{WrongEnds}
use Rattle.entries.specs.declared.entries.NoEntry.{NoEntry}

abbrev pub JudgesEnds : List ℕ → List ℕ → Result Unit WrongEnds → Type 0
JudgesEnds t ends r = ends_paper r ≡ ends_answer t ends

abbrev pub FindsEntry : List ℕ → List ℕ → ℕ → Result Range NoEntry → Type 0
FindsEntry t ends i r = entry_paper r ≡ entry_answer t ends i

-- entry i, as a part of the text
abbrev pub ShowsEntry : Bor (List ℕ) → List ℕ → ℕ → Bor (List ℕ) → Type 0
ShowsEntry text ends i r = Part text (entry_range text.now ends i) r

-- where the ends rise, the list has this text and these ends
abbrev pub MakesList : Bor (List ℕ) → Bor (List ℕ) → Result Entries WrongEnds → Type 0
MakesList text ends (Ok list) = (list.text ≡ text) × (list.ends ≡ ends)
MakesList text ends (Err e) = rising 0 ends.now (length text.now) ≡ false

-- its entries
abbrev pub entries_of : Entries → List (List ℕ)
entries_of list = entry_list list.text.now list.ends.now

-- entry i, as a part of its text; where there are not so many, the empty text
pub record GetsEntry (list : Entries) (i : ℕ) (r : Bor (List ℕ)) : Type 0 where
  pub part : ShowsEntry list.text list.ends.now i r
  pub bytes : r.now ≡ get_or (entries_of list) i []

-- the entries of a list with a separator between each two, where they fit
abbrev pub PutsList : ℕ → Entries → List ℕ → Result ℕ NoRoom → List ℕ → Type 0
PutsList separator list l r l' = Writes (joined separator (entries_of list)) l r l'

pub record Determined : Type 0 where
  pub judge_ends : (t ends : List ℕ) → OneAnswer (JudgesEnds t ends)
  pub entry_at : (t ends : List ℕ) (i : ℕ) → OneAnswer (FindsEntry t ends i)
  pub entry_text : (text : Bor (List ℕ)) (ends : List ℕ) (i : ℕ) → OnePart (ShowsEntry text ends i)
  pub new : (text ends : Bor (List ℕ)) → OneAnswer (MakesList text ends)
  pub get : (list : Entries) (i : ℕ) → OnePart (GetsEntry list i)
  pub put : (separator : ℕ) (list : Entries) (l : List ℕ) → OneOutcome (PutsList separator list l)
  pub put_joined : (separator : ℕ) (t ends l : List ℕ) → OneOutcome (JoinsList separator t ends l)
