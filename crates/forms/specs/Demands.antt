-- What is asked of the two forms of a line's record and of the ways between them (docs/RULES.md, "Two forms of a record";
-- docs/STATEMENTS.md). Assumes nothing.
use Rattle.std.specs.Prelude.{ℕ, ◌<◌, ◌≡◌, true, ◌↔◌, List, [], ◌∷◌, length, get_or, Ok, Err}
use Rattle.std.specs.Borrow.{u8}
use denote.Slice.{Room}
use Rattle.text.specs.Answer.{Answer, says}
use Rattle.record.specs.Ending.{Ending, ending_number}
use Rattle.record.specs.Place.{numbers_of, range_of}
use Rattle.record.specs.Paper.{ending_of, record_places, record_numbers}
use Rattle.record.specs.declared.place.Record.{Record}
use Rattle.record.specs.declared.place.Name.{Name}
use Rattle.line.specs.Promises.{ReadsLine, KeepsNumbers}
use Rattle.line.specs.Demands as Line
use Rattle.line.specs.Demands.{Reader}
use Rattle.forms.specs.Form.{made}
use Rattle.forms.specs.Paper.{wide_range, wide_places}
use Rattle.forms.specs.Promises.{WidensRecord, NarrowsWide}
use Rattle.forms.specs.declared.wide.Wide.{Wide}
use Rattle.forms.specs.declared.turn.NotMade.{NotMade}

-- ---- the forms that can be made

-- bytes, and no more than the language lets a slice of bytes have
pub record Input (s : List ℕ) : Type 0 where
  pub bytes : (i : ℕ) → i < length s → get_or s i 0 < 256
  pub room : Room u8 (length s)

-- there is an input, and a place in it, where a line reader answers this ending and these places
pub record Makes (read : Reader) (e : Ending) (places : List ℕ) : Type 0 where
  pub input : List ℕ
  pub at : ℕ
  pub next : ℕ
  pub is_input : Input input
  pub answers : read input at ≡ says 0 (next ∷ ending_number e ∷ places)

-- so it is of exactly the forms that the rules let be made, whatever line reader it is
unfoldable pub Made : Type 0
Made = (read : Reader) → Line.Meets read → (e : Ending) (places : List ℕ) → (made e places ≡ true) ↔ Makes read e places

-- ---- from the new form to the old one

-- the record has the numbers of these places, which can be made
pub record FormOf (read : Reader) (r : Record) (places : List ℕ) : Type 0 where
  pub makes : Makes read (ending_of r.ending) places
  pub numbers : record_numbers r ≡ numbers_of places

-- then it is answered these, with its ending; 32 where there are none
pub record Widens (read : Reader) (widen : Record → Answer) : Type 0 where
  pub made : (r : Record) (places : List ℕ) → FormOf read r places → widen r ≡ says 0 (ending_number (ending_of r.ending) ∷ places)
  pub other : (r : Record) → ((places : List ℕ) → FormOf read r places → ⊥) → widen r ≡ says 32 []

-- two that do so give one answer to every record
unfoldable pub OneWidener : Type 0
OneWidener = (read : Reader) → Line.Meets read → (widen other : Record → Answer) → Widens read widen → Widens read other → (r : Record) → widen r ≡ other r

-- ---- from the old form to the new one

-- a form that can be made is answered the numbers of its places, with its ending; any other 32
pub record Narrows (read : Reader) (narrow : Wide → Answer) : Type 0 where
  pub made : (w : Wide) → Makes read (ending_of w.ending) (wide_places w) → narrow w ≡ says 0 (ending_number (ending_of w.ending) ∷ numbers_of (wide_places w))
  pub other : (w : Wide) → (Makes read (ending_of w.ending) (wide_places w) → ⊥) → narrow w ≡ says 32 []

unfoldable pub OneNarrower : Type 0
OneNarrower = (read : Reader) → Line.Meets read → (narrow other : Wide → Answer) → Narrows read narrow → Narrows read other → (w : Wide) → narrow w ≡ other w

-- ---- both

-- a record is widened to a form exactly where the form is narrowed to it
unfoldable pub BackAndForth : Type 0
BackAndForth = (r : Record) (w : Wide) → WidensRecord r (Ok w) ↔ NarrowsWide w (Ok r)

-- and the two answer each question alike: how the line ended, and where each field stands
pub record Alike (r : Record) (w : Wide) : Type 0 where
  pub ending : w.ending ≡ r.ending
  pub fields : (n : Name) → wide_range w n ≡ range_of r n

unfoldable pub AlikeForms : Type 0
AlikeForms = (r : Record) (w : Wide) → WidensRecord r (Ok w) → Alike r w

-- ---- records that were read

-- there is an input, and a place in it, where the line reader may answer this record
pub record Answerable (r : Record) : Type 0 where
  pub input : List ℕ
  pub at : ℕ
  pub next : ℕ
  pub is_input : Input input
  pub reads : ReadsLine input at (Ok (r, next))
  pub keeps : KeepsNumbers (Ok (r, next))

-- so it is of exactly the records that can be made
unfoldable pub MadeRecords : Type 0
MadeRecords = (r : Record) → (made (ending_of r.ending) (record_places r) ≡ true) ↔ Answerable r

-- what the line reader made of an input is widened
unfoldable pub ReadIsMade : Type 0
ReadIsMade = (s : List ℕ) (at next : ℕ) (r : Record) (e : NotMade) → Room u8 (length s) → ReadsLine s at (Ok (r, next)) → WidensRecord r (Err e) → ⊥
