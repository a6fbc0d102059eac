-- The columns that begin a line are those that its record was made of, so each field reads as its own; that leaves one answer. Assumes nothing.
use Prim.Native.Nat.{ℕ}
use mathlib.Core.Path.{◌≡◌, refl, sym, ◌∙◌}
use mathlib.Core.List.{List, [], ◌∷◌}
use lib.ListN.{length}
use Rattle.text.specs.Pick.{pick}
use Rattle.text.specs.Answer.{Answer, says, number_of}
use Rattle.text.specs.Range.{range_at}
use Rattle.text.specs.Same.{same}
use Rattle.text.proofs.SameLaws.{same_self, same_not}
use Rattle.record.specs.declared.place.Record.{Record}
use Rattle.record.specs.declared.place.Name.{Name}
use Rattle.std.specs.Prelude.{Ok}
use Rattle.line.specs.Promises.{ReadsLine}
use Rattle.line.proofs.CaseLaws.{read_record}
use Rattle.line.proofs.RecordLaws.{Recorded, recorded}
use Rattle.fields.specs.Fields.{dot_of, dot_places, field_answer}
use Rattle.fields.specs.Demands.{ReadsAs, other, dot_itself, dot_empty, dot_absent, Made, Finds, FieldFinds, OneFinder}
use Rattle.fields.proofs.RecordLaws.{field_reads}

pub read_recorded : (s : List ℕ) (at next : ℕ) (r : Record) → ReadsLine s at (Ok (r, next)) → Recorded s at r
read_recorded s at next r m = recorded s at (sym m ∙ read_record refl)

pub finds : Finds field_answer
unfolding Finds
finds s at r cs m n =
    let g = read_recorded s at m.next r m.read in
    rw (g.only cs m.ending m.rest m.begin) (field_reads g n)

pub field_finds : FieldFinds
unfolding FieldFinds Finds
field_finds s at r cs m n x h = rw h (finds s at r cs m n)

-- ---- a field reads as one answer, which is never 6

pub reads_number : {n : Name} {start : ℕ} {c : List ℕ} {a : Answer} → ReadsAs n start c a → number_of a ≡ 0
reads_number (other h) = refl
reads_number (dot_itself d q) = refl
reads_number (dot_empty d q) = refl
reads_number (dot_absent d q) = refl

reads_is : {n : Name} {start : ℕ} {c : List ℕ} {a : Answer} → ReadsAs n start c a
    → a ≡ pick (same c (46 ∷ [])) (says 0 (dot_places (dot_of n) (range_at start 1))) (says 0 (start ∷ length c ∷ []))
reads_is {c = c} (other h) = rw (same_not c (46 ∷ []) h)
reads_is (dot_itself d q) = rw (d, same_self (46 ∷ []), q)
reads_is (dot_empty d q) = rw (d, same_self (46 ∷ []), q)
reads_is (dot_absent d q) = rw (d, same_self (46 ∷ []), q)

pub one_finder : OneFinder
unfolding OneFinder Finds
one_finder find found f k s at next r e n =
    let g = read_recorded s at next r e in
    let m : Made s at r g.columns = record { next = next; read = e; ending = g.ending; rest = g.rest; begin = g.begin } in
    reads_is (f s at r g.columns m n) ∙ sym (reads_is (k s at r g.columns m n))
