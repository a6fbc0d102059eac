-- What the private functions of this crate promise each other. Assumes nothing.
use Rattle.std.specs.Prelude.{ℕ, ◌≡◌, List, Result, Ok, Err}
use Rattle.text.specs.Over.{room_answer, laid, room_left}
use Rattle.text.specs.Verdict.{fine, fitted}
use Rattle.entries.specs.Entries.{entry_list}
use Rattle.entries.specs.declared.joined.JoinError.{JoinError}
use Rattle.entries.specs.declared.joined.JoinError.TheVariants as P
use Rattle.lists.specs.Paper.{write_paper}
use Rattle.lists.specs.Write.{list_text, list_answer, entries_judged}
use Rattle.lists.specs.declared.write.Kind.{Kind}
use Rattle.lists.specs.declared.write.Fault.{Fault}
use Rattle.lists.specs.declared.write.Fault.TheVariants as F
use Rattle.lists.specs.declared.write.WriteError.{WriteError}
use Rattle.lists.specs.declared.write.WriteError.TheVariants as W

-- the refusal of a list for a fault of its entry with index i
abbrev pub error_at : Fault → ℕ → WriteError
error_at F.NotUtf8 i = W.NotUtf8 i
error_at F.Invalid i = W.Invalid i

-- and for what the joiner refuses
abbrev pub error_of : JoinError → WriteError
error_of P.Wrong = W.Wrong
error_of P.Short = W.Short

-- the entries are fine, or the first that is not refuses the list, whatever would be written
abbrev pub JudgesList : Kind → List (List ℕ) → Result Unit WriteError → Type 0
JudgesList kind es (Ok u) = entries_judged kind 0 es ≡ fine
JudgesList kind es (Err e) = (vs l : List ℕ) → write_paper kind (Err e) ≡ fitted (entries_judged kind 0 es) vs l

-- entries that may be written are, at the start of the output
pub record PutsList (kind : Kind) (es : List (List ℕ)) (l : List ℕ) (r : Result ℕ WriteError) (l' : List ℕ) : Type 0 where
  pub answer : write_paper kind r ≡ room_answer (list_text kind es) l
  pub bytes : l' ≡ room_left (list_text kind es) l

-- any list is judged, and then written there
pub record WritesList (kind : Kind) (t ends l : List ℕ) (r : Result ℕ WriteError) (l' : List ℕ) : Type 0 where
  pub answer : write_paper kind r ≡ list_answer kind t ends l
  pub bytes : l' ≡ laid (list_answer kind t ends l) (list_text kind (entry_list t ends)) l
