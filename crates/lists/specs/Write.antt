-- What a writer of filters or ALT entries answers, and what it leaves in the output (docs/RULES.md, "Filters and ALT").
-- Assumes nothing.
use Rattle.std.specs.Prelude.{ℕ, ◌+◌, ◌≡◌, List, [], ◌∷◌, drop, eqb, Result}
use Rattle.text.specs.Pick.{pick}
use Rattle.text.specs.Answer.{Answer, number_of}
use Rattle.text.specs.Over.{laid_at}
use Rattle.text.specs.Place.{placed}
use Rattle.text.specs.Verdict.{Verdict, fine, refused, fitted}
use Rattle.pieces.specs.Pieces.{joined}
use Rattle.entries.specs.Entries.{entry_list, ordered}
use Rattle.lists.specs.Kind.{separator_of}
use Rattle.lists.specs.Judge.{entry_answer}
use Rattle.lists.specs.Paper.{write_paper}
use Rattle.lists.specs.declared.write.Kind.{Kind}
use Rattle.lists.specs.declared.write.WriteError.{WriteError}

-- ---- the text

-- `.` for none, else the entries with separators between
unfoldable pub list_text : Kind → List (List ℕ) → List ℕ
list_text kind [] = 46 ∷ []
list_text kind (e ∷ es) = joined (separator_of kind) (e ∷ es)

-- ---- the answer

-- what is found of the entries, the first of which has index i
unfoldable pub entries_judged : Kind → ℕ → List (List ℕ) → Verdict
entries_judged kind i [] = fine
entries_judged kind i (e ∷ es) = pick (eqb (number_of (entry_answer kind e)) 0) (entries_judged kind (i + 1) es) (refused (number_of (entry_answer kind e)) i)

-- room last
unfoldable pub entries_answer : Kind → List (List ℕ) → List ℕ → Answer
unfolding entries_judged
entries_answer kind es l = fitted (entries_judged kind 0 es) (list_text kind es) l

-- 16 before
unfoldable pub list_answer : Kind → List ℕ → List ℕ → List ℕ → Answer
list_answer kind t ends l = ordered t ends (entries_answer kind (entry_list t ends) l)

-- 6 first
unfoldable pub write_answer : Kind → List ℕ → List ℕ → List ℕ → ℕ → Answer
write_answer kind t ends out at = placed at out (list_answer kind t ends (drop at out))

-- ---- the output: only an answer that is done changes it

abbrev pub list_left : Kind → List ℕ → List ℕ → List ℕ → ℕ → List ℕ
list_left kind t ends out at = laid_at (write_answer kind t ends out at) at (list_text kind (entry_list t ends)) out

pub record WritesListAt (kind : Kind) (t ends out : List ℕ) (at : ℕ) (r : Result ℕ WriteError) (out' : List ℕ) : Type 0 where
  pub answer : write_paper kind r ≡ write_answer kind t ends out at
  pub bytes : out' ≡ list_left kind t ends out at
