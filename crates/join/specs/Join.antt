-- Joining columns to a line (docs/RULES.md, "Joining"). Assumes nothing.
use Rattle.std.specs.Prelude.{ℕ, ◌+◌, ◌≡◌, Bool, false, not, ◌||◌, List, [], ◌∷◌, ◌++◌, length, drop, Result}
use Rattle.text.specs.Pick.{pick}
use Rattle.text.specs.Answer.{Answer, says}
use Rattle.text.specs.Over.{laid_at}
use Rattle.text.specs.Bytes.{is_empty, ends_in}
use Rattle.text.specs.Utf8.{is_utf8}
use Rattle.text.specs.Place.{placed}
use Rattle.text.specs.Verdict.{Verdict, fine, refused, fitted}
use Rattle.record.specs.Ending.{Ending, nothing, feed, return_feed, ending_bytes}
use Rattle.line.specs.Line.{required}
use Rattle.pieces.specs.Pieces.{joined, lacks}
use Rattle.entries.specs.Entries.{entry_list, ordered}
use Rattle.join.specs.Paper.{joined_paper}
use Rattle.join.specs.declared.columns.JoinError.{JoinError}

-- ---- the columns

-- a column that is empty, or holds a tab or an LF
unfoldable pub is_bad : List ℕ → Bool
is_bad c = is_empty c || (not (lacks 9 c) || not (lacks 10 c))

-- a last column that ends in CR would lose it to the ending LF; the other endings leave it
unfoldable pub loses_return : Ending → List ℕ → Bool
loses_return nothing c = false
loses_return feed c = ends_in 13 c
loses_return return_feed c = false

-- what is found of the columns, the first of which has index i: each by 18, then 5, with its index
unfoldable pub column_judged : ℕ → Bool → List ℕ → Verdict → Verdict
column_judged i bad c next = pick bad (refused 18 i) (pick (is_utf8 c) next (refused 5 i))

unfoldable pub columns_judged : ℕ → List (List ℕ) → Ending → Verdict
columns_judged i [] e = fine
columns_judged i (c ∷ []) e = column_judged i (is_bad c || loses_return e c) c fine
columns_judged i (c ∷ d ∷ cs) e = column_judged i (is_bad c) c (columns_judged (i + 1) (d ∷ cs) e)

-- ---- the answer, and what is left in the output

-- the columns joined by tabs, and the ending
unfoldable pub line_text : List (List ℕ) → Ending → List ℕ
line_text cs e = joined 9 cs ++ ending_bytes e

-- 19 where the last column must be ended by a tab: fewer than eight, or nine; then the columns, then room
unfoldable pub columns_answer : List (List ℕ) → Ending → List ℕ → Answer
columns_answer cs e l = pick (required (length cs)) (says 19 []) (fitted (columns_judged 0 cs e) (line_text cs e) l)

-- 16 before these
unfoldable pub list_answer : List ℕ → List ℕ → Ending → List ℕ → Answer
list_answer t ends e l = ordered t ends (columns_answer (entry_list t ends) e l)

-- 6 first
unfoldable pub join_answer : List ℕ → List ℕ → Ending → ℕ → List ℕ → Answer
join_answer t ends e at out = placed at out (list_answer t ends e (drop at out))

-- only an answer that is done changes the output
abbrev pub line_left : List ℕ → List ℕ → Ending → ℕ → List ℕ → List ℕ
line_left t ends e at out = laid_at (join_answer t ends e at out) at (line_text (entry_list t ends) e) out

-- the joiner answers r, and leaves out' in an output that held out
pub record JoinsAt (t ends : List ℕ) (e : Ending) (at : ℕ) (out : List ℕ) (r : Result ℕ JoinError) (out' : List ℕ) : Type 0 where
  pub answer : joined_paper r ≡ join_answer t ends e at out
  pub bytes : out' ≡ line_left t ends e at out
