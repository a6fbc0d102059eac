-- What the writer answers, and what it leaves in the output: by the definitions of `spelling` (docs/RULES.md, "Genotypes").
-- Assumes nothing.
use Rattle.std.specs.Prelude.{ℕ, ◌≡◌, List, Result}
use Rattle.allele.specs.declared.allele.Allele.{Allele}
use Rattle.spelling.specs.Permitted.{from44}
use Rattle.spelling.specs.Write.{list_answer, list_left}
use Rattle.spelling.specs.Paper.{write_paper}
use Rattle.spelling.specs.Demands.{Fitting}
use Rattle.spelling.specs.declared.write.WriteError.{WriteError}

-- only an answer that is done changes the output; a record's number has at most 64 bits, so what is written reads back
pub record WritesAlleles (as' : List Allele) (major minor : ℕ) (out : List ℕ) (at : ℕ) (r : Result ℕ WriteError) (out' : List ℕ) : Type 0 where
  pub answer : write_paper r ≡ list_answer as' (from44 major minor) out at
  pub bytes : out' ≡ list_left as' (from44 major minor) out at
  pub small : Fitting as'
