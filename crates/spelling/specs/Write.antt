-- What the writer answers, and what it leaves in the output (docs/RULES.md, "Genotypes"). Assumes nothing.
use Rattle.std.specs.Prelude.{ℕ, ◌<◌, ◌≤◌, ◌≡◌, Bool, List, [], ◌∷◌, length, get_or, drop, Result}
use Rattle.text.specs.Answer.{Answer, says, number_of}
use Rattle.text.specs.Over.{room_answer, laid_at}
use Rattle.text.specs.Place.{placed}
use Rattle.genotype.specs.Answers as G
use Rattle.allele.specs.Row.{row_of}
use Rattle.allele.specs.declared.allele.Allele.{Allele}
use Rattle.spelling.specs.Spelling.{Spelled, text, bad, phasing, empty, spell}
use Rattle.spelling.specs.Permitted.{from44}
use Rattle.spelling.specs.Paper.{write_paper}
use Rattle.spelling.specs.declared.write.WriteError.{WriteError}

-- 11, 12 or 13 where there is no text, else by room
unfoldable pub spelled_answer : Spelled → List ℕ → Answer
spelled_answer (text t) l = room_answer t l
spelled_answer (bad k) l = says 12 (k ∷ [])
spelled_answer phasing l = says 13 []
spelled_answer empty l = says 11 []

unfoldable pub text_of : Spelled → List ℕ
text_of (text t) = t
text_of (bad k) = []
text_of phasing = []
text_of empty = []

-- ---- from a place of an output

-- 6 beyond it
unfoldable pub list_answer : List Allele → Bool → List ℕ → ℕ → Answer
list_answer as' late out at = placed at out (spelled_answer (spell late as') (drop at out))

abbrev pub list_left : List Allele → Bool → List ℕ → ℕ → List ℕ
list_left as' late out at = laid_at (list_answer as' late out at) at (text_of (spell late as')) out

-- 6 first, then 16 where the slices' lengths differ
unfoldable pub row_answer : List ℕ → List ℕ → List ℕ → Bool → List ℕ → ℕ → Answer
row_answer n m p late out at = placed at out (G.row_answer n m p (spelled_answer (spell late (row_of n m p)) (drop at out)))

abbrev pub row_left : List ℕ → List ℕ → List ℕ → Bool → List ℕ → ℕ → List ℕ
row_left n m p late out at = laid_at (row_answer n m p late out at) at (text_of (spell late (row_of n m p))) out

pub record WritesRow (n m p : List ℕ) (major minor : ℕ) (out : List ℕ) (at : ℕ) (r : Result ℕ WriteError) (out' : List ℕ) : Type 0 where
  pub answer : write_paper r ≡ row_answer n m p (from44 major minor) out at
  pub bytes : out' ≡ row_left n m p (from44 major minor) out at

-- each number has at most 64 bits
pub record Small (n : List ℕ) : Type 0 where
  pub each : (i : ℕ) → i < length n → get_or n i 0 ≤ 18446744073709551615

-- the numbers of a list that is written have at most 64 bits: so what is written reads back with nothing asked of the caller
pub record SmallWhereDone (n : List ℕ) (r : Result ℕ WriteError) : Type 0 where
  pub small : number_of (write_paper r) ≡ 0 → Small n
