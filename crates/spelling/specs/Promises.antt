-- The promise of each public function of this crate, by its name, and that each determines the outcome. Assumes nothing.
use Rattle.std.specs.Prelude.{ℕ, ◌≡◌, Bool, List, length, drop, Result}
use Rattle.text.specs.Outcome.{OneAnswer, OneOutcome}
use Rattle.allele.specs.declared.allele.Allele.{Allele}
use Rattle.allele.specs.Row.{is_sound}
use Rattle.std.specs.Borrow.{Bor}
use Rattle.spelling.specs.Permitted.{from44}
use Rattle.spelling.specs.Row.{list_of, MakesRow, first_of}
use Rattle.spelling.specs.declared.row.Row.{Row}
use Rattle.spelling.specs.Inner.{begun, tallied, plan_of, size_of, step_text, PutsAt}
use Rattle.spelling.specs.Write.{WritesRow}
use Rattle.spelling.specs.declared.tally.Tally.{Tally}
use Rattle.spelling.specs.declared.tally.Plan.{Plan}
use Rattle.spelling.specs.declared.write.WriteError.{WriteError}

abbrev pub Counts : Row → ℕ → Type 0
Counts row r = r ≡ length (list_of row)

abbrev pub GivesAt : Row → ℕ → Allele → Type 0
GivesAt row k r = r ≡ first_of (drop k (list_of row))

abbrev pub TellsSound : Allele → Bool → Type 0
TellsSound a r = r ≡ is_sound a

abbrev pub Begins : ℕ → Tally → Type 0
Begins room r = r ≡ begun room

abbrev pub Adds : Tally → Allele → ℕ → Tally → Type 0
Adds t a k r = r ≡ tallied t a k

abbrev pub Plans : Tally → ℕ → ℕ → ℕ → Result Plan WriteError → Type 0
Plans t count major minor r = r ≡ plan_of t count (from44 major minor)

abbrev pub Sizes : Plan → ℕ → Type 0
Sizes plan r = r ≡ size_of plan

abbrev pub PutsOne : Allele → Result Plan WriteError → ℕ → List ℕ → ℕ → ℕ → List ℕ → Type 0
PutsOne a plan k l at r l' = PutsAt (step_text plan k a) at l r l'

pub record Determined : Type 0 where
  pub new_row : (n m p : Bor (List ℕ)) → OneAnswer (MakesRow n m p)
  pub len : (row : Row) → OneAnswer (Counts row)
  pub at : (row : Row) (k : ℕ) → OneAnswer (GivesAt row k)
  pub is_sound : (a : Allele) → OneAnswer (TellsSound a)
  pub new_tally : (room : ℕ) → OneAnswer (Begins room)
  pub add : (t : Tally) (a : Allele) (k : ℕ) → OneAnswer (Adds t a k)
  pub plan : (t : Tally) (count major minor : ℕ) → OneAnswer (Plans t count major minor)
  pub size : (plan : Plan) → OneAnswer (Sizes plan)
  pub put_one : (a : Allele) (plan : Result Plan WriteError) (k : ℕ) (l : List ℕ) (at : ℕ) → OneOutcome (PutsOne a plan k l at)
  pub write_genotype : (n m p : List ℕ) (major minor : ℕ) (out : List ℕ) (at : ℕ) → OneOutcome (WritesRow n m p major minor out at)
