-- The promise of each public function of this crate, by its name, and that each determines the outcome. Assumes nothing.
use Rattle.std.specs.Prelude.{ℕ, ◌≡◌, List}
use Rattle.text.specs.Outcome.{OneAnswer}
use Rattle.genotype.specs.Answers.{text_answer, checked_text, ReadsText, ReadsChecked}
use Rattle.genotype.specs.Paper.{Read, read_paper}

abbrev pub Judges : List ℕ → ℕ → Read → Type 0
Judges t room r = read_paper r ≡ text_answer t room

abbrev pub JudgesChecked : List ℕ → List ℕ → ℕ → Read → Type 0
JudgesChecked t alt room r = read_paper r ≡ checked_text t alt room

-- two outcomes over three slices are equal: the answer, and what is left in each slice
abbrev pub OneReading : {X : Type 0} → (X → List ℕ → List ℕ → List ℕ → Type 0) → Type 0
OneReading {X} allows = (r r' : X) (n n' m m' p p' : List ℕ) → allows r n m p → allows r' n' m' p' → (r ≡ r') × (n ≡ n') × (m ≡ m') × (p ≡ p')

pub record Determined : Type 0 where
  pub judge : (t : List ℕ) (room : ℕ) → OneAnswer (Judges t room)
  pub judge_checked : (t alt : List ℕ) (room : ℕ) → OneAnswer (JudgesChecked t alt room)
  pub read_genotype : (t n m p : List ℕ) → OneReading (ReadsText t n m p)
  pub read_checked : (t alt n m p : List ℕ) → OneReading (ReadsChecked t alt n m p)
