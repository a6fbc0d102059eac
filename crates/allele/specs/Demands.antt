-- What is asked of any reading of a genotype text, and of any step, as functions on lists (docs/RULES.md, "Genotypes";
-- docs/STATEMENTS.md). Assumes nothing.
use Rattle.std.specs.Prelude.{ℕ, ◌+◌, ◌<◌, ◌≡◌, ◌↔◌, List, [], ◌∷◌, length, drop}
use Rattle.text.specs.Answer.{Answer, says}
use Rattle.allele.specs.Reading.{Reading, list, bad, found_answer}
use Rattle.allele.specs.Means.{Means, Begins, Broken}
use Rattle.allele.specs.declared.allele.Allele.{Allele}

-- ---- what texts mean

-- a text reads as a list exactly when it means that list
abbrev pub ReadsMeans : (List ℕ → Reading) → Type 0
ReadsMeans reading = (t : List ℕ) (as' : List Allele) → (reading t ≡ list as') ↔ Means t as'

-- and as bad at k, with its fault at o, exactly when the piece with index k is the first that is no allele, and o is the place of
-- its fault
abbrev pub ReadsBroken : (List ℕ → Reading) → (List ℕ → ℕ → ℕ) → Type 0
ReadsBroken reading fault = (t : List ℕ) (k o : ℕ) → ((reading t ≡ bad k) × (fault t k ≡ o)) ↔ Broken t k o

-- it means one list at most
abbrev pub MeansOne : Type 0
MeansOne = (t : List ℕ) (as' bs : List Allele) → Means t as' → Means t bs → as' ≡ bs

-- a text that is not empty means a list, or has a first piece that is no allele, and never both
pub record MeansOrBroken : Type 0 where
  pub either : (t : List ℕ) → (t ≡ [] → ⊥) → ((as' : List Allele) → Means t as' → ⊥) → ((k o : ℕ) → Broken t k o → ⊥) → ⊥
  pub never_both : (t : List ℕ) (as' : List Allele) (k o : ℕ) → Means t as' → Broken t k o → ⊥

-- ---- steps

-- a stepper is given a text and a place, and answers on paper
abbrev pub Stepper : Type 0
Stepper = List ℕ → ℕ → Answer

-- steps from a place on give these alleles, one after the other, and then 10
pub data Walk (step : Stepper) (t : List ℕ) : ℕ → List Allele → Type 0 where
  end : {at : ℕ} → step t at ≡ says 10 [] → Walk step t at []
  next : {at to : ℕ} {a : Allele} {as' : List Allele} → step t at ≡ found_answer to a → at < to → Walk step t to as' → Walk step t at (a ∷ as')

-- k steps from a place on give an allele, and then comes 12, with the place o
pub data Breaks (step : Stepper) (t : List ℕ) (o : ℕ) : ℕ → ℕ → Type 0 where
  stop : {at : ℕ} → step t at ≡ says 12 (o ∷ []) → Breaks step t o at 0
  past : {at to k : ℕ} (a : Allele) → step t at ≡ found_answer to a → at < to → Breaks step t o to k → Breaks step t o at (k + 1)

-- from place 0 the steps give the alleles of the list that the text means, each once and in order, and then 10; a text that means
-- none is refused at its first piece that is no allele, with the place of its fault, and the empty text at once
pub record Visits (step : Stepper) : Type 0 where
  pub means : (t : List ℕ) (as' : List Allele) → Means t as' ↔ Walk step t 0 as'
  pub broken : (t : List ℕ) (k o : ℕ) → Broken t k o ↔ Breaks step t o 0 k
  pub empty : step [] 0 ≡ says 11 []

-- what each number says of the text from the place on; the place of a fault is counted from the text's start
pub record StepsAt (t : List ℕ) (at : ℕ) (s : Answer) : Type 0 where
  pub found : (a : Allele) (n : ℕ) → (s ≡ found_answer (at + n) a) ↔ Begins (drop at t) a n
  pub beyond : (s ≡ says 6 []) ↔ (length t < at)
  pub ended : (s ≡ says 10 []) ↔ ((0 < length t) × (at ≡ length t))
  pub empty : (s ≡ says 11 []) ↔ ((length t ≡ 0) × (at ≡ 0))
  pub bad : (o : ℕ) → (s ≡ says 12 ((at + o) ∷ [])) ↔ Broken (drop at t) 0 o

unfoldable pub Steps : Stepper → Type 0
Steps step = (t : List ℕ) (at : ℕ) → StepsAt t at (step t at)

-- two steppers that meet this give one answer from every place of every text
unfoldable pub OneStepper : Type 0
OneStepper = (step other : Stepper) → Steps step → Steps other → (t : List ℕ) (at : ℕ) → step t at ≡ other t at
