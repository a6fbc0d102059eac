-- The promise of each public function of this crate, by its name, and that each determines the outcome. Assumes nothing.
use Rattle.std.specs.Prelude.{ℕ, ◌≡◌, List, length, Option, Result}
use Rattle.text.specs.Outcome.{OneAnswer}
use Rattle.pieces.specs.Paper.{step_paper, nth_paper}
use Rattle.text.specs.declared.range.Range.{Range}
use Rattle.pieces.specs.declared.step.Piece.{Piece}
use Rattle.pieces.specs.declared.step.NoPiece.{NoPiece}
use Rattle.samples.specs.Samples.{samples_of, sample_step, sample_answer, subfield_answer}
use Rattle.samples.specs.Keys.{key_answer}
use Rattle.samples.specs.Paper.{key_paper}

abbrev pub CountsSamples : List ℕ → ℕ → Type 0
CountsSamples t r = r ≡ length (samples_of t)

abbrev pub VisitsSample : List ℕ → ℕ → Result Piece NoPiece → Type 0
VisitsSample t at r = step_paper r ≡ sample_step t at

abbrev pub GivesSample : List ℕ → ℕ → Option Range → Type 0
GivesSample t n r = nth_paper r ≡ sample_answer t n

abbrev pub GivesSubfield : List ℕ → ℕ → Option Range → Type 0
GivesSubfield sample n r = nth_paper r ≡ subfield_answer sample n

abbrev pub FindsKey : List ℕ → List ℕ → Option ℕ → Type 0
FindsKey format key r = key_paper r ≡ key_answer format key

pub record Determined : Type 0 where
  pub count : (t : List ℕ) → OneAnswer (CountsSamples t)
  pub sample_at : (t : List ℕ) (at : ℕ) → OneAnswer (VisitsSample t at)
  pub sample : (t : List ℕ) (n : ℕ) → OneAnswer (GivesSample t n)
  pub subfield : (sample : List ℕ) (n : ℕ) → OneAnswer (GivesSubfield sample n)
  pub key_index : (format key : List ℕ) → OneAnswer (FindsKey format key)
