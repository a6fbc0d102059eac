-- The promise of each public function of this crate, by its name, and that each determines the outcome. Assumes nothing.
use Rattle.std.specs.Prelude.{ℕ, ◌+◌, ◌≡◌, List, length, drop}
use Rattle.text.specs.Outcome.{OneAnswer}
use Rattle.pieces.specs.Paper.{step_paper, nth_paper}
use Rattle.pieces.specs.Pieces.{pieces, count_of, step_answer}
use Rattle.pieces.specs.Nth.{nth_answer}
use Rattle.pieces.specs.Inner.{near_end, quiet_length}
use Rattle.std.specs.Prelude.{Result, Option}
use Rattle.text.specs.declared.range.Range.{Range}
use Rattle.pieces.specs.declared.step.Piece.{Piece}
use Rattle.pieces.specs.declared.step.NoPiece.{NoPiece}

abbrev pub CountsByte : ℕ → List ℕ → ℕ → Type 0
CountsByte b s r = r ≡ count_of b s

abbrev pub CountsPieces : ℕ → List ℕ → ℕ → Type 0
CountsPieces separator s r = r ≡ length (pieces separator s)

abbrev pub EndsNear : ℕ → ℕ → ℕ → Type 0
EndsNear from len r = r ≡ near_end from len

abbrev pub FindsEither : ℕ → ℕ → List ℕ → ℕ → ℕ → Type 0
FindsEither a b s from r = r ≡ from + quiet_length a b (drop from s)

abbrev pub FindsPiece : ℕ → List ℕ → ℕ → Result Piece NoPiece → Type 0
FindsPiece separator s at r = step_paper r ≡ step_answer separator s at

abbrev pub FindsNth : ℕ → List ℕ → ℕ → Option Range → Type 0
FindsNth separator s n r = nth_paper r ≡ nth_answer separator s n

pub record Determined : Type 0 where
  pub count_byte : (b : ℕ) (s : List ℕ) → OneAnswer (CountsByte b s)
  pub count_pieces : (separator : ℕ) (s : List ℕ) → OneAnswer (CountsPieces separator s)
  pub near_end : (from len : ℕ) → OneAnswer (EndsNear from len)
  pub find_either : (a b : ℕ) (s : List ℕ) (from : ℕ) → OneAnswer (FindsEither a b s from)
  pub piece_at : (separator : ℕ) (s : List ℕ) (at : ℕ) → OneAnswer (FindsPiece separator s at)
  pub piece_nth : (separator : ℕ) (s : List ℕ) (n : ℕ) → OneAnswer (FindsNth separator s n)
