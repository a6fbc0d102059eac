-- The scan of a column, the walk over samples and the lines of an input end: each step moves on, and stays within the text. Assumes nothing.
use Prim.Native.Nat.{ℕ, ◌-◌, ◌<◌, ◌≤◌}
use mathlib.Core.Path.{◌≡◌}
use mathlib.Core.List.{List}
use native.Mathlib.Omega.{arith}
use lib.ListN.{length}
use Rattle.std.specs.Prelude.{Result, Ok}
use Rattle.text.specs.declared.range.Range.{Range}
use Rattle.pieces.specs.Pieces.{step_answer as piece_answer}
use Rattle.pieces.specs.Paper.{step_paper as piece_paper}
use Rattle.pieces.specs.declared.step.NoPiece.{NoPiece}
use Rattle.pieces.specs.declared.step.Piece.{Piece}
use Rattle.pieces.specs.declared.step.Piece.TheVariants.{More}
use Rattle.pieces.proofs.StepLaws.{step_tells}
use Rattle.samples.specs.Samples.{sample_step}
use Rattle.samples.proofs.SampleLaws.{sample_tells}
use Rattle.info.specs.Info.{step_answer}
use Rattle.info.specs.Paper.{step_paper}
use Rattle.info.specs.Told.{Tells}
use Rattle.info.specs.declared.step.Entry.{Entry}
use Rattle.info.specs.declared.step.NoEntry.{NoEntry}
use Rattle.info.specs.declared.step.Told.{Told}
use Rattle.info.proofs.ToldLaws.{told_on, told_within}

-- ---- the scan

module _ (t : List ℕ) (at : ℕ) (x : Result (Entry × ℕ) NoEntry) (e : step_paper x ≡ step_answer t at) (r : Told) (g : Tells (step_paper x) r) (h : at ≤ length t) (d : r.number ≡ 10 → ⊥) where
  pub scan_less : length t - r.next < length t - at
  scan_less = let f = told_on t at x e r g h d in let w = told_within t at x e r g h d in omega arith

  pub scan_within : r.next ≤ length t
  scan_within = told_within t at x e r g h d

-- ---- the walk

module _ (t : List ℕ) (at : ℕ) (x : Result Piece NoPiece) (e : piece_paper x ≡ sample_step t at) (y : Piece) (q : x ≡ Ok y) {r : Range} {next : ℕ} (p : y ≡ More r next) where
  pub walk_less : length t - next < length t - at
  walk_less = let f = sample_tells t at (Ok (More r next)) (rw p at (rw q at e)) in omega arith

  pub walk_within : next ≤ length t
  walk_within = let f = sample_tells t at (Ok (More r next)) (rw p at (rw q at e)) in omega arith

-- ---- the lines of an input

module _ (b : ℕ) (t : List ℕ) (at : ℕ) (x : Result Piece NoPiece) (e : piece_paper x ≡ piece_answer b t at) (y : Piece) (q : x ≡ Ok y) {r : Range} {next : ℕ} (p : y ≡ More r next) where
  pub line_less : length t - next < length t - at
  line_less = let f = step_tells b t at (Ok (More r next)) (rw p at (rw q at e)) in omega arith

pub ruleset laws = (scan_less, scan_within, walk_less, walk_within, line_less)
