-- Definition by definition: each outcome of a turn is one that is asked for, by the sizes of lines and the line reader's next place.
-- Assumes nothing.
use Prim.Native.Nat.{ℕ, ◌+◌, ◌<◌, ◌≤◌}
use mathlib.Core.Path.{◌≡◌, refl, ap}
use mathlib.Core.Bool.{Bool, true, false}
use mathlib.Core.Logic.{◌⊎◌, inl, inr}
use mathlib.Core.List.{List, [], ◌∷◌}
use native.Mathlib.Omega.{arith}
use lib.ListN.{length, drop, length-drop}
use lib.Dec.{ltb, eqb}
use borrow.Author.Tests.{ltb-true, ltb-false, le-ltb, eqb-true, eqb-false}
use Rattle.text.specs.Pick.{pick}
use Rattle.text.specs.Answer.{Answer, says, number_of, next_of}
use Rattle.line.specs.Line.{line_of, read_answer}
use Rattle.listing.specs.Output.{row_bytes}
use Rattle.listing.specs.Listing.{size_of, longest, row_of, begins_hash}
use Rattle.listing.specs.Turn.{Move, beyond, more, ended, on, gives, is_whole, pass_move, lead_move, read_move, line_move, phase_move, turn_move}
use Rattle.listing.specs.Demands.{longest_row, rank, Further, Turned, Turns}
use Rattle.listing.specs.declared.turn.Phase.{Phase}
use Rattle.listing.specs.declared.turn.Phase.TheVariants as P
use Rattle.listing.proofs.LineLaws.{past_line, size_within, size_some, open_end}
use Rattle.listing.proofs.FoundLaws.{read_small, read_next}
use Rattle.listing.proofs.RowSizes.{refused_few, row_few}

-- ---- the outcomes

data Outcome (last : Bool) (phase : Phase) (w : List ℕ) (p : ℕ) : Move → Type 0 where
  asking : last ≡ false → length w ≤ p + longest → Outcome last phase w p more
  ending : Outcome last phase w p ended
  passing : {then : Phase} {next : ℕ} → Further w phase p then next → Outcome last phase w p (on then next)
  printing : {r : Answer} {then : Phase} {next : ℕ} → p < next → next ≤ length w → length (row_bytes r) ≤ longest_row → Outcome last phase w p (gives r then next)

module _ {last : Bool} {phase : Phase} {w : List ℕ} {p : ℕ} where
  not_beyond : {m : Move} → Outcome last phase w p m → m ≡ beyond → ⊥
  not_beyond (asking a b) e = let z : ◌≡◌ {A = ℕ} 0 1 = cc in omega arith
  not_beyond ending e = let z : ◌≡◌ {A = ℕ} 0 1 = cc in omega arith
  not_beyond (passing f) e = let z : ◌≡◌ {A = ℕ} 0 1 = cc in omega arith
  not_beyond (printing a b c) e = let z : ◌≡◌ {A = ℕ} 0 1 = cc in omega arith

  asked : Outcome last phase w p more → (last ≡ false) × (length w ≤ p + longest)
  asked (asking a b) = (a, b)

  passed : {then : Phase} {next : ℕ} → Outcome last phase w p (on then next) → Further w phase p then next
  passed (passing f) = f

  printed : {r : Answer} {then : Phase} {next : ℕ} → Outcome last phase w p (gives r then next) → (p < next) × (next ≤ length w)
  printed (printing a b c) = (a, b)

  shortened : {r : Answer} {then : Phase} {next : ℕ} → Outcome last phase w p (gives r then next) → length (row_bytes r) ≤ longest_row
  shortened (printing a b c) = c

  -- each is as asked
  turned : {m : Move} → Outcome last phase w p m → Turned last phase w p m
  turned o =
      record {
        inside = not_beyond o;
        asks = λ e. asked (rw e at o);
        passes = λ then next e. passed (rw e at o);
        prints = λ r then next e. printed (rw e at o);
        short = λ r then next e. shortened (rw e at o);
      }

module _ (last : Bool) (w : List ℕ) (p : ℕ) (l : p ≤ length w) where
  -- the place past the line is in the window
  past_within : past_line w p ≤ length w
  past_within = omega (arith, size_within (drop p w), length-drop p w)

  past_further : (phase then : Phase) → (p < past_line w p) ⊎ (rank then < rank phase) → Further w phase p then (past_line w p)
  past_further phase then m = record { from = omega arith; within = past_within; moved = m }

  -- ---- passing over a line

  pass_outcome : {phase : Phase} (within after : Phase) → (p < past_line w p) ⊎ (rank after < rank phase)
      → Outcome last phase w p (pass_move last within after p (line_of (drop p w)))
  unfolding pass_move
  pass_outcome {phase} within after h = by (is_whole last (line_of (drop p w))) (eqb (size_of (line_of (drop p w))) 0) refl refl
    where
      by : (c d : Bool) → is_whole last (line_of (drop p w)) ≡ c → eqb (size_of (line_of (drop p w))) 0 ≡ d
          → Outcome last phase w p (pick c (on after (past_line w p)) (pick d more (on within (past_line w p))))
      by true d e f = passing (past_further phase after h)
      by false true e f =
          let o = open_end last w p l e in
          asking o.0 (omega (arith, eqb-true (size_of (line_of (drop p w))) 0 f))
      by false false e f =
          passing (past_further phase within (inl (omega (arith, eqb-false (size_of (line_of (drop p w))) 0 f))))

  -- ---- leading lines

  lead_on : Outcome last P.Lead w p (on P.Lines p)
  unfolding rank
  lead_on = passing {then = P.Lines} {next = p} (record { from = omega arith; within = l; moved = inr (omega arith) })

  lead_outcome : (u : List ℕ) → drop p w ≡ u → Outcome last P.Lead w p (lead_move last p u)
  unfolding lead_move
  lead_outcome [] d = by last refl
    where
      by : (c : Bool) → last ≡ c → Outcome last P.Lead w p (pick c (on P.Lines p) more)
      by true e = lead_on
      by false e = asking e (omega (arith, length-drop p w, ap length d))
  lead_outcome (b ∷ u) d = by (begins_hash (b ∷ u))
    where
      some : p < past_line w p
      some = omega (arith, size_some (drop p w) (rw d (omega arith)))

      by : (c : Bool) → Outcome last P.Lead w p (pick c (pass_move last P.Comment P.Lead p (line_of (b ∷ u))) (on P.Lines p))
      by true = rw (← d) (pass_outcome P.Comment P.Lead (inl some))
      by false = lead_on

  -- ---- reading a line

  read_outcome : {phase : Phase} → size_of (line_of (drop p w)) ≤ longest → Outcome last phase w p (read_move (line_of (drop p w)) (read_answer w p))
  unfolding read_move
  read_outcome {phase} h = by (eqb (number_of (read_answer w p)) 1) refl
    where
      by : (c : Bool) → eqb (number_of (read_answer w p)) 1 ≡ c
          → Outcome last phase w p (pick c ended (gives (row_of (line_of (drop p w)) (read_answer w p)) P.Lines (next_of (read_answer w p))))
      by true e = ending
      by false e = let n = read_next w p l (eqb-false _ _ e) in printing n.0 n.1 (row_few (line_of (drop p w)) (read_answer w p) h (read_small w p))

  line_outcome : {phase : Phase} → Outcome last phase w p (line_move last w p (line_of (drop p w)))
  unfolding line_move
  line_outcome {phase} = by (ltb longest (size_of (line_of (drop p w)))) (is_whole last (line_of (drop p w))) refl refl
    where
      by : (c d : Bool) → ltb longest (size_of (line_of (drop p w))) ≡ c → is_whole last (line_of (drop p w)) ≡ d
          → Outcome last phase w p (pick c (gives (says 22 []) (pick d P.Lines P.Rest) (past_line w p)) (pick d (read_move (line_of (drop p w)) (read_answer w p)) more))
      by true d e f = printing {next = past_line w p} (omega (arith, ltb-true longest (size_of (line_of (drop p w))) e)) past_within (refused_few 21 [] (omega arith))
      by false true e f = read_outcome (ltb-false longest (size_of (line_of (drop p w))) e)
      by false false e f =
          let o = open_end last w p l f in
          asking o.0 (omega (arith, ltb-false longest (size_of (line_of (drop p w))) e))

  -- ---- any phase

  phase_outcome : (phase : Phase) → Outcome last phase w p (phase_move last phase w p)
  unfolding phase_move rank
  phase_outcome P.Lead = lead_outcome (drop p w) refl
  phase_outcome P.Comment = pass_outcome P.Comment P.Lead (inr (omega arith))
  phase_outcome P.Lines = line_outcome
  phase_outcome P.Rest = pass_outcome P.Rest P.Lines (inr (omega arith))

pub turns : Turns turn_move
unfolding Turns turn_move
turns last phase w p l = rw (le-ltb (length w) p l) (turned (phase_outcome last w p l phase))
