-- One turn over a window of the input (docs/RULES.md, "The program vcflist"). Whether the window is all that is left of the
-- input is told beside it; where it isn't, and the line at the place is not whole, more of the input is asked for.
-- Assumes nothing.
use Rattle.std.specs.Prelude.{ℕ, ◌+◌, Bool, true, List, [], ◌∷◌, length, drop, ltb, eqb}
use Rattle.text.specs.Pick.{pick}
use Rattle.text.specs.Answer.{Answer, says, number_of, next_of}
use Rattle.record.specs.Ending.{nothing, feed, return_feed}
use Rattle.line.specs.Line.{Line, line, line_of, read_answer}
use Rattle.listing.specs.Listing.{size_of, longest, row_of, begins_hash}
use Rattle.listing.specs.declared.turn.Phase.{Phase}
use Rattle.listing.specs.declared.turn.Phase.TheVariants as P

-- what a turn does, on paper
pub data Move : Type 0 where
  -- the place lies beyond the window
  beyond : Move
  -- the window ends too soon
  more : Move
  -- answer 1
  ended : Move
  -- nothing to print: go on in a phase, from a place
  on : Phase → ℕ → Move
  -- a row to print: go on in a phase, from a place
  gives : Answer → Phase → ℕ → Move

-- whether the line is whole: an LF ends it, or the window is all that is left
unfoldable pub is_whole : Bool → Line → Bool
is_whole last (line t nothing rest) = last
is_whole last (line t feed rest) = true
is_whole last (line t return_feed rest) = true

-- the rest of a line passed over, or as much of it as the window holds
unfoldable pub pass_move : Bool → Phase → Phase → ℕ → Line → Move
pass_move last within after at l =
    pick (is_whole last l) (on after (at + size_of l)) (pick (eqb (size_of l) 0) more (on within (at + size_of l)))

-- at the start of a line, where only leading lines came before
unfoldable pub lead_move : Bool → ℕ → List ℕ → Move
unfolding pass_move
lead_move last at [] = pick last (on P.Lines at) more
lead_move last at (b ∷ u) = pick (begins_hash (b ∷ u)) (pass_move last P.Comment P.Lead at (line_of (b ∷ u))) (on P.Lines at)

-- the line reader's answer
unfoldable pub read_move : Line → Answer → Move
read_move l a = pick (eqb (number_of a) 1) ended (gives (row_of l a) P.Lines (next_of a))

-- 22 as soon as too many bytes are there
unfoldable pub line_move : Bool → List ℕ → ℕ → Line → Move
line_move last w at l =
    pick (ltb longest (size_of l)) (gives (says 22 []) (pick (is_whole last l) P.Lines P.Rest) (at + size_of l))
    (pick (is_whole last l) (read_move l (read_answer w at)) more)

unfoldable pub phase_move : Bool → Phase → List ℕ → ℕ → Move
phase_move last P.Lead w at = lead_move last at (drop at w)
phase_move last P.Comment w at = pass_move last P.Comment P.Lead at (line_of (drop at w))
phase_move last P.Lines w at = line_move last w at (line_of (drop at w))
phase_move last P.Rest w at = pass_move last P.Rest P.Lines at (line_of (drop at w))

unfoldable pub turn_move : Bool → Phase → List ℕ → ℕ → Move
turn_move last phase w at = pick (ltb (length w) at) beyond (phase_move last phase w at)
