-- What one turn over a window says of the whole input, definition by definition: where it goes on, and what it gives. Assumes nothing.
use Prim.Native.Nat.{ℕ, zero, suc, ◌+◌, ◌<◌, ◌≤◌}
use mathlib.Core.Path.{◌≡◌, refl, sym, ◌∙◌}
use mathlib.Core.Bool.{Bool, true, false}
use mathlib.Core.List.{List, [], ◌∷◌}
use native.Mathlib.Omega.{arith}
use lib.ListN.{length, drop}
use lib.Dec.{ltb, eqb}
use borrow.Author.Tests.{ltb-true, ltb-false, eqb-true, eqb-false}
use Rattle.text.specs.Pick.{pick}
use Rattle.text.specs.Answer.{Answer, says, number_of, next_of}
use Rattle.line.specs.Line.{Line, line_of, read_answer}
use Rattle.line.proofs.MovesOn.{read_moved}
use Rattle.line.proofs.Window.{window_read}
use Rattle.line.proofs.WholeLaws.{moved_number, moved_next}
use Rattle.listing.specs.Listing.{size_of, columns_of, longest, found_at, row_of, begins_hash}
use Rattle.listing.specs.Turn.{Move, beyond, more, ended, on, gives, is_whole, pass_move, lead_move, read_move, line_move, phase_move, turn_move}
use Rattle.listing.specs.Demands.{Holds}
use Rattle.listing.specs.declared.turn.Phase.{Phase}
use Rattle.listing.specs.declared.turn.Phase.TheVariants as P
use Rattle.listing.proofs.Windows.{left_from, left_last}
use Rattle.listing.proofs.LineLaws.{past_line, WholeLine, whole_line, part_line}
use Rattle.listing.proofs.FoundLaws.{next_first, found_long, found_read}

-- ---- what is said of the input

-- the line is passed over, or part of it
pub data Passed (s : List ℕ) (at : ℕ) (within after : Phase) : Phase → ℕ → Type 0 where
  all : {to : ℕ} → to ≡ past_line s at → Passed s at within after after to
  part : {to : ℕ} → past_line s to ≡ past_line s at → Passed s at within after within to

-- a leading line, or the first other one
pub data Led (s : List ℕ) (at : ℕ) : Phase → ℕ → Type 0 where
  hash : {then : Phase} {to : ℕ} → begins_hash (drop at s) ≡ true → Passed s at P.Comment P.Lead then to → Led s at then to
  other : begins_hash (drop at s) ≡ false → Led s at P.Lines at

-- the row of what is found, and the place to go on from, or one in a line that is too long
pub data Given (s : List ℕ) (at : ℕ) : Answer → Phase → ℕ → Type 0 where
  found : {to : ℕ} → (number_of (found_at s at) ≡ 1 → ⊥) → to ≡ next_of (found_at s at) → Given s at (row_of (line_of (drop at s)) (found_at s at)) P.Lines to
  amid : {to : ℕ} → (number_of (found_at s at) ≡ 1 → ⊥) → past_line s to ≡ next_of (found_at s at) → Given s at (row_of (line_of (drop at s)) (found_at s at)) P.Rest to

-- what a move in a phase says of the input from a place on; the window starts at the place `base`
pub data Said (s : List ℕ) (base at : ℕ) : Phase → Move → Type 0 where
  outside : {phase : Phase} → Said s base at phase beyond
  asked : {phase : Phase} → Said s base at phase more
  led : {then : Phase} {next : ℕ} → Led s at then (base + next) → Said s base at P.Lead (on then next)
  commented : {then : Phase} {next : ℕ} → Passed s at P.Comment P.Lead then (base + next) → Said s base at P.Comment (on then next)
  rested : {then : Phase} {next : ℕ} → Passed s at P.Rest P.Lines then (base + next) → Said s base at P.Rest (on then next)
  given : {r : Answer} {then : Phase} {next : ℕ} → Given s at r then (base + next) → Said s base at P.Lines (gives r then next)
  finished : number_of (found_at s at) ≡ 1 → Said s base at P.Lines ended

-- ---- answers

-- rows turn on the number and the columns
row_same : (k l : Line) (a b : Answer) → columns_of k ≡ columns_of l → number_of a ≡ number_of b → row_of k a ≡ row_of l b
unfolding row_of
row_same k l (says zero vs) (says zero us) c e = rw c
row_same k l (says zero vs) (says (suc m) us) c e = absurd (omega arith)
row_same k l (says (suc n) vs) (says zero us) c e = absurd (omega arith)
row_same k l (says (suc n) vs) (says (suc m) us) c e = rw e

module _ {s : List ℕ} (base : ℕ) {w : List ℕ} (p : ℕ) (l : WholeLine s (base + p) w p) where
  same_number : number_of (read_answer w p) ≡ number_of (read_answer s (base + p))
  same_number = moved_number (base + p) p (read_answer w p) (read_answer s (base + p)) (window_read s (base + p) w p l.window)

  same_next : base + next_of (read_answer w p) ≡ next_of (read_answer s (base + p))
  same_next =
      let m = read_moved w p in
      let n = read_moved s (base + p) in
      let e = moved_next (base + p) p (read_answer w p) (read_answer s (base + p)) m.values n.values (window_read s (base + p) w p l.window) in
      omega (arith, next_first (read_answer w p) m.values, next_first (read_answer s (base + p)) n.values)

-- ---- the turn

module _ {s : List ℕ} {base : ℕ} {w : List ℕ} {last : Bool} (h : Holds s base w last) (p : ℕ) (l : p ≤ length w) where
  -- passing over a line
  past_all : is_whole last (line_of (drop p w)) ≡ true → base + (past_line w p) ≡ past_line s (base + p)
  past_all e = omega (arith, (whole_line h p l e).size)

  past_part : is_whole last (line_of (drop p w)) ≡ false → past_line s (base + (past_line w p)) ≡ past_line s (base + p)
  past_part e = let r = part_line h p l e in rw r.end (omega arith)

  pass_says : {phase : Phase} (within after : Phase)
      → ((then : Phase) (next : ℕ) → Passed s (base + p) within after then (base + next) → Said s base (base + p) phase (on then next))
      → Said s base (base + p) phase (pass_move last within after p (line_of (drop p w)))
  unfolding pass_move
  pass_says {phase} within after say = by (is_whole last (line_of (drop p w))) (eqb (size_of (line_of (drop p w))) 0) refl
    where
      by : (c d : Bool) → is_whole last (line_of (drop p w)) ≡ c
          → Said s base (base + p) phase (pick c (on after (past_line w p)) (pick d more (on within (past_line w p))))
      by true d e = say after (past_line w p) (all (past_all e))
      by false true e = asked
      by false false e = say within (past_line w p) (part (past_part e))

  -- leading lines
  lead_says : (u : List ℕ) → drop p w ≡ u → Said s base (base + p) P.Lead (lead_move last p u)
  unfolding lead_move begins_hash
  lead_says [] d = by last refl
    where
      by : (c : Bool) → last ≡ c → Said s base (base + p) P.Lead (pick c (on P.Lines p) more)
      by true e = led (other (rw (left_last h p l e, d)))
      by false e = asked
  lead_says (b ∷ u) d = by (eqb b 35) refl
    where
      same : begins_hash (drop (base + p) s) ≡ eqb b 35
      same = rw (left_from h p l, d)

      by : (c : Bool) → eqb b 35 ≡ c → Said s base (base + p) P.Lead (pick c (pass_move last P.Comment P.Lead p (line_of (b ∷ u))) (on P.Lines p))
      by true e = rw (← d) (pass_says P.Comment P.Lead (λ then next x. led (hash (same ∙ e) x)))
      by false e = led (other (same ∙ e))

  -- a line that is too long
  too_long : longest < size_of (line_of (drop p w)) → found_at s (base + p) ≡ says 22 (past_line s (base + p) ∷ [])
  too_long b = by (is_whole last (line_of (drop p w))) refl
    where
      by : (c : Bool) → is_whole last (line_of (drop p w)) ≡ c → found_at s (base + p) ≡ says 22 (past_line s (base + p) ∷ [])
      by true e = found_long s (base + p) (omega (arith, (whole_line h p l e).size))
      by false e = found_long s (base + p) (omega (arith, (part_line h p l e).size))

  long_says : longest < size_of (line_of (drop p w)) → (c : Bool) → is_whole last (line_of (drop p w)) ≡ c
      → Said s base (base + p) P.Lines (gives (says 22 []) (pick c P.Lines P.Rest) (past_line w p))
  unfolding row_of
  long_says b c e = by c e
    where
      row : says 22 [] ≡ row_of (line_of (drop (base + p) s)) (found_at s (base + p))
      row = rw (too_long b)

      next : past_line s (base + p) ≡ next_of (found_at s (base + p))
      next = rw (too_long b)

      not_one : number_of (found_at s (base + p)) ≡ 1 → ⊥
      not_one z = let y = rw (too_long b) at z in omega arith

      by : (c : Bool) → is_whole last (line_of (drop p w)) ≡ c
          → Said s base (base + p) P.Lines (gives (says 22 []) (pick c P.Lines P.Rest) (past_line w p))
      by true e = rw row (given (found not_one (past_all e ∙ next)))
      by false e = rw row (given (amid not_one (past_part e ∙ next)))

  -- a whole line that is not
  read_says : size_of (line_of (drop p w)) ≤ longest → is_whole last (line_of (drop p w)) ≡ true
      → Said s base (base + p) P.Lines (read_move (line_of (drop p w)) (read_answer w p))
  unfolding read_move
  read_says b e = by (eqb (number_of (read_answer w p)) 1) refl
    where
      whole : WholeLine s (base + p) w p
      whole = whole_line h p l e

      is : found_at s (base + p) ≡ read_answer s (base + p)
      is = found_read s (base + p) (omega (arith, whole.size))

      next : base + next_of (read_answer w p) ≡ next_of (found_at s (base + p))
      next = rw is (same_next base p whole)

      number : number_of (found_at s (base + p)) ≡ number_of (read_answer w p)
      number = rw is (sym (same_number base p whole))

      row : row_of (line_of (drop p w)) (read_answer w p) ≡ row_of (line_of (drop (base + p) s)) (found_at s (base + p))
      row = row_same _ _ (read_answer w p) (found_at s (base + p)) (sym whole.columns) (sym number)

      by : (c : Bool) → eqb (number_of (read_answer w p)) 1 ≡ c
          → Said s base (base + p) P.Lines (pick c ended (gives (row_of (line_of (drop p w)) (read_answer w p)) P.Lines (next_of (read_answer w p))))
      by true c = finished (number ∙ eqb-true _ _ c)
      by false c = rw row (given (found (λ z. eqb-false _ _ c (sym number ∙ z)) next))

  -- a line
  line_says : Said s base (base + p) P.Lines (line_move last w p (line_of (drop p w)))
  unfolding line_move
  line_says = by (ltb longest (size_of (line_of (drop p w)))) (is_whole last (line_of (drop p w))) refl refl
    where
      by : (c d : Bool) → ltb longest (size_of (line_of (drop p w))) ≡ c → is_whole last (line_of (drop p w)) ≡ d
          → Said s base (base + p) P.Lines (pick c (gives (says 22 []) (pick d P.Lines P.Rest) (past_line w p)) (pick d (read_move (line_of (drop p w)) (read_answer w p)) more))
      by true d c e = long_says (ltb-true _ _ c) d e
      by false true c e = read_says (ltb-false _ _ c) e
      by false false c e = asked

  phase_says : (phase : Phase) → Said s base (base + p) phase (phase_move last phase w p)
  unfolding phase_move
  phase_says P.Lead = lead_says (drop p w) refl
  phase_says P.Comment = pass_says P.Comment P.Lead (λ then next x. commented x)
  phase_says P.Lines = line_says
  phase_says P.Rest = pass_says P.Rest P.Lines (λ then next x. rested x)

pub turn_says : {s : List ℕ} {base : ℕ} {w : List ℕ} {last : Bool} → Holds s base w last → (phase : Phase) (p : ℕ) → Said s base (base + p) phase (turn_move last phase w p)
unfolding turn_move
turn_says {s} {base} {w} {last} h phase p = by (ltb (length w) p) refl
  where
    by : (c : Bool) → ltb (length w) p ≡ c → Said s base (base + p) phase (pick c beyond (phase_move last phase w p))
    by true c = outside
    by false c = phase_says h p (ltb-false _ _ c) phase
