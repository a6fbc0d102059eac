-- Turns one after another: each row is laid behind those before it, and what is left of the window and the phase fall. Assumes nothing.
use Prim.Native.Nat.{ℕ, ◌+◌, ◌<◌, ◌≤◌}
use mathlib.Core.Path.{◌≡◌, refl, sym, ap, ap₂, ◌∙◌, subst}
use mathlib.Core.Bool.{Bool, false}
use mathlib.Core.List.{List, [], ◌∷◌, ◌++◌, append_assoc, append-nil}
use native.Mathlib.Omega.{arith}
use lib.ListN.{length, length-append}
use borrow.Author.Tests.{lt-ltb}
use Rattle.text.specs.Answer.{Answer}
use Rattle.text.specs.Over.{over_at}
use Rattle.text.specs.declared.copy.NoRoom.{NoRoom}
use Rattle.text.proofs.Lists.{over_at_nil, over_at_append, length_over_at}
use Rattle.listing.specs.Output.{row_bytes, rows_bytes}
use Rattle.listing.specs.Turn.{on, gives, turn_move}
use Rattle.listing.specs.Paper.{row_paper, turn_paper}
use Rattle.listing.specs.Demands.{Further, Turns}
use Rattle.listing.specs.Inner.{Reaches, Known, Lays, has_room, no_room, Counts, Takes, goes, lays, stays}
use Rattle.listing.specs.Drive.{turn_of, passed, filled, printed, Steps, here, passes, prints, Stops, misplaced, wants, lacks, ends, Drives}
use Rattle.listing.specs.declared.turn.Phase.{Phase}
use Rattle.listing.specs.declared.turn.ReadRow.{ReadRow}
use Rattle.listing.specs.declared.turn.Refusal.{Refusal}
use Rattle.listing.specs.declared.turn.Turn.{Turn}
use Rattle.listing.specs.declared.turn.Turn.TheVariants as T
use Rattle.listing.specs.declared.turn.Reach.{Reach}
use Rattle.listing.specs.declared.print.Totals.{Totals}
use Rattle.listing.specs.declared.drive.State.{State}
use Rattle.listing.specs.declared.drive.Why.{Why}
use Rattle.listing.specs.declared.drive.Why.TheVariants as W
use Rattle.std.specs.Prelude.{Result, Ok, Err}
use Rattle.listing.proofs.Turns.{turns}
use Rattle.listing.proofs.Runs as runs
use Rattle.listing.proofs.TurnLaws.{reach_later}

-- ---- steps

pub steps_pass : {last : Bool} {w : List ℕ} {size : ℕ} {s e : State} {rows : List Answer} {then : Phase} {next : ℕ} → Steps last w size s rows e
    → turn_of last w e ≡ on then next → Steps last w size s rows (passed e then next)
steps_pass here m = passes m here
steps_pass (passes a x) m = passes a (steps_pass x m)
steps_pass (prints a b x) m = prints a b (steps_pass x m)

pub steps_print : {last : Bool} {w : List ℕ} {size : ℕ} {s e : State} {rows : List Answer} {r : Answer} {then : Phase} {next : ℕ} → Steps last w size s rows e
    → turn_of last w e ≡ gives r then next → filled e r ≤ size → Steps last w size s (rows ++ r ∷ []) (printed e r then next)
steps_print here m f = prints m f here
steps_print (passes a x) m f = passes a (steps_print x m f)
steps_print (prints a b x) m f = prints a b (steps_print x m f)

-- the output fills by the rows' bytes
pub steps_put : {last : Bool} {w : List ℕ} {size : ℕ} {s e : State} {rows : List Answer} → Steps last w size s rows e → e.put ≡ s.put + length (rows_bytes rows)
unfolding rows_bytes
steps_put here = omega arith
steps_put (passes a x) = steps_put x
steps_put (prints {r = r} {rows = rows} a b x) = let k = steps_put x in let n = length-append (row_bytes r) (rows_bytes rows) in omega arith

rows_snoc : (rows : List Answer) (r : Answer) → rows_bytes (rows ++ r ∷ []) ≡ rows_bytes rows ++ row_bytes r
unfolding rows_bytes
rows_snoc [] r = append-nil (row_bytes r)
rows_snoc (a ∷ rows) r = ap (λ (z : List ℕ). row_bytes a ++ z) (rows_snoc rows r) ∙ sym (append_assoc (row_bytes a) (rows_bytes rows) (row_bytes r))

-- ---- a turn moves on

-- what is left of the window, and the phase
abbrev pub left : List ℕ → State → ℕ
left w s = runs.left w s.phase s.at

module _ (last : Bool) (w : List ℕ) (s : State) (h : s.at ≤ length w) where
  pub pass_further : {then : Phase} {next : ℕ} → turn_of last w s ≡ on then next → Further w s.phase s.at then next
  unfolding Turns
  pass_further {then} {next} e = (turns last s.phase w s.at h).passes then next e

  pub print_further : {r : Answer} {then : Phase} {next : ℕ} → turn_of last w s ≡ gives r then next → Further w s.phase s.at then next
  unfolding Turns
  print_further {r} {then} {next} e = runs.on_row ((turns last s.phase w s.at h).prints r then next e)

-- ---- one turn

found : (last : Bool) (w : List ℕ) (s : State) (t : Turn) {row : Result ReadRow Refusal} {then : Phase} {next : ℕ} → turn_paper t ≡ turn_move last s.phase w s.at → t ≡ T.Found row then next
    → turn_of last w s ≡ gives (row_paper row) then next
unfolding turn_paper
found last w s t m e = sym m ∙ rw e

module _ (last : Bool) (w : List ℕ) (s : State) {l : List ℕ} {t : Turn} (m : turn_paper t ≡ turn_move last s.phase w s.at) where
  pub take_beyond : t ≡ T.Beyond → Takes last w s l (Err W.Beyond) l
  unfolding turn_paper
  take_beyond e = stays (misplaced (sym m ∙ rw e)) refl

  pub take_more : t ≡ T.More → Takes last w s l (Err W.More) l
  unfolding turn_paper
  take_more e = stays (wants (sym m ∙ rw e)) refl

  pub take_end : t ≡ T.End → Takes last w s l (Err W.Done) l
  unfolding turn_paper
  take_end e = stays (ends (sym m ∙ rw e)) refl

  pub take_on : {then : Phase} {next : ℕ} → t ≡ T.On then next → Takes last w s l (Ok (passed s then next)) l
  unfolding turn_paper
  take_on {then} {next} e = goes {then = then} {next = next} (sym m ∙ rw e) refl

  module _ {row : Result ReadRow Refusal} {then : Phase} {next : ℕ} (e : t ≡ T.Found row then next) {r : Result ℕ NoRoom} {l' : List ℕ} (v : Lays s.put (row_bytes (row_paper row)) l r l') where
    pub take_full : {no : NoRoom} → r ≡ Err no → Takes last w s l (Err W.Full) l'
    take_full {no} q = go (rw q at v)
      where
        go : Lays s.put (row_bytes (row_paper row)) l (Err no) l' → Takes last w s l (Err W.Full) l'
        go (no_room a b) = stays (lacks (found last w s t m e) a) b

    pub take_row : {n : ℕ} {c : Totals} → r ≡ Ok n → Counts s.totals (row_paper row) c
        → Takes last w s l (Ok (record { phase = then; at = next; put = n; totals = c })) l'
    take_row {n} {c} q o = go (rw q at v)
      where
        same : {a : ℕ} {b : Totals} → filled s (row_paper row) ≡ a → (printed s (row_paper row) then next).totals ≡ b
            → printed s (row_paper row) then next ≡ record { phase = then; at = next; put = a; totals = b }
        same a b = λ i. record { phase = then; at = next; put = a i; totals = b i }

        go : Lays s.put (row_bytes (row_paper row)) l (Ok n) l' → Takes last w s l (Ok (record { phase = then; at = next; put = n; totals = c })) l'
        go (has_room k a b) =
            rw (← same (sym k) (ap₂ (λ (n m : ℕ). record { read = n; refused = m }) (sym o.read) (sym o.refused))) (lays (found last w s t m e) (omega arith) b)

-- ---- the loop

-- from the state s₀ and the bytes l₀ turns have led to s and l; where a line was found to end further on, so does the line there
pub record Going (last : Bool) (w : List ℕ) (s₀ : State) (l₀ : List ℕ) (s : State) (l : List ℕ) (x : Reach) : Type 0 where
  pub rows : List Answer
  pub steps : Steps last w (length l₀) s₀ rows s
  pub bytes : l ≡ over_at s₀.put (rows_bytes rows) l₀
  pub len : length l ≡ length l₀
  pub known : Known w s.at x

pub go_first : (last : Bool) (w : List ℕ) (s : State) (l : List ℕ) → Going last w s l s l (record { end = 0; fed = false })
unfolding rows_bytes
go_first last w s l = record { rows = []; steps = here; bytes = sym (over_at_nil s.put l); len = refl; known = λ h. absurd (omega arith) }

module _ {last : Bool} {w : List ℕ} {s₀ s : State} {l₀ l : List ℕ} {x : Reach} (g : Going last w s₀ l₀ s l x) where
  stop : {why : Why} → Stops last w (length l) s why → Drives last w s₀ l₀ (record { why = why; state = s }) l
  stop {why} y =
      record { rows = g.rows; steps = g.steps; stops = subst (λ (n : ℕ). Stops last w n s why) g.len y; bytes = g.bytes }

  pub go_beyond : length w < s.at → Drives last w s₀ l₀ (record { why = W.Beyond; state = s }) l
  unfolding turn_move
  go_beyond h = stop (misplaced (rw (lt-ltb (length w) s.at h)))

  module _ {r : Result State Why} {l' : List ℕ} (v : Takes last w s l r l') where
    pub taken_stops : {why : Why} → r ≡ Err why → Drives last w s₀ l₀ (record { why = why; state = s }) l'
    taken_stops {why} q = go (rw q at v)
      where
        go : Takes last w s l (Err why) l' → Drives last w s₀ l₀ (record { why = why; state = s }) l'
        go (stays y e) = rw e (stop y)

    module _ {e : State} (q : r ≡ Ok e) (h : s.at ≤ length w) where
      pub taken_less : left w e < left w s
      taken_less = go (rw q at v)
        where
          go : {e : State} → Takes last w s l (Ok e) l' → left w e < left w s
          go (goes m b) = runs.lower (pass_further last w s h m)
          go (lays m f b) = runs.lower (print_further last w s h m)

      pub taken_goes : {y : Reach} → Reaches w s.at y → Going last w s₀ l₀ e l' y
      taken_goes {y} k = go (rw q at v)
        where
          go : {e : State} → Takes last w s l (Ok e) l' → Going last w s₀ l₀ e l' y
          go (goes {next = next} m b) =
              let f = pass_further last w s h m in
              rw b
              (record {
                rows = g.rows;
                steps = steps_pass g.steps m;
                bytes = g.bytes;
                len = g.len;
                known = reach_later w s.at y next k f.from;
              })
          go (lays {r = a} {next = next} m f b) =
              let p = steps_put g.steps in
              let z = g.len in
              let i : s₀.put + length (rows_bytes g.rows) ≤ length l₀ = omega arith in
              let n = print_further last w s h m in
              rw b
              (record {
                rows = g.rows ++ a ∷ [];
                steps = steps_print g.steps m (omega arith);
                bytes = rw (rows_snoc g.rows a, over_at_append s₀.put (rows_bytes g.rows) (row_bytes a) l₀ i, ← g.bytes, p);
                len = length_over_at s.put (row_bytes a) l f ∙ z;
                known = reach_later w s.at y next k n.from;
              })
