-- With the whole input as the one window each turn moves on or to a lower phase; so the turns end, by what is left and the phase. Assumes nothing.
use Prim.Native.Nat.{ℕ, zero, suc, ◌+◌, ◌-◌, ◌*◌, ◌<◌, ◌≤◌}
use mathlib.Core.Path.{◌≡◌, refl}
use mathlib.Core.Bool.{true, true≢false}
use mathlib.Core.Logic.{◌⊎◌, inl, inr}
use mathlib.Core.List.{List, [], ◌∷◌}
use native.Mathlib.Omega.{arith}
use lib.ListN.{length}
use lib.Seq.{take-length}
use Rattle.listing.specs.Turn.{Move, beyond, more, ended, on, gives}
use Rattle.listing.specs.Demands.{Holds, Turning, stops, goes, prints, Ran, Runs, rank, Further, Turns}
use Rattle.listing.specs.declared.turn.Phase.{Phase}
use Rattle.listing.specs.declared.turn.Phase.TheVariants as P

pub rank_most : (phase : Phase) → rank phase ≤ 2
unfolding rank
rank_most P.Lead = omega arith
rank_most P.Comment = omega arith
rank_most P.Lines = omega arith
rank_most P.Rest = omega arith

all_held : (s : List ℕ) → Holds s 0 s true
all_held s = record { within = omega arith; part = take-length s; all = λ e. omega arith }

-- what is left, and the phase
abbrev pub left : List ℕ → Phase → ℕ → ℕ
left s phase p = 3 * (length s - p) + rank phase

-- it falls with each turn that goes on
pub lower : {s : List ℕ} {phase then : Phase} {p next : ℕ} → Further s phase p then next → left s then next < left s phase p
lower {s} {phase} {then} {p} {next} f = by f.moved
  where
    by : (p < next) ⊎ (rank then < rank phase) → left s then next < left s phase p
    by (inl m) = omega (arith, rank_most then, f.within)
    by (inr m) = omega (arith, f.from)

-- with a row, too
pub on_row : {s : List ℕ} {phase then : Phase} {p next : ℕ} → (p < next) × (next ≤ length s) → Further s phase p then next
on_row h = let a = h.0 in record { from = omega arith; within = h.1; moved = inl a }

module _ (turn : Turning) (t : Turns turn) (s : List ℕ) where
  step : (phase : Phase) (p : ℕ) → p ≤ length s → ((then : Phase) (next : ℕ) → next ≤ length s → left s then next < left s phase p → Ran turn s then (0 + next))
      → Ran turn s phase (0 + p)
  unfolding Turns
  step phase p l again = by (turn true phase s p) refl
    where
      by : (m : Move) → turn true phase s p ≡ m → Ran turn s phase (0 + p)
      by beyond e = absurd ((t true phase s p l).inside e)
      by more e = absurd (true≢false ((t true phase s p l).asks e).0)
      by ended e = record { rows = []; run = stops (all_held s) e }
      by (on then next) e =
          let f = (t true phase s p l).passes then next e in
          let r = again then next f.within (lower f) in
          record { rows = r.rows; run = goes (all_held s) e r.run }
      by (gives a then next) e =
          let f : Further s phase p then next = on_row ((t true phase s p l).prints a then next e) in
          let r = again then next f.within (lower f) in
          record { rows = a ∷ r.rows; run = prints (all_held s) e r.run }

  ran_from : (n : ℕ) (phase : Phase) (p : ℕ) → p ≤ length s → left s phase p ≤ n → Ran turn s phase (0 + p)
  ran_from zero phase p l h = step phase p l (λ then next a b. absurd (omega arith))
  ran_from (suc n) phase p l h = step phase p l (λ then next a b. ran_from n then next a (omega arith))

-- so any turn that goes on has a run on every input
pub runs : (turn : Turning) → Turns turn → Runs turn
unfolding Runs
runs turn t s = ran_from turn t s (left s P.Lead 0) P.Lead 0 (omega arith) (omega arith)
