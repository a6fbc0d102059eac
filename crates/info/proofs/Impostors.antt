-- Steppers and counts that the demands refuse, each on one small column. Assumes nothing.
use Prim.Native.Nat.{ℕ, zero, suc, ◌+◌, ◌<◌, ◌≤◌}
use mathlib.Core.Path.{◌≡◌, refl, sym, ap, ◌∙◌}
use mathlib.Core.List.{List, [], ◌∷◌}
use native.Mathlib.Omega.{arith}
use lib.ListN.{length, get_or, take, drop}
use Rattle.text.specs.Answer.{Answer, says, number_of}
use Rattle.pieces.specs.Demands.{Free}
use Rattle.pieces.proofs.PieceLaws.{free_nil, free_cons, joined_one, joined_more}
use Rattle.info.specs.Info.{Pair, alone, places_of, step_answer}
use Rattle.info.specs.Demands.{Stepper, StepAt, value_more, key_dangles, Steps, spelled, Good, WellFormed, Scan, end, bare, full, Scans, Moved, MovesOn, Counts}
use Rattle.info.proofs.EntryLaws.{byte_good, step_last}
use Rattle.info.proofs.Steps.{shape_answer}
use Rattle.info.proofs.Counts.{keyless_count}
use Rattle.info.proofs.Scans.{scans}
use Rattle.info.proofs.MovesOn.{Turn, stop, go, turn}

-- ---- two columns

-- `a` and `b`
a_good : Good (alone (97 ∷ []))
a_good = byte_good 97 (λ z. omega arith) (λ z. omega arith)

b_good : Good (alone (98 ∷ []))
b_good = byte_good 98 (λ z. omega arith) (λ z. omega arith)

a_formed : WellFormed (97 ∷ []) (alone (97 ∷ []) ∷ [])
unfolding spelled
a_formed = record { each = by; whole = joined_one 59 (97 ∷ []) }
  where
    by : (i : ℕ) → i < 1 → Good (get_or (alone (97 ∷ []) ∷ []) i (alone []))
    by zero l = a_good
    by (suc i) l = absurd (omega arith)

-- `a;b`
a_b_formed : WellFormed (97 ∷ 59 ∷ 98 ∷ []) (alone (97 ∷ []) ∷ alone (98 ∷ []) ∷ [])
unfolding spelled
a_b_formed = record { each = by; whole = joined_more 59 (97 ∷ []) (98 ∷ []) [] ∙ rw joined_one }
  where
    by : (i : ℕ) → i < 2 → Good (get_or (alone (97 ∷ []) ∷ alone (98 ∷ []) ∷ []) i (alone []))
    by zero l = a_good
    by (suc zero) l = b_good
    by (suc (suc i)) l = absurd (omega arith)

-- ---- a step before a key alone

-- its answer, the key that it cuts out, and the steps from the next place on
record Bare (step : Stepper) (t : List ℕ) (at : ℕ) (key : List ℕ) (es : List Pair) : Type 0 where
  next : ℕ
  start : ℕ
  len : ℕ
  says_so : step t at ≡ says 0 (next ∷ start ∷ len ∷ [])
  cuts : take len (drop start t) ≡ key
  rest : Scan step t next es

scan_bare : (step : Stepper) (t : List ℕ) {at : ℕ} {key : List ℕ} {es fs : List Pair} → Scan step t at fs → fs ≡ alone key ∷ es → Bare step t at key es
scan_bare step t (end s) e = absurd (let z : ◌≡◌ {A = ℕ} 0 1 = cc in omega arith)
scan_bare step t {key = key} {es = es} (bare {next = n} {k = k} {m = m} {es = gs} s w) e =
    let r : gs ≡ es = cc in
    let c : take m (drop k t) ≡ key = cc in
    record { next = n; start = k; len = m; says_so = s; cuts = c; rest = (rw r at w) }
scan_bare step t (full s w) e = absurd (let z : ◌≡◌ {A = ℕ} 0 1 = cc in omega arith)

scan_end : (step : Stepper) (t : List ℕ) {at : ℕ} {fs : List Pair} → Scan step t at fs → fs ≡ [] → step t at ≡ says 10 (at ∷ [])
scan_end step t (end s) e = s
scan_end step t (bare s w) e = absurd (let z : ◌≡◌ {A = ℕ} 0 1 = cc in omega arith)
scan_end step t (full s w) e = absurd (let z : ◌≡◌ {A = ℕ} 0 1 = cc in omega arith)

-- ---- answering the first step only

-- a key that it would cut at any place is the one that it cuts at the first
not_two : (step : Stepper) (t : List ℕ) → ((at : ℕ) → 0 < at → step t at ≡ says 10 (at ∷ [])) → {key other : List ℕ} {es fs : List Pair}
    → Bare step t 0 key es → (n : ℕ) → Bare step t n other fs → key ≡ other
not_two step t ends x zero y = cc
not_two step t ends x (suc n) y =
    let e = ends (suc n) (omega arith) in
    absurd (let z : ◌≡◌ {A = ℕ} 0 10 = cc in omega arith)

-- a stepper that finds the end at every place but the first doesn't scan `a;b`
pub first_step_only : (step : Stepper) → ((t : List ℕ) (at : ℕ) → 0 < at → step t at ≡ says 10 (at ∷ [])) → Scans step → ⊥
unfolding Scans
first_step_only step ends scans =
    let t : List ℕ = 97 ∷ 59 ∷ 98 ∷ [] in
    let x = scan_bare step t ((scans t (alone (97 ∷ []) ∷ alone (98 ∷ []) ∷ [])).0 a_b_formed) refl in
    let e : ◌≡◌ {A = List ℕ} (97 ∷ []) (98 ∷ []) = not_two step t (ends t) x x.next (scan_bare step t x.rest refl) in
    let z : ◌≡◌ {A = ℕ} 97 98 = cc in
    omega arith

-- ---- counts

-- a count that is always the same
pub invented_count : (n : ℕ) → Counts (λ t. n) → ⊥
invented_count n c = omega (arith, c.none, c.some (0 ∷ []) (omega arith))

-- one that gives `=a` its two steps
pub counted_by_steps : (count : List ℕ → ℕ) → count (61 ∷ 97 ∷ []) ≡ 2 → Counts count → ⊥
counted_by_steps count e c = omega (arith, keyless_count, c.some (61 ∷ 97 ∷ []) (omega arith))

-- ---- a next place that is not the entry's

-- the same answer, with its next place one further
pub bumped : Answer → Answer
bumped (says n []) = says n []
bumped (says n (next ∷ places)) = says n ((next + 1) ∷ places)

-- the step at `a`, so changed
a_bumped : bumped (step_answer (97 ∷ []) 0) ≡ says 0 (2 ∷ places_of 0 (alone (97 ∷ [])))
unfolding bumped spelled
a_bumped = rw (step_last (97 ∷ []) 0 (alone (97 ∷ [])) a_good refl)

a_number : number_of (step_answer (97 ∷ []) 0) ≡ 0
unfolding spelled
a_number = rw (step_last (97 ∷ []) 0 (alone (97 ∷ [])) a_good refl)

next_within : {t : List ℕ} {at n next : ℕ} → Turn t at n next → next ≤ length t
next_within (stop w) = w
next_within (go n l w) = w

-- a stepper that so changes the entries' answers, whatever it does with others, doesn't move on
pub invented_next : (step : Stepper) → ((t : List ℕ) (at : ℕ) → number_of (step_answer t at) ≡ 0 → step t at ≡ bumped (step_answer t at)) → MovesOn step → ⊥
unfolding MovesOn
invented_next step invents moves = by (step t 0) (invents t 0 a_number ∙ a_bumped) (moves t 0)
  where
    t : List ℕ
    t = 97 ∷ []

    by : (a : Answer) → a ≡ says 0 (2 ∷ places_of 0 (alone (97 ∷ []))) → Moved t 0 a → ⊥
    by a e m =
        let n : m.next ≡ 2 = cc in
        let l = next_within (turn (omega arith) m.goes) in
        omega arith

-- nor does it scan, where it answers 6 beyond the column
pub invented_next_scan : (step : Stepper) → ((t : List ℕ) (at : ℕ) → number_of (step_answer t at) ≡ 0 → step t at ≡ bumped (step_answer t at))
    → ((t : List ℕ) (at : ℕ) → length t < at → number_of (step t at) ≡ 6) → Scans step → ⊥
unfolding Scans places_of
invented_next_scan step invents outside scans =
    let t : List ℕ = 97 ∷ [] in
    let x = scan_bare step t ((scans t (alone (97 ∷ []) ∷ [])).0 a_formed) refl in
    let e = invents t 0 a_number ∙ a_bumped in
    let n : x.next ≡ 2 = cc in
    by t x.next (omega arith) x.rest
  where
    by : (t : List ℕ) (at : ℕ) → length t < at → Scan step t at [] → ⊥
    by t at h w =
        let s = scan_end step t w refl in
        let o = outside t at h in
        let z : ◌≡◌ {A = ℕ} 6 10 = cc in
        omega arith

-- ---- another number than the shape's

unlike : (step : Stepper) → Steps step → {t : List ℕ} {at : ℕ} {a : Answer} → StepAt t at a → {n : ℕ} → number_of (step t at) ≡ n → (n ≡ number_of a → ⊥) → ⊥
unfolding Steps
unlike step s {t} {at} {a} shape e other = other (sym e ∙ ap number_of ((s t at a).1 shape))

-- `DP=9;Q;`: an entry, and then a key whose `;` is the last byte
abbrev dangling : List ℕ
dangling = 68 ∷ 80 ∷ 61 ∷ 57 ∷ 59 ∷ 81 ∷ 59 ∷ []

dangling_entry : StepAt dangling 0 (says 0 (5 ∷ 0 ∷ 2 ∷ 3 ∷ 1 ∷ []))
dangling_entry = value_more {k = 68 ∷ 80 ∷ []} {v = 57 ∷ []} (record { some = omega arith; no_equals = two 61 (λ z. omega arith) (λ z. omega arith); no_semicolon = two 59 (λ z. omega arith) (λ z. omega arith) }) (free_cons (λ z. omega arith) free_nil) 81 (59 ∷ []) refl
  where
    two : (b : ℕ) → (68 ≡ b → ⊥) → (80 ≡ b → ⊥) → Free b (68 ∷ 80 ∷ [])
    two b d p = free_cons d (free_cons p free_nil)

dangling_key : StepAt dangling 5 (says 7 (7 ∷ []))
dangling_key = key_dangles {k = 81 ∷ []} (free_cons (λ z. omega arith) free_nil) (free_cons (λ z. omega arith) free_nil) refl

-- it is not well formed
dangling_formed : (es : List Pair) → WellFormed dangling es → ⊥
unfolding Scans
dangling_formed es w = by (shape_answer dangling_entry) ((scans dangling es).0 w)
  where
    refused : {at : ℕ} {es : List Pair} → step_answer dangling at ≡ says 7 (7 ∷ []) → Scan step_answer dangling at es → ⊥
    refused e (end s) = let z : ◌≡◌ {A = ℕ} 7 10 = cc in omega arith
    refused e (bare s w) = let z : ◌≡◌ {A = ℕ} 7 0 = cc in omega arith
    refused e (full s w) = let z : ◌≡◌ {A = ℕ} 7 0 = cc in omega arith

    by : {at : ℕ} {es : List Pair} → step_answer dangling at ≡ says 0 (5 ∷ 0 ∷ 2 ∷ 3 ∷ 1 ∷ []) → Scan step_answer dangling at es → ⊥
    by e (end s) = let z : ◌≡◌ {A = ℕ} 0 10 = cc in omega arith
    by e (bare s w) = let z : ◌≡◌ {A = ℕ} 0 1 = cc in omega arith
    by e (full {next = n} s w) = let z : n ≡ 5 = cc in refused (rw z (shape_answer dangling_key)) w

-- a stepper that loses its entry
pub loses_entry : (step : Stepper) → number_of (step (68 ∷ 80 ∷ 61 ∷ 57 ∷ 59 ∷ 81 ∷ 59 ∷ []) 0) ≡ 8 → Steps step → ⊥
loses_entry step e s = unlike step s dangling_entry e (λ z. omega arith)

-- such is one that answers 8 at every place of a column that is not well formed
pub refuses_unformed : (step : Stepper) → ((t : List ℕ) → ((es : List Pair) → WellFormed t es → ⊥) → (at : ℕ) → at < length t → number_of (step t at) ≡ 8) → Steps step → ⊥
refuses_unformed step refuses = loses_entry step (refuses dangling dangling_formed 0 (omega arith))

-- one that judges 8 before 7, at the column `;`
pub eight_first : (step : Stepper) → number_of (step (59 ∷ []) 0) ≡ 8 → Steps step → ⊥
eight_first step e s = unlike step s (key_dangles {k = []} free_nil free_nil refl) e (λ z. omega arith)
