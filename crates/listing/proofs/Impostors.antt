-- Two turns that the demands refuse: one reads the input "00" as two lines, cut where a window ends; the other never does anything. Assumes nothing.
use Prim.Native.Nat.{ℕ, zero, suc, ◌<◌, ◌≤◌}
use mathlib.Core.Path.{◌≡◌, refl, ◌∙◌}
use mathlib.Core.Bool.{Bool, true, false, true≢false, false≢true}
use mathlib.Core.Logic.{◌⊎◌, inl, inr}
use mathlib.Core.List.{List, [], ◌∷◌}
use native.Mathlib.Omega.{arith}
use lib.ListN.{length, get_or}
use borrow.Author.Tests.{le-ltb, ne_eqb}
use Rattle.text.specs.Answer.{Answer, number_of, next_of}
use Rattle.record.specs.Ending.{nothing, feed, return_feed}
use Rattle.line.specs.Line.{Line, line, line_of, read_answer}
use Rattle.line.specs.Demands.{FirstFeed, past_feed, at_end, GoesOn, stays_1, stays_6, line_0, line_5, feed_2, tab_2, feed_3, end_4}
use Rattle.line.proofs.LineLaws.{read_end}
use Rattle.line.proofs.MovesOn.{read_moved}
use Rattle.listing.specs.Listing.{size_of, longest, found_at, row_of, begins_hash, Leads, none, one, Rows, row, Listing}
use Rattle.listing.specs.Turn.{more, ended, on, gives, is_whole, lead_move, read_move, line_move, phase_move, turn_move}
use Rattle.listing.specs.Demands.{Holds, Turning, Run, stops, goes, prints, Streams, Turns}
use Rattle.listing.specs.declared.turn.Phase.{Phase}
use Rattle.listing.specs.declared.turn.Phase.TheVariants as P
use Rattle.listing.proofs.LineLaws.{size_within}
use Rattle.listing.proofs.FoundLaws.{next_first, read_next, read_ended, found_read}

-- ---- asking for more

-- a turn that always asks for more does so where none can come
pub asks_always : Turns (λ last phase w p. more) → ⊥
unfolding Turns
asks_always claim = true≢false ((claim true P.Lead [] 0 (omega arith)).asks refl).0

-- ---- the input

abbrev zeros : List ℕ
zeros = 48 ∷ 48 ∷ []

-- no tab, and no LF
plain : (k : ℕ) → (get_or zeros k 0 ≡ 9 → ⊥) × (get_or zeros k 0 ≡ 10 → ⊥)
plain zero = (λ e. omega arith, λ e. omega arith)
plain (suc zero) = (λ e. omega arith, λ e. omega arith)
plain (suc (suc k)) = (λ e. omega arith, λ e. omega arith)

unfed : {at k : ℕ} → FirstFeed zeros at k → ⊥
unfed {k = k} f = (plain k).1 f.is

-- so the line reader goes on at its end
plain_end : {at n next : ℕ} → at ≤ 2 → GoesOn zeros at n next → next ≡ 2
plain_end h (stays_1 e) = e
plain_end h (stays_6 l) = absurd (omega arith)
plain_end h (line_0 (past_feed f)) = absurd (unfed f)
plain_end h (line_0 (at_end n)) = refl
plain_end h (line_5 (past_feed f)) = absurd (unfed f)
plain_end h (line_5 (at_end n)) = refl
plain_end h (feed_2 f n) = absurd (unfed f)
plain_end h (tab_2 t) = absurd ((plain t.tab).0 t.here.is)
plain_end h (feed_3 f) = absurd (unfed f)
plain_end h (end_4 n) = refl

found_end : next_of (found_at zeros 0) ≡ 2
found_end =
    let m = read_moved zeros 0 in
    rw (found_read zeros 0 (omega (arith, size_within zeros)), next_first (read_answer zeros 0) m.values) (plain_end (omega arith) m.goes)

-- it has at most one row
one_row : {r q : Answer} {rows : List Answer} → Rows zeros 0 (r ∷ q ∷ rows) → ⊥
one_row (row n (row m x)) =
    let none_left : number_of (found_at zeros 2) ≡ 1 = rw (found_read zeros 2 (omega (arith, size_within [])), read_end zeros 2 refl) in
    rw found_end at m none_left

not_two : {r q : Answer} {rows : List Answer} → Listing zeros (r ∷ q ∷ rows) → ⊥
unfolding begins_hash
not_two {r} {q} {rows} x = by x.leads x.lists
  where
    by : {first : ℕ} → Leads zeros 0 first → Rows zeros first (r ∷ q ∷ rows) → ⊥
    by (none e) y = one_row y
    by (one e l) y = absurd (false≢true e)

-- ---- a window that holds the first zero, and one that holds the second

abbrev half : List ℕ
half = 48 ∷ []

half_row : Answer
half_row = row_of (line_of half) (read_answer half 0)

first_half : Holds zeros 0 half false
first_half = record { within = omega arith; part = refl; all = λ e. absurd (false≢true e) }

last_half : Holds zeros 1 half true
last_half = record { within = omega arith; part = refl; all = λ e. refl }

any_whole : (l : Line) → is_whole true l ≡ true
unfolding is_whole
any_whole (line t nothing rest) = refl
any_whole (line t feed rest) = refl
any_whole (line t return_feed rest) = refl

half_leads : turn_move true P.Lead half 0 ≡ on P.Lines 0
unfolding turn_move phase_move lead_move begins_hash
half_leads = refl

half_read : turn_move true P.Lines half 0 ≡ gives half_row P.Lines 1
unfolding turn_move phase_move line_move read_move half_row
half_read =
    let some : number_of (read_answer half 0) ≡ 1 → ⊥ = λ e. (let z = read_ended half 0 e in omega arith) in
    let n = read_next half 0 (omega arith) some in
    let next : next_of (read_answer half 0) ≡ 1 = omega arith in
    rw (le-ltb longest (size_of (line_of half)) (omega (arith, size_within half)), any_whole (line_of half), ne_eqb _ 1 some, next)

half_ends : turn_move true P.Lines half 1 ≡ ended
unfolding turn_move phase_move line_move read_move
half_ends =
    rw (le-ltb longest (size_of (line_of [])) (omega (arith, size_within [])), any_whole (line_of []), read_end half 1 refl)

-- ---- reading an unfinished line

-- a turn that takes every window in which bytes are left as the last doesn't give the rows of the whole input
pub reads_unfinished : (turn : Turning) → ((last : Bool) (phase : Phase) (w : List ℕ) (p : ℕ) → (last ≡ true) ⊎ (p < length w) → turn last phase w p ≡ turn_move true phase w p)
    → Streams turn → ⊥
unfolding Streams
reads_unfinished turn same claim = not_two (claim zeros (half_row ∷ half_row ∷ []) run)
  where
    run : Run turn zeros P.Lead 0 (half_row ∷ half_row ∷ [])
    run =
        goes {base = 0} {p = 0} {next = 0} first_half (same false P.Lead half 0 (inr (omega arith)) ∙ half_leads)
        (prints {base = 0} {p = 0} {next = 1} first_half (same false P.Lines half 0 (inr (omega arith)) ∙ half_read)
        (prints {base = 1} {p = 0} {next = 1} last_half (same true P.Lines half 0 (inl refl) ∙ half_read)
        (stops {base = 1} {p = 1} last_half (same true P.Lines half 1 (inl refl) ∙ half_ends))))
