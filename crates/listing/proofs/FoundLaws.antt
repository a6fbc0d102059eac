-- What is found at a place is the definition's clause; where the line reader goes on is as it moves on.
-- Assumes nothing.
use Prim.Native.Nat.{ℕ, ◌+◌, ◌<◌, ◌≤◌}
use mathlib.Core.Path.{◌≡◌}
use mathlib.Core.List.{List, [], ◌∷◌}
use native.Mathlib.Omega.{arith}
use lib.ListN.{length, drop}
use borrow.Author.Tests.{lt-ltb, le-ltb}
use Rattle.text.specs.Answer.{Answer, says, number_of, values_of, next_of}
use Rattle.line.specs.Line.{line_of, read_answer}
use Rattle.line.specs.Demands.{GoesOn, stays_1, stays_6, line_0, line_5, feed_2, tab_2, feed_3, end_4}
use Rattle.line.proofs.MovesOn.{read_moved}
use Rattle.listing.specs.Listing.{size_of, longest, found_at}

-- the first value
pub next_first : (a : Answer) {next : ℕ} {vs : List ℕ} → values_of a ≡ next ∷ vs → next_of a ≡ next
next_first (says n vs) e = rw e

-- ---- the line reader

-- 1 is the input's end, and 6 lies beyond it
stays : {s : List ℕ} {at n next : ℕ} → GoesOn s at n next → (n ≡ 1 → at ≡ length s) × (n ≡ 6 → length s < at)
stays (stays_1 a) = (λ e. a, λ e. absurd (omega arith))
stays (stays_6 a) = (λ e. absurd (omega arith), λ e. a)
stays (line_0 a) = (λ e. absurd (omega arith), λ e. absurd (omega arith))
stays (line_5 a) = (λ e. absurd (omega arith), λ e. absurd (omega arith))
stays (feed_2 a b) = (λ e. absurd (omega arith), λ e. absurd (omega arith))
stays (tab_2 a) = (λ e. absurd (omega arith), λ e. absurd (omega arith))
stays (feed_3 a) = (λ e. absurd (omega arith), λ e. absurd (omega arith))
stays (end_4 a) = (λ e. absurd (omega arith), λ e. absurd (omega arith))

-- no other number is greater
small : {s : List ℕ} {at n next : ℕ} → GoesOn s at n next → n ≤ 6
small (stays_1 a) = omega arith
small (stays_6 a) = omega arith
small (line_0 a) = omega arith
small (line_5 a) = omega arith
small (feed_2 a b) = omega arith
small (tab_2 a) = omega arith
small (feed_3 a) = omega arith
small (end_4 a) = omega arith

module _ (s : List ℕ) (at : ℕ) where
  pub read_small : number_of (read_answer s at) ≤ 6
  read_small = small (read_moved s at).goes

  pub read_next : at ≤ length s → (number_of (read_answer s at) ≡ 1 → ⊥) → (at < next_of (read_answer s at)) × (next_of (read_answer s at) ≤ length s)
  read_next h n =
      let m = read_moved s at in
      let six : number_of (read_answer s at) ≡ 6 → ⊥ = λ e. (let b = (stays m.goes).1 e in omega arith) in
      rw (next_first (read_answer s at) m.values) (m.further n six, m.within six)

  pub read_ended : number_of (read_answer s at) ≡ 1 → at ≡ length s
  read_ended = (stays (read_moved s at).goes).0

  -- ---- what is found

  pub found_long : longest < size_of (line_of (drop at s)) → found_at s at ≡ says 22 ((at + size_of (line_of (drop at s))) ∷ [])
  unfolding found_at
  found_long h = rw (lt-ltb _ _ h)

  pub found_read : size_of (line_of (drop at s)) ≤ longest → found_at s at ≡ read_answer s at
  unfolding found_at
  found_read h = rw (le-ltb _ _ h)
