-- The end of a line: by its first LF, and the byte before it. Assumes nothing.
use Prim.Native.Nat.{ℕ, ◌+◌, ◌-◌, ◌≤◌, ◌<◌}
use mathlib.Core.Path.{◌≡◌}
use mathlib.Core.List.{List}
use native.Mathlib.Omega.{arith}
use lib.ListN.{length, get_or}
use Rattle.std.proofs.Common.{Option, None, Some, MatchOption, Ok}
use Rattle.record.specs.declared.ending.Ending.TheVariants as E
use Rattle.line.specs.Demands.{FirstFeed, NoFeed}
use Rattle.line.specs.Promises.{FindsLine}
use Rattle.line.specs.Inner.{none, bare, return}
use Rattle.record.proofs.EndingLaws.{named_feed, named_return_feed}
use Rattle.line.proofs.ReadLaws.{none_more}
use Rattle.line.proofs.ExtentLaws.{finds_beyond, found_unfed, found_fed}

-- no LF from a place up to another
pub record Unfed (s : List ℕ) (at i : ℕ) : Type 0 where
  pub after : at ≤ i
  pub none : (k : ℕ) → at ≤ k → k < i → get_or s k 0 ≡ 10 → ⊥

pub unfed_first : {s : List ℕ} {at : ℕ} → Unfed s at at
unfed_first = record { after = omega arith; none = λ k p q e. omega arith }

module _ {s : List ℕ} {at i : ℕ} (g : Unfed s at i) where
  pub unfed_turn : (get_or s i 0 ≡ 10 → ⊥) → Unfed s at (i + 1)
  unfed_turn n = record { after = (let a = g.after in omega arith); none = none_more s 10 g.none n }

  -- no LF was found
  pub unfed_past : length s ≤ i → MatchOption None (NoFeed s at) (λ k. FirstFeed s at k)
  unfolding NoFeed
  unfed_past h = λ k p q e. g.none k p (omega arith) e

  -- one was found
  pub first_feed : i < length s → get_or s i 0 ≡ 10 → MatchOption (Some i) (NoFeed s at) (λ k. FirstFeed s at k)
  first_feed h e = record { after = g.after; within = h; is = e; first = g.none }

-- no LF was found
pub ends_nothing : (s : List ℕ) {at : ℕ} → at ≤ length s → NoFeed s at → FindsLine s at (Ok (record { end = length s; ending = E.Nothing; next = length s }))
unfolding NoFeed
ends_nothing s {at} h n = found_unfed s at h n

-- the byte before it tells the ending
module _ {s : List ℕ} {at i : ℕ} (f : FirstFeed s at i) where
  pub ends_return : at < i → get_or s (i - 1) 0 ≡ 13 → FindsLine s at (Ok (record { end = i - 1; ending = E.ReturnFeed; next = i + 1 }))
  ends_return l c = found_fed s at i f (return l f.within c) E.ReturnFeed (named_return_feed (λ z. omega arith) (λ z. omega arith))

  pub ends_bare : at < i → (get_or s (i - 1) 0 ≡ 13 → ⊥) → FindsLine s at (Ok (record { end = i; ending = E.Feed; next = i + 1 }))
  ends_bare l n = found_fed s at i f (bare l n) E.Feed (named_feed (omega arith))

  pub ends_none : i ≤ at → FindsLine s at (Ok (record { end = i; ending = E.Feed; next = i + 1 }))
  ends_none l = found_fed s at i f (none (let a = f.after in omega arith)) E.Feed (named_feed (omega arith))

pub ruleset feed_laws = (unfed_first, unfed_turn, unfed_past, first_feed)

pub ruleset laws = (finds_beyond, ends_nothing)
