-- The line at a place: all that is left where no LF stands from it on; else what stands before the first LF, less one CR. Assumes nothing.
use Prim.Native.Nat.{ℕ, ◌+◌, ◌-◌, ◌<◌, ◌≤◌}
use mathlib.Core.Path.{◌≡◌, refl, sym, ◌∙◌}
use mathlib.Core.List.{List, [], drop_last}
use native.Mathlib.Omega.{arith}
use native.Mathlib.Decide.{ℕ_discrete}
use Rattle.std.specs.Prelude.{Ok, Err}
use lib.ListN.{length, get_or, drop, length-drop}
use borrow.Author.Tests.{le-leb, lt-leb}
use Rattle.text.specs.Answer.{says}
use Rattle.pieces.specs.Inner.{Quiet, quiet_length}
use Rattle.pieces.proofs.EitherLaws.{either_quiet, either_second}
use Rattle.record.specs.Ending.{feed, return_feed, ending_bytes}
use Rattle.record.specs.Promises.{NamesEnding}
use Rattle.record.specs.declared.ending.Ending.{Ending}
use Rattle.record.specs.declared.ending.Ending.TheVariants as E
use Rattle.line.specs.Line.{fed, line_of, extent_answer, line_at_answer}
use Rattle.line.specs.Paper.{lined_paper}
use Rattle.line.specs.Promises.{FindsLine}
use Rattle.line.specs.Demands.{FirstFeed}
use Rattle.line.specs.Inner.{TextEnd, input, none, bare, return}
use Rattle.record.proofs.EndingLaws.{nothing_bytes, feed_bytes, return_feed_bytes, ending_sized}
use Rattle.line.proofs.ColumnLaws.{line_end}
use Rattle.line.proofs.ReadLaws.{input_end, rest_free, length_last, column, column_length, line_here, Closes, plain, returned, closes}

-- ---- the answer, by where the place lies

module _ (s : List ℕ) (at : ℕ) where
  pub at_beyond : length s < at → line_at_answer s at ≡ says 6 []
  unfolding line_at_answer
  at_beyond h = rw (lt-leb _ _ h)

  pub at_inside : at ≤ length s → line_at_answer s at ≡ extent_answer at (line_of (drop at s))
  unfolding line_at_answer
  at_inside h = rw (le-leb _ _ h)

-- ---- the line, by where its first LF stands

-- with none it goes to the end of the input
pub found_unfed : (s : List ℕ) (at : ℕ) → at ≤ length s → ((k : ℕ) → at ≤ k → k < length s → get_or s k 0 ≡ 10 → ⊥)
    → FindsLine s at (Ok (record { end = length s; ending = E.Nothing; next = length s }))
unfolding lined_paper extent_answer
found_unfed s at h f =
    let l : at + length (drop at s) ≡ length s = omega (arith, length-drop at s) in
    let m : length s + 0 ≡ length s = omega arith in
    sym (at_inside s at h ∙ rw (line_end (drop at s) (rest_free s 10 at h f), nothing_bytes, l, m))

module _ (s : List ℕ) (at stop : ℕ) (g : FirstFeed s at stop) where
  text : List ℕ
  text = column s at stop g

  reached : at ≤ length s
  reached = let a = g.after in let w = g.within in omega arith

  found_closed : {x end : ℕ} → Closes s at stop g x → x ≡ end → (r : Ending) → NamesEnding (stop + 1 - end) r → lined_paper (Ok (record { end = end; ending = r; next = stop + 1 })) ≡ line_at_answer s at
  unfolding lined_paper extent_answer fed text
  found_closed {end = end} (plain c) q r b =
      let l : at + length text ≡ end = omega (arith, column_length s at stop g, g.after) in
      let m : end + 1 ≡ stop + 1 = omega arith in
      let k : stop + 1 - end ≡ length (ending_bytes feed) = rw feed_bytes (omega arith) in
      sym (at_inside s at reached ∙ rw (line_here s at stop g, c, l, b, ending_sized feed k, feed_bytes, m))
  found_closed {end = end} (returned a c) q r b =
      let l : at + length (drop_last text) ≡ end = omega (arith, length_last text, column_length s at stop g) in
      let m : end + 2 ≡ stop + 1 = omega arith in
      let k : stop + 1 - end ≡ length (ending_bytes return_feed) = rw return_feed_bytes (omega arith) in
      sym (at_inside s at reached ∙ rw (line_here s at stop g, c, l, b, ending_sized return_feed k, return_feed_bytes, m))

  -- with one it goes there, and the byte before it tells the ending
  pub found_fed : {end : ℕ} → TextEnd s at stop end → (r : Ending) → NamesEnding (stop + 1 - end) r → FindsLine s at (Ok (record { end = end; ending = r; next = stop + 1 }))
  found_fed z = found_closed (closes s at stop g z) refl

-- ---- each way through the code

pub finds_beyond : (s : List ℕ) (at : ℕ) → length s < at → lined_paper (Err (record {})) ≡ line_at_answer s at
unfolding lined_paper
finds_beyond s at h = sym (at_beyond s at h)

module _ (s : List ℕ) (at : ℕ) {stop : ℕ} (h : at ≤ length s) (first : stop ≡ at + quiet_length 10 10 (drop at s)) where
  quiet : Quiet 10 10 s at stop
  quiet = either_quiet 10 10 s at h first

  pub stop_after : at ≤ stop
  stop_after = quiet.after

  pub stop_within : stop ≤ length s
  stop_within = quiet.within

  pub stop_inside : (stop ≡ length s → ⊥) → stop < length s
  stop_inside n = let w = stop_within in omega arith

  stop_feed : (stop ≡ length s → ⊥) → FirstFeed s at stop
  stop_feed n = record { after = quiet.after; within = stop_inside n; is = by (ℕ_discrete (get_or s stop 0) 10); first = quiet.no_first }
    where
      by : Dec (get_or s stop 0 ≡ 10) → get_or s stop 0 ≡ 10
      by (yes z) = z
      by (no z) = either_second 10 10 s at h first (stop_inside n) z

  module _ {end : ℕ} (z : TextEnd s at stop end) where
    pub ends_before : end ≤ stop + 1
    ends_before = by z
      where
        by : {x : ℕ} → TextEnd s at stop x → x ≤ stop + 1
        by (input e) = omega arith
        by (none e) = omega arith
        by (bare a n) = omega arith
        by (return a b c) = omega arith

    pub finds_nothing : stop ≡ length s → lined_paper (Ok (record { end = end; ending = E.Nothing; next = stop })) ≡ line_at_answer s at
    finds_nothing q =
        let y : end ≡ length s = input_end s (rw q at z) in
        rw (q, y) (found_unfed s at h (rw q at quiet.no_first))

    pub finds_fed : (stop ≡ length s → ⊥) → (r : Ending) → NamesEnding (stop + 1 - end) r → lined_paper (Ok (record { end = end; ending = r; next = stop + 1 })) ≡ line_at_answer s at
    finds_fed n = found_fed s at stop (stop_feed n) z

pub ruleset laws = (finds_beyond, stop_after, stop_within, stop_inside, ends_before, finds_nothing, finds_fed)
