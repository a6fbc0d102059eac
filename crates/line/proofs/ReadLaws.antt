-- Reading a line column by column: where a column ends, the line that an LF ends, the last column, and what is left from a column on.
-- Assumes nothing.
use Prim.Native.Nat.{ℕ, ◌+◌, ◌-◌, ◌≤◌, ◌<◌}
use mathlib.Core.Path.{◌≡◌, refl, sym, ap, ◌∙◌}
use mathlib.Core.Bool.{Bool, true, false, ◌||◌, or-true}
use mathlib.Core.List.{List, [], ◌∷◌, ◌++◌, drop_last}
use native.Mathlib.Omega.{arith}
use native.Mathlib.Decide.{dec_lt}
use native.Mathlib.Nat.{le_refl}
use Rattle.std.specs.Prelude.{Ok, Err}
use lib.ListN.{length, get_or, take, drop, length-append, length-drop, take-append-drop}
use lib.Seq.{drop-length, drop-drop, get_or-take, get_or-drop, length-take-le}
use lib.Dec.{eqb}
use borrow.Author.Tests.{le-leb, lt-leb, eq-eqb, ne_eqb}
use Rattle.text.specs.Pick.{pick}
use Rattle.text.specs.Bytes.{is_empty, ends_in}
use Rattle.text.proofs.Lists.{here, rest_all}
use Rattle.text.proofs.ByteLaws.{none_empty, some_empty, ends_none, ends_some, ends_at}
use Rattle.text.specs.Verdict.{Verdict, fine, refused}
use Rattle.pieces.specs.Inner.{near_end, quiet_length}
use Rattle.pieces.specs.Pieces.{split}
use Rattle.pieces.specs.Demands.{Free}
use Rattle.pieces.proofs.EitherLaws.{near_short, near_long, either_quiet, either_second}
use Rattle.pieces.proofs.PieceLaws.{free_nil, free_cons, free_head, free_tail, part_free, split_whole, split_append, split_nil}
use Rattle.record.specs.Ending.{Ending, feed, return_feed, ending_bytes}
use Rattle.line.specs.declared.read.Refusal.TheVariants as R
use Rattle.line.specs.Line.{Line, line, fed, line_of, required, last_verdict, verdict}
use Rattle.line.specs.Demands.{FirstFeed}
use Rattle.line.specs.Inner.{Judged, Clear, Stopped, StopsAt, TextEnd, input, none, bare, return, accepted, denied, judgement, judgement_of, judged_paper, Going}
use Rattle.line.specs.declared.read.Stop.{Stop}
use Rattle.line.specs.declared.read.Stop.TheVariants as S
use Rattle.record.proofs.EndingLaws.{nothing_bytes, feed_bytes, return_feed_bytes}
use Rattle.line.proofs.ColumnLaws.{line_end, line_feed, line_tab}

-- ---- the search for a column's end

module _ (s : List ℕ) (from : ℕ) {i : ℕ} (h : from ≤ length s) (e : i ≡ from + quiet_length 9 10 (drop from s)) where
  pub stops_input : length s ≤ i → Clear s from (length s)
  stops_input l = let c = either_quiet 9 10 s from h e in let z : i ≡ length s = omega (arith, c.within) in rw z at c

  pub stops_tab : i < length s → get_or s i 0 ≡ 9 → Stopped s from i 9
  stops_tab l t = record { within = l; is = t; clear = either_quiet 9 10 s from h e }

  pub stops_feed : i < length s → (get_or s i 0 ≡ 9 → ⊥) → Stopped s from i 10
  stops_feed l n = record { within = l; is = either_second 9 10 s from h e l n; clear = either_quiet 9 10 s from h e }

pub search_first : {s : List ℕ} {from : ℕ} → from ≤ length s → Clear s from from
search_first h = record { after = omega arith; within = h; no_first = λ k p q e. omega arith; no_second = λ k p q e. omega arith }

-- what holds of no byte before i, and not of that at i, holds of none before i + 1
pub none_more : (s : List ℕ) (b : ℕ) {from i : ℕ} → ((k : ℕ) → from ≤ k → k < i → get_or s k 0 ≡ b → ⊥) → (get_or s i 0 ≡ b → ⊥)
    → (k : ℕ) → from ≤ k → k < i + 1 → get_or s k 0 ≡ b → ⊥
none_more s b {from} {i} f n k p q e =
    elim (dec_lt k i) [ yes l ↦ f k p l e | no l ↦ let z : k ≡ i = omega arith in n (rw z at e) ]

module _ {s : List ℕ} {from i : ℕ} (g : Clear s from i) where
  pub search_turn : i < length s → (get_or s i 0 ≡ 9 → ⊥) → (get_or s i 0 ≡ 10 → ⊥) → Clear s from (i + 1)
  search_turn h n m =
      record { after = omega arith; within = omega arith; no_first = none_more s 9 g.no_first n; no_second = none_more s 10 g.no_second m }

  pub search_found : {b : ℕ} → i < length s → get_or s i 0 ≡ b → Stopped s from i b
  search_found h e = record { within = h; is = e; clear = g }

-- what was found from i on is found from `from` on
none_over : (s : List ℕ) (b : ℕ) {from i r : ℕ} → ((k : ℕ) → from ≤ k → k < i → get_or s k 0 ≡ b → ⊥)
    → ((k : ℕ) → i ≤ k → k < r → get_or s k 0 ≡ b → ⊥) → (k : ℕ) → from ≤ k → k < r → get_or s k 0 ≡ b → ⊥
none_over s b {from} {i} f g k p q = elim (dec_lt k i) [ yes l ↦ f k p l | no l ↦ g k (omega arith) q ]

pub clear_over : {s : List ℕ} {from i r : ℕ} → Clear s from i → Clear s i r → Clear s from r
clear_over {s} c d =
    record {
      after = omega (arith, c.after, d.after);
      within = d.within;
      no_first = none_over s 9 c.no_first d.no_first;
      no_second = none_over s 10 c.no_second d.no_second;
    }

pub stopped_over : {s : List ℕ} {from i j b : ℕ} → Clear s from i → Stopped s i j b → Stopped s from j b
stopped_over g t = record { within = t.within; is = t.is; clear = clear_over g t.clear }

pub search_over : {s : List ℕ} {from i : ℕ} (x : Stop) → Clear s from i → StopsAt s i x → StopsAt s from x
search_over (S.Tab j) g t = stopped_over g t
search_over (S.Feed j) g t = stopped_over g t
search_over S.Input g t = clear_over g t

-- the first bytes were passed one by one: the others are sought from there on
near_after : {from n near : ℕ} → from ≤ n → near ≡ near_end from n → from ≤ near
near_after {from} {n} h e =
    elim (dec_lt (n - from) 32) [ yes l ↦ omega (arith, near_short from n l) | no l ↦ omega (arith, near_long from n (omega arith)) ]

pub search_past : {s : List ℕ} {from near i : ℕ} → from ≤ length s → near ≡ near_end from (length s) → Clear s from i → near ≤ i → (from ≤ near → i ≤ near)
    → (x : Stop) → StopsAt s near x → StopsAt s from x
search_past {s} {from} {near} {i} h e g m n x t =
    let a = near_after h e in
    let l = n a in
    let z : i ≡ near = omega arith in
    search_over x (rw z at g) t

-- what the search's answer tells, case by case
module _ {s : List ℕ} {from : ℕ} {x : Stop} (h : StopsAt s from x) where
  pub stop_tab : {i : ℕ} → x ≡ S.Tab i → Stopped s from i 9
  stop_tab e = rw e at h

  pub stop_feed : {i : ℕ} → x ≡ S.Feed i → Stopped s from i 10
  stop_feed e = rw e at h

  pub stop_input : x ≡ S.Input → Clear s from (length s)
  stop_input e = rw e at h

-- ---- the columns that must be ended by a tab

pub required_low : (k : ℕ) → k ≤ 7 → true ≡ required k
unfolding required
required_low k h = rw (le-leb _ _ h)

pub required_high : (k : ℕ) → 7 < k → eqb k 9 ≡ required k
unfolding required
required_high k h = rw (lt-leb _ _ h)

-- ---- where a text ends before an LF, or at the end of the input

module _ {s : List ℕ} {start stop : ℕ} where
  pub end_input : stop ≡ length s → TextEnd s start stop stop
  end_input e = input e

  pub end_none : stop ≡ start → TextEnd s start stop stop
  end_none e = none (sym e)

  pub end_return : (start ≤ stop) × (stop ≤ length s) → (stop ≡ length s → ⊥) → (stop ≡ start → ⊥) → get_or s (stop - 1) 0 ≡ 13 → TextEnd s start stop (stop - 1)
  end_return h m n e = return (omega arith) (omega arith) e

  pub end_bare : (start ≤ stop) × (stop ≤ length s) → (stop ≡ start → ⊥) → (get_or s (stop - 1) 0 ≡ 13 → ⊥) → TextEnd s start stop stop
  end_bare h n e = bare (omega arith) e

-- the end of the input strips nothing
pub input_end : (s : List ℕ) {start end : ℕ} → TextEnd s start (length s) end → end ≡ length s
input_end s (input e) = refl
input_end s (none e) = refl
input_end s (bare h n) = refl
input_end s (return h l e) = absurd (omega arith)

-- ---- a part of the input as a text

-- the input from a place on: what stands before a byte, the byte, and the rest
byte_at : (s : List ℕ) {from i b : ℕ} → from ≤ i → i < length s → get_or s i 0 ≡ b → drop from s ≡ take (i - from) (drop from s) ++ b ∷ drop (i + 1) s
byte_at s {from} {i} {b} h w e =
    let d : from + (i - from) ≡ i = omega arith in
    sym (take-append-drop (i - from) (drop from s))
    ∙ ap (λ (t : List ℕ). take (i - from) (drop from s) ++ t)
    (drop-drop (i - from) from s ∙ ap (λ (n : ℕ). drop n s) d ∙ here s i w ∙ ap (λ (x : ℕ). x ∷ drop (i + 1) s) e)

length_at : (s : List ℕ) {from i : ℕ} → from ≤ i → i < length s → length (take (i - from) (drop from s)) ≡ i - from
length_at s {from} {i} h w = length-take-le (i - from) (drop from s) (let l = length-drop from s in omega arith)

pub part_byte : (s : List ℕ) {from i b : ℕ} → Stopped s from i b → drop from s ≡ take (i - from) (drop from s) ++ b ∷ drop (i + 1) s
part_byte s g = byte_at s g.clear.after g.within g.is

part_length : (s : List ℕ) {from i b : ℕ} → Stopped s from i b → length (take (i - from) (drop from s)) ≡ i - from
part_length s g = length_at s g.clear.after g.within

module _ (s : List ℕ) {from i b : ℕ} (g : Stopped s from i b) where
  pub part_no_tab : Free 9 (take (i - from) (drop from s))
  part_no_tab = part_free s 9 from i g.clear.after (let w = g.within in omega arith) g.clear.no_first

  part_no_feed : Free 10 (take (i - from) (drop from s))
  part_no_feed = part_free s 10 from i g.clear.after (let w = g.within in omega arith) g.clear.no_second

-- the same to the end of the input
pub rest_free : (s : List ℕ) (b from : ℕ) → from ≤ length s → ((k : ℕ) → from ≤ k → k < length s → get_or s k 0 ≡ b → ⊥) → Free b (drop from s)
rest_free s b from h f =
    rw (rest_all s from) at (part_free s b from (length s) h (le_refl _) f)

-- an accepted line's text ends where its judgement says
judged_end : (v : Verdict) (end past : ℕ) {end' next : ℕ} → judgement v end past ≡ accepted end' next → end' ≡ end
unfolding judgement
judged_end fine end past e = cc
judged_end (refused n p) end past e = absurd (let z : ◌≡◌ {A = ℕ} 0 1 = cc in omega arith)

-- ---- the last column, cut by the end of the input

module _ (s : List ℕ) (k start : ℕ) (h : start ≤ length s) (g : Clear s start (length s)) where
  cut_judged : judgement_of k start (line_of (drop start s)) ≡ judgement (pick (required k || is_empty (drop start s)) (refused 4 (length s)) fine) (length s) (length s)
  unfolding judgement_of verdict last_verdict
  cut_judged =
      let l = length-drop start s in
      let e : start + length (drop start s) ≡ length s = omega arith in
      let z : length s + 0 ≡ length s = omega arith in
      rw (line_end (drop start s) (rest_free s 10 start h g.no_second), nothing_bytes, split_whole (drop start s) (rest_free s 9 start h g.no_first), e, z)

  pub cut_ends : {end next : ℕ} → judgement_of k start (line_of (drop start s)) ≡ accepted end next → end ≡ length s
  cut_ends e = judged_end (pick (required k || is_empty (drop start s)) (refused 4 (length s)) fine) (length s) (length s) (sym cut_judged ∙ e)

  pub cut_required : {q : Bool} → q ≡ required k → q ≡ true → judged_paper (Err (R.Cut (length s))) ≡ judgement_of k start (line_of (drop start s))
  unfolding judged_paper judgement
  cut_required e t = rw (cut_judged, ← e, t)

  pub cut_empty : start ≡ length s → judged_paper (Err (R.Cut start)) ≡ judgement_of k start (line_of (drop start s))
  unfolding judged_paper judgement
  cut_empty e = rw (cut_judged, e, drop-length s, none_empty [] refl, or-true (required k))

  pub cut_fine : {q : Bool} {end : ℕ} → q ≡ required k → q ≡ false → (start ≡ length s → ⊥) → TextEnd s start (length s) end
      → judged_paper (Ok (end, length s)) ≡ judgement_of k start (line_of (drop start s))
  unfolding judged_paper judgement
  cut_fine e t n z = rw (cut_judged, ← e, t, some_empty (drop start s) (simp length-drop (omega arith)), input_end s z)

-- ---- the line that the first LF from a place on ends

module _ (s : List ℕ) (start feed : ℕ) (g : FirstFeed s start feed) where
  pub column : List ℕ
  column = take (feed - start) (drop start s)

  pub column_length : length column ≡ feed - start
  unfolding column
  column_length = length_at s g.after g.within

  pub line_here : line_of (drop start s) ≡ fed column (drop (feed + 1) s)
  unfolding column
  line_here =
      ap line_of (byte_at s g.after g.within g.is)
      ∙ line_feed column (drop (feed + 1) s) (part_free s 10 start feed g.after (let w = g.within in omega arith) g.first)

  -- the byte before the LF decides
  column_ends : start < feed → ends_in 13 column ≡ eqb (get_or s (feed - 1) 0) 13
  unfolding column
  column_ends h =
      let l = column_length in
      let i : length column - 1 ≡ feed - 1 - start = omega arith in
      let n : feed - 1 - start < feed - start = omega arith in
      let m : start + (feed - 1 - start) ≡ feed - 1 = omega arith in
      ends_at 13 column (omega arith)
      ∙ ap (λ (k : ℕ). eqb (get_or column k 0) 13) i
      ∙ ap (λ (x : ℕ). eqb x 13) (get_or-take (feed - start) (drop start s) (feed - 1 - start) 0 n ∙ get_or-drop start s (feed - 1 - start) 0 ∙ ap (λ (i : ℕ). get_or s i 0) m)

  -- the text ends at the LF, or one byte before it where that is a CR
  pub data Closes : ℕ → Type 0 where
    plain : ends_in 13 column ≡ false → Closes feed
    returned : start < feed → ends_in 13 column ≡ true → Closes (feed - 1)

  pub closes : {end : ℕ} → TextEnd s start feed end → Closes end
  closes (input e) = absurd (let w = g.within in omega arith)
  closes (none e) = plain (ends_none 13 column (let l = column_length in omega arith))
  closes (bare h n) = plain (column_ends h ∙ ne_eqb _ _ n)
  closes (return h w e) = returned h (column_ends h ∙ eq-eqb _ _ e)

-- ---- the last column, ended by an LF

-- the text without one CR at its end
stripped : List ℕ → List ℕ
stripped c = pick (ends_in 13 c) (drop_last c) c

pub length_last : (c : List ℕ) → length (drop_last c) ≡ length c - 1
length_last [] = refl
length_last (a ∷ []) = refl
length_last (a ∷ b ∷ c) = let l = length_last (b ∷ c) in omega arith

free_last : {b : ℕ} (c : List ℕ) → Free b c → Free b (drop_last c)
free_last [] f = f
free_last (a ∷ []) f = free_nil
free_last (a ∷ b ∷ c) f = free_cons (free_head f) (free_last (b ∷ c) (free_tail f))

strip_bare : (c : List ℕ) → ends_in 13 c ≡ false → length (stripped c) ≡ length c
unfolding stripped
strip_bare c e = rw e

strip_return : (c : List ℕ) → ends_in 13 c ≡ true → length (stripped c) ≡ length c - 1
unfolding stripped
strip_return c e = rw e (length_last c)

strip_most : (c : List ℕ) → length (stripped c) ≤ length c
strip_most c = by (ends_in 13 c) refl
  where
    by : (t : Bool) → ends_in 13 c ≡ t → length (stripped c) ≤ length c
    by true e = let l = strip_return c e in omega arith
    by false e = let l = strip_bare c e in omega arith

-- one column, by which of the two endings it ends
fed_judged : (k start : ℕ) (c rest : List ℕ) → Free 9 c
    → judgement_of k start (fed c rest)
    ≡ judgement (pick (required k) (refused 3 (start + length c + 1)) (pick (is_empty (stripped c)) (refused 2 (start + length c + 1)) fine)) (start + length (stripped c)) (start + length c + 1)
unfolding judgement_of fed verdict last_verdict stripped
fed_judged k start c rest f = by (ends_in 13 c) refl
  where
    by : (t : Bool) → ends_in 13 c ≡ t
        → judgement_of k start (pick t (line (drop_last c) return_feed rest) (line c feed rest))
        ≡ judgement (pick (required k) (refused 3 (start + length c + 1)) (pick (is_empty (pick t (drop_last c) c)) (refused 2 (start + length c + 1)) fine)) (start + length (pick t (drop_last c) c)) (start + length c + 1)
    by true e =
        let l = length_last c in
        let m = ends_some 13 c e in
        let p : start + length (drop_last c) + 2 ≡ start + length c + 1 = omega arith in
        rw (split_whole (drop_last c) (free_last c f), return_feed_bytes, p)
    by false e = rw (split_whole c f, feed_bytes)

module _ (s : List ℕ) (k start feed : ℕ) (g : Stopped s start feed 10) where
  first_feed : FirstFeed s start feed
  first_feed = record { after = g.clear.after; within = g.within; is = g.is; first = g.clear.no_second }

  here_text : List ℕ
  here_text = column s start feed first_feed

  feed_judged : judgement_of k start (line_of (drop start s))
      ≡ judgement (pick (required k) (refused 3 (feed + 1)) (pick (is_empty (stripped here_text)) (refused 2 (feed + 1)) fine)) (start + length (stripped here_text)) (feed + 1)
  unfolding here_text column
  feed_judged =
      let n : start + length here_text + 1 ≡ feed + 1 = (let l = part_length s g in let a = g.clear.after in omega arith) in
      ap (judgement_of k start) (line_here s start feed first_feed) ∙ fed_judged k start here_text (drop (feed + 1) s) (part_no_tab s g) ∙ rw n

  pub feed_ends : {end next : ℕ} → judgement_of k start (line_of (drop start s)) ≡ accepted end next → (start ≤ end) × (end ≤ feed)
  unfolding here_text
  feed_ends e =
      let j = judged_end (pick (required k) (refused 3 (feed + 1)) (pick (is_empty (stripped here_text)) (refused 2 (feed + 1)) fine)) (start + length (stripped here_text)) (feed + 1) (sym feed_judged ∙ e) in
      let l = column_length s start feed first_feed in
      let m = strip_most here_text in
      let a = g.clear.after in
      (omega arith, omega arith)

  -- the text ends where the code says
  end_length : {end : ℕ} → TextEnd s start feed end → start + length (stripped here_text) ≡ end
  unfolding here_text
  end_length z = by (closes s start feed first_feed z)
    where
      by : {end : ℕ} → Closes s start feed first_feed end → start + length (stripped here_text) ≡ end
      by (plain e) = omega (arith, column_length s start feed first_feed, strip_bare here_text e, g.clear.after)
      by (returned h e) = omega (arith, column_length s start feed first_feed, strip_return here_text e)

  module _ {q : Bool} (e : q ≡ required k) where
    pub fed_required : q ≡ true → judged_paper (Err (R.Fed (feed + 1))) ≡ judgement_of k start (line_of (drop start s))
    unfolding judged_paper judgement
    fed_required t = rw (feed_judged, ← e, t)

    module _ {end : ℕ} (t : q ≡ false) (z : TextEnd s start feed end) where
      pub fed_empty : end ≡ start → judged_paper (Err (R.Empty (feed + 1))) ≡ judgement_of k start (line_of (drop start s))
      unfolding judged_paper judgement
      fed_empty n = let l = end_length z in rw (feed_judged, ← e, t, none_empty (stripped here_text) (omega arith))

      pub fed_fine : (end ≡ start → ⊥) → judged_paper (Ok (end, feed + 1)) ≡ judgement_of k start (line_of (drop start s))
      unfolding judged_paper judgement
      fed_fine n = let l = end_length z in rw (feed_judged, ← e, t, some_empty (stripped here_text) (omega arith), l)

-- ---- a column ended by a tab, and those after it

module _ (k from : ℕ) (c : List ℕ) (f : Free 9 c) where
  tab_judged : (t : List ℕ) (e : Ending) (rest : List ℕ)
      → judgement_of k from (line (c ++ 9 ∷ t) e rest)
      ≡ judgement
      (pick (is_empty c) (refused 2 (from + 1)) (verdict (k + 1) (from + length c + 1) (split 9 t) e (from + length c + 1 + length t + length (ending_bytes e))))
      (from + length c + 1 + length t) (from + length c + 1 + length t + length (ending_bytes e))
  unfolding judgement_of verdict
  tab_judged t e rest =
      let l = length-append c (9 ∷ t) in
      let n : from + length (c ++ 9 ∷ t) ≡ from + length c + 1 + length t = omega arith in
      rw (split_append c t f, n) (by (split 9 t) refl)
    where
      by : (ds : List (List ℕ)) → split 9 t ≡ ds
          → judgement (verdict k from (c ∷ ds) e (from + length c + 1 + length t + length (ending_bytes e))) (from + length c + 1 + length t) (from + length c + 1 + length t + length (ending_bytes e))
          ≡ judgement
          (pick (is_empty c) (refused 2 (from + 1)) (verdict (k + 1) (from + length c + 1) ds e (from + length c + 1 + length t + length (ending_bytes e))))
          (from + length c + 1 + length t) (from + length c + 1 + length t + length (ending_bytes e))
      by [] q = absurd (split_nil 9 t q)
      by (d ∷ ds) q = refl

  module _ (h : Free 10 c) (s : List ℕ) where
    tab_empty_judged : is_empty c ≡ true → judgement_of k from (line_of (c ++ 9 ∷ s)) ≡ denied 2 (from + 1)
    unfolding judgement
    tab_empty_judged z = by (line_of s) refl
      where
        by : (l : Line) → line_of s ≡ l → judgement_of k from (line_of (c ++ 9 ∷ s)) ≡ denied 2 (from + 1)
        by (line t e rest) q = rw (line_tab c s f h q) (tab_judged t e rest ∙ rw z)

    tab_some_judged : is_empty c ≡ false → judgement_of k from (line_of (c ++ 9 ∷ s)) ≡ judgement_of (k + 1) (from + length c + 1) (line_of s)
    unfolding judgement_of
    tab_some_judged z = by (line_of s) refl
      where
        by : (l : Line) → line_of s ≡ l → judgement_of k from (line_of (c ++ 9 ∷ s)) ≡ judgement_of (k + 1) (from + length c + 1) l
        by (line t e rest) q = rw (line_tab c s f h q) (tab_judged t e rest ∙ rw z)

pub judge_first : {s : List ℕ} {at : ℕ} → at ≤ length s → Going s at 1 at
judge_first h = record { reached = h; few = omega arith; same = refl }

pub judge_last : {s : List ℕ} {at k start : ℕ} (r : Judged) → Going s at k start → judged_paper r ≡ judgement_of k start (line_of (drop start s))
    → judged_paper r ≡ judgement_of 1 at (line_of (drop at s))
judge_last r g e = e ∙ g.same

module _ {s : List ℕ} {at k start tab : ℕ} (g : Going s at k start) (h : Stopped s start tab 9) where
  here_column : List ℕ
  here_column = take (tab - start) (drop start s)

  tab_line : judgement_of k start (line_of (drop start s)) ≡ judgement_of k start (line_of (here_column ++ 9 ∷ drop (tab + 1) s))
  unfolding here_column
  tab_line = ap (λ (t : List ℕ). judgement_of k start (line_of t)) (part_byte s h)

  pub judge_empty : tab ≡ start → judged_paper (Err (R.Empty (tab + 1))) ≡ judgement_of 1 at (line_of (drop at s))
  unfolding judged_paper here_column
  judge_empty e =
      let l = part_length s h in
      sym (tab_line ∙ tab_empty_judged k start here_column (part_no_tab s h) (part_no_feed s h) (drop (tab + 1) s) (none_empty here_column (omega arith)) ∙ rw e) ∙ g.same

  pub judge_turn : (tab ≡ start → ⊥) → Going s at (k + 1) (tab + 1)
  unfolding here_column
  judge_turn n =
      let l = part_length s h in
      let a = h.clear.after in
      let w = h.within in
      let m : start + length here_column + 1 ≡ tab + 1 = omega arith in
      record {
        reached = omega arith;
        few = (let f = g.few in omega arith);
        same =
            sym (tab_line ∙ tab_some_judged k start here_column (part_no_tab s h) (part_no_feed s h) (drop (tab + 1) s) (some_empty here_column (omega arith)) ∙ rw m) ∙ g.same;
      }

pub ruleset laws =
    (search_first, search_turn, search_found, search_over, stops_input, stops_tab, stops_feed, stop_tab, stop_feed, stop_input, required_low, required_high, end_input, end_none, end_return, end_bare, cut_required, cut_empty, cut_fine, fed_required, fed_empty, fed_fine, judge_first, judge_last, judge_empty, judge_turn)
