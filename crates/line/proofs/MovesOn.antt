-- Column by column, no tab so far ends an empty column: so the first that does is where the verdict says; every other next place is the line's end. Assumes nothing.
use Prim.Native.Nat.{ℕ, ◌+◌, ◌-◌, ◌<◌, ◌≤◌}
use mathlib.Core.Path.{◌≡◌, refl, sym, ap, ◌∙◌}
use mathlib.Core.Bool.{Bool, true, false, ◌||◌}
use mathlib.Core.Logic.{◌⊎◌, inl, inr, ⊎_elim}
use mathlib.Core.List.{List, [], ◌∷◌, ◌++◌, append-nil, append_assoc}
use native.Mathlib.Omega.{arith}
use native.Mathlib.Nat.{add-zero, add_assoc}
use lib.ListN.{length, get_or, drop, length-append, length-drop, get_or-append}
use lib.Seq.{get_or-append_seam, get_or-drop, drop-append-add, drop-drop, append_snoc}
use lib.Dec.{ltb}
use borrow.Author.Tests.{ltb-true, ltb-false}
use Rattle.text.specs.Pick.{pick}
use Rattle.text.specs.Answer.{says, number_of}
use Rattle.text.specs.Bytes.{is_empty}
use Rattle.text.proofs.ByteLaws.{none_empty, some_empty}
use Rattle.text.specs.Verdict.{Verdict, fine, refused}
use Rattle.pieces.specs.Pieces.{split, joined}
use Rattle.pieces.specs.Demands.{Free}
use Rattle.pieces.proofs.PieceLaws.{first_free, split_nil, one_text_lem, more_text, more_rest}
use Rattle.record.specs.Ending.{Ending, nothing, feed, return_feed, ending_bytes, ending_number}
use Rattle.line.specs.Line.{Line, line, required, last_verdict, verdict, field_places, all_utf8, judged_answer, line_of, line_answer, read_answer}
use Rattle.line.specs.Demands.{
  FirstFeed,
  NoFeed,
  PastLine,
  past_feed,
  at_end,
  EmptyTab,
  GoesOn,
  stays_1,
  stays_6,
  line_0,
  line_5,
  feed_2,
  tab_2,
  feed_3,
  end_4,
  Moved,
  MovesOn,
}
use Rattle.record.proofs.EndingLaws.{nothing_bytes, feed_bytes, return_feed_bytes}
use Rattle.line.proofs.LineLaws.{read_beyond, read_end, read_line, AtFeed, none, one, at_feed, BeforeFeed, plain, returned, before_feed}
use Rattle.line.proofs.ColumnLaws.{line_end, line_feed}

-- ---- a text that stands in the input from a place on

module _ (s : List ℕ) (from : ℕ) (c r : List ℕ) (e : drop from s ≡ c ++ r) where
  -- where it is free of a byte, that byte does not stand there
  free_there : (b : ℕ) → Free b c → (k : ℕ) → from ≤ k → k < from + length c → get_or s k 0 ≡ b → ⊥
  free_there b f k h l i =
      let p : from + (k - from) ≡ k = omega arith in
      let q : k - from < length c = omega arith in
      f.free (k - from) q (sym (get_or-append c r 0 (k - from) q) ∙ rw (← e, get_or-drop from s (k - from) 0, p) i)

module _ (s : List ℕ) (from : ℕ) (c : List ℕ) (b : ℕ) (r : List ℕ) (e : drop from s ≡ c ++ b ∷ r) where
  -- the byte behind it
  behind : get_or s (from + length c) 0 ≡ b
  behind = rw (← get_or-drop from s (length c) 0, e) (get_or-append_seam c b r 0)

  -- stands in the input
  behind_within : from + length c < length s
  behind_within = let l = length-drop from s in omega (arith, simp length-append at (ap length e))

  -- what stands further on
  behind_rest : drop (from + length c + 1) s ≡ r
  behind_rest = rw (add_assoc, ← drop-drop (length c + 1) from s, e) (drop-append-add c (b ∷ r) 1)

-- the LF behind a text free of LF is the first
pub first_fed : (s : List ℕ) (at : ℕ) (t rest : List ℕ) → Free 10 t → drop at s ≡ t ++ 10 ∷ rest → FirstFeed s at (at + length t)
first_fed s at t rest f d =
    record {
      after = omega arith;
      within = behind_within s at t 10 rest d;
      is = behind s at t 10 rest d;
      first = free_there s at t (10 ∷ rest) d 10 f;
    }

-- ---- no tab has ended an empty column

-- up to the place, at which a column starts
record Upto (s : List ℕ) (at from : ℕ) : Type 0 where
  after : at ≤ from
  start : (from ≡ at) ⊎ ((at < from) × (get_or s (from - 1) 0 ≡ 9))
  never : (k : ℕ) → k < from → EmptyTab s at k → ⊥

-- at the line's start
first : {s : List ℕ} {at : ℕ} → Upto s at at
first = record { after = omega arith; start = inl refl; never = λ k h t. omega arith }

module _ (s : List ℕ) {at from : ℕ} (u : Upto s at from) where
  -- nor in a text free of tabs
  clear : (c r : List ℕ) → drop from s ≡ c ++ r → Free 9 c → (k : ℕ) → k < from + length c → EmptyTab s at k → ⊥
  clear c r e f k h t = by (ltb k from) refl
    where
      by : (x : Bool) → ltb k from ≡ x → ⊥
      by true x = u.never k (ltb-true k from x) t
      by false x = free_there s from c r e 9 f k (ltb-false k from x) h t.is

  -- nor by the tab behind it, where it is not empty
  turn : (c r : List ℕ) → drop from s ≡ c ++ 9 ∷ r → Free 9 c → 0 < length c → Upto s at (from + length c + 1)
  turn c r e f n = record { after = omega arith; start = inr (omega arith, rw past (behind s from c 9 r e)); never = by }
    where
      past : from + length c + 1 - 1 ≡ from + length c
      past = omega arith

      here : (k : ℕ) → k ≡ from + length c → (k ≡ at) ⊎ ((at < k) × (get_or s (k - 1) 0 ≡ 9)) → ⊥
      here k h (inl i) = omega arith
      here k h (inr (l, i)) = free_there s from c (9 ∷ r) e 9 f (k - 1) (omega arith) (omega arith) i

      by : (k : ℕ) → k < from + length c + 1 → EmptyTab s at k → ⊥
      by k h t = or (ltb k (from + length c)) refl
        where
          or : (x : Bool) → ltb k (from + length c) ≡ x → ⊥
          or true x = clear c (9 ∷ r) e f k (ltb-true _ _ x) t
          or false x = here k (omega (arith, ltb-false k (from + length c) x)) t.empty

-- ---- how the line ends

-- its LF; no tab stands between the text's end and it
record Feeds (s : List ℕ) (at end past : ℕ) : Type 0 where
  feed_at : ℕ
  first_feed : FirstFeed s at feed_at
  past_it : past ≡ feed_at + 1
  after_text : end ≤ feed_at
  no_tab : (k : ℕ) → end ≤ k → k < feed_at → get_or s k 0 ≡ 9 → ⊥

-- by the end of the input, by LF, or by CR LF
data Closed (s : List ℕ) (at end past : ℕ) : Ending → Type 0 where
  by_end : NoFeed s at → past ≡ length s → Closed s at end past nothing
  by_feed : Feeds s at end past → Closed s at end past feed
  by_return : Feeds s at end past → Closed s at end past return_feed

-- past the line
line_past : {s : List ℕ} {at end past : ℕ} {e : Ending} → Closed s at end past e → PastLine s at past
line_past (by_end n p) = rw p (at_end n)
line_past (by_feed f) = rw f.past_it (past_feed f.first_feed)
line_past (by_return f) = rw f.past_it (past_feed f.first_feed)

-- no LF in the text
text_unfed : {s : List ℕ} {at end past : ℕ} {e : Ending} → Closed s at end past e → end ≤ length s → (k : ℕ) → at ≤ k → k < end → get_or s k 0 ≡ 10 → ⊥
unfolding NoFeed
text_unfed (by_end n p) h k a l = n k a (omega arith)
text_unfed (by_feed f) h k a l = f.first_feed.first k a (omega arith)
text_unfed (by_return f) h k a l = f.first_feed.first k a (omega arith)

-- ---- where a verdict leads

data Leads (s : List ℕ) (at : ℕ) : Verdict → Type 0 where
  fine_leads : Leads s at fine
  refused_leads : {n next : ℕ} → GoesOn s at n next → Leads s at (refused n next)

pick_leads : {s : List ℕ} {at : ℕ} {v w : Verdict} (t : Bool) → Leads s at v → Leads s at w → Leads s at (pick t v w)
pick_leads true v w = v
pick_leads false v w = w

module _ {s : List ℕ} {at end past : ℕ} (never : (k : ℕ) → k < end → EmptyTab s at k → ⊥) where
  -- an LF ends the last column too soon, or an empty one
  fed_leads : Feeds s at end past → (t c : Bool) → Leads s at (pick t (refused 3 past) (pick c (refused 2 past) fine))
  fed_leads f t c =
      rw f.past_it
      (pick_leads t (refused_leads (feed_3 f.first_feed)) (pick_leads c (refused_leads (feed_2 f.first_feed none_before)) fine_leads))
    where
      none_before : (k : ℕ) → k < f.feed_at → EmptyTab s at k → ⊥
      none_before k h t = by (ltb k end) refl
        where
          by : (x : Bool) → ltb k end ≡ x → ⊥
          by true x = never k (ltb-true k end x) t
          by false x = f.no_tab k (ltb-false k end x) h t.is

  -- the last column
  last_leads : {e : Ending} → Closed s at end past e → (k : ℕ) (c : List ℕ) → Leads s at (last_verdict k c e past)
  unfolding last_verdict
  last_leads (by_end n p) k c = rw p (pick_leads (required k || is_empty c) (refused_leads (end_4 n)) fine_leads)
  last_leads (by_feed f) k c = fed_leads f (required k) (is_empty c)
  last_leads (by_return f) k c = fed_leads f (required k) (is_empty c)

-- ---- the columns

module _ (t : List ℕ) {c : List ℕ} where
  -- a tab follows the first of several, and then the others
  module _ {b : List ℕ} {cs : List (List ℕ)} (h : split 9 t ≡ c ∷ b ∷ cs) where
    several : (r : List ℕ) → t ++ r ≡ c ++ 9 ∷ (joined 9 (b ∷ cs) ++ r)
    several r = rw (more_text 9 t h) (append_assoc c (9 ∷ joined 9 (b ∷ cs)) r)

    several_length : length t ≡ length c + 1 + length (joined 9 (b ∷ cs))
    several_length = omega (arith, simp length-append at (ap length (more_text 9 t h)))

module _ {s : List ℕ} {at end past : ℕ} {e : Ending} (x : Closed s at end past e) where
  -- an empty column with a tab behind it
  empty_leads : {from : ℕ} {r : List ℕ} → Upto s at from → drop from s ≡ 9 ∷ r → from < end → end ≤ length s → GoesOn s at 2 (from + 1)
  empty_leads {from} {r} u d h l =
      tab_2
      (record {
        tab = from;
        past = refl;
        within = omega arith;
        here = record { after = u.after; is = rw add-zero at (behind s from [] 9 r d); empty = u.start };
        first = u.never;
        unfed = λ k a b. text_unfed x l k a (omega arith);
      })

  -- the columns from a place on, up to which no tab ends an empty one
  columns_lead : (cs : List (List ℕ)) (k from : ℕ) (t r : List ℕ) → Upto s at from → split 9 t ≡ cs → drop from s ≡ t ++ r → end ≡ from + length t → end ≤ length s
      → Leads s at (verdict k from cs e past)
  unfolding verdict
  columns_lead [] k from t r u h d p l = absurd (split_nil 9 t h)
  columns_lead (c ∷ []) k from t r u h d p l = last_leads (rw (p, one_text_lem 9 h) (clear s u c r (rw (one_text_lem 9 h) at d) (first_free 9 t h))) x k c
  columns_lead ([] ∷ b ∷ cs) k from t r u h d p l = rw (none_empty [] refl) (refused_leads (empty_leads u (d ∙ several t h r) (omega (arith, several_length t h)) l))
  columns_lead ((a ∷ c) ∷ b ∷ cs) k from t r u h d p l =
      rw (some_empty (a ∷ c) (omega arith))
      (columns_lead (b ∷ cs) (k + 1) (from + length (a ∷ c) + 1) (joined 9 (b ∷ cs)) r (turn s u (a ∷ c) _ (d ∙ several t h r) (first_free 9 t h) (omega arith))
      (more_rest 9 t h) (behind_rest s from (a ∷ c) 9 _ (d ∙ several t h r)) (omega (arith, several_length t h)) l)

-- ---- the answer

module _ {s : List ℕ} {at : ℕ} (h : at < length s) where
  -- from a place in the input every number goes on further
  further_within : {n next : ℕ} → GoesOn s at n next → (at < next) × (next ≤ length s)
  further_within (stays_1 e) = absurd (omega arith)
  further_within (stays_6 l) = absurd (omega arith)
  further_within (line_0 (past_feed f)) = (omega arith, omega arith)
  further_within (line_0 (at_end n)) = (omega arith, omega arith)
  further_within (line_5 (past_feed f)) = (omega arith, omega arith)
  further_within (line_5 (at_end n)) = (omega arith, omega arith)
  further_within (feed_2 f n) = (omega arith, omega arith)
  further_within (tab_2 t) = (omega arith, omega arith)
  further_within (feed_3 f) = (omega arith, omega arith)
  further_within (end_4 n) = (omega arith, omega arith)

  -- so an answer that goes on as its number says is as asked
  goes_moved : {n next : ℕ} {others : List ℕ} → ((n ≡ 0 → ⊥) → others ≡ []) → GoesOn s at n next → Moved s at (says n (next ∷ others))
  goes_moved {next = next} {others = others} o g =
      let f = further_within g in
      record { next = next; others = others; values = refl; alone = o; goes = g; further = λ a b. f.0; within = λ a. f.1 }

  -- so is the answer to a verdict
  judged_moved : {v : Verdict} {past : ℕ} → Leads s at v → PastLine s at past → (from end : ℕ) (cs : List (List ℕ)) (e : Ending) → Moved s at (judged_answer v from end cs e past)
  unfolding judged_answer
  judged_moved (refused_leads g) p from end cs e = goes_moved (λ z. refl) g
  judged_moved {past = past} fine_leads p from end cs e = by (all_utf8 cs)
    where
      by : (t : Bool) → Moved s at (pick t (says 0 (past ∷ ending_number e ∷ field_places from cs end)) (says 5 (past ∷ [])))
      by true = goes_moved (λ z. absurd (z refl)) (line_0 p)
      by false = goes_moved (λ z. refl) (line_5 p)

  -- a line whose text stands at the place
  line_goes : (t : List ℕ) (e : Ending) (rest r : List ℕ) → drop at s ≡ t ++ r → Closed s at (at + length t) (at + length t + length (ending_bytes e)) e
      → Moved s at (line_answer at (line t e rest))
  unfolding line_answer
  line_goes t e rest r d x =
      let l : at + length t ≤ length s = omega (arith, length-drop at s, simp length-append at (ap length d)) in
      judged_moved (columns_lead x (split 9 t) 1 at t r first refl d refl l) (line_past x) at (at + length t) (split 9 t) e

  -- no LF is left
  all_goes : Free 10 (drop at s) → Moved s at (line_answer at (line_of (drop at s)))
  unfolding NoFeed
  all_goes f =
      let d : drop at s ≡ drop at s ++ [] = sym (append-nil (drop at s)) in
      let l : at + length (drop at s) ≡ length s = simp length-drop (omega arith) in
      let n = ap length nothing_bytes in
      rw (line_end _ f)
      (line_goes (drop at s) nothing [] [] d
      (by_end (λ k a b. free_there s at (drop at s) [] d 10 f k a (omega arith)) (omega arith)))

  -- the first LF stands behind a text
  fed_goes : (t rest : List ℕ) → Free 10 t → drop at s ≡ t ++ 10 ∷ rest → Moved s at (line_answer at (line_of (drop at s)))
  fed_goes t rest f d = rw (d, line_feed t rest f) (by (before_feed t rest))
    where
      it : FirstFeed s at (at + length t)
      it = first_fed s at t rest f d

      by : {l : Line} → BeforeFeed t rest l → Moved s at (line_answer at l)
      by plain =
          let n = ap length feed_bytes in
          line_goes t feed rest (10 ∷ rest) d
          (by_feed (record { feed_at = at + length t; first_feed = it; past_it = omega arith; after_text = omega arith; no_tab = λ k a b. absurd (omega arith) }))
      by (returned {u} e) =
          let there : drop at s ≡ u ++ 13 ∷ 10 ∷ rest = d ∙ rw e (append_snoc u 13 (10 ∷ rest)) in
          let n = simp length-append at (ap length e) in
          let m = ap length return_feed_bytes in
          line_goes u return_feed rest (13 ∷ 10 ∷ rest) there
          (by_return
          (record {
            feed_at = at + length t;
            first_feed = it;
            past_it = omega arith;
            after_text = omega arith;
            no_tab = λ k a b i. (let z : k ≡ at + length u = omega arith in omega (arith, behind s at u 13 (10 ∷ rest) there, rw z at i));
          }))

  line_moves : AtFeed (drop at s) → Moved s at (read_answer s at)
  line_moves (none f) = rw (read_line s at h) (all_goes f)
  line_moves (one t rest f d) = rw (read_line s at h) (fed_goes t rest f d)

module _ (s : List ℕ) (at : ℕ) where
  end_moves : at ≡ length s → Moved s at (read_answer s at)
  end_moves e =
      rw (read_end s at e)
      (record { next = at; others = []; values = refl; alone = λ z. refl; goes = stays_1 e; further = λ a. absurd (a refl); within = λ a. omega arith })

  beyond_moves : length s < at → Moved s at (read_answer s at)
  beyond_moves h =
      rw (read_beyond s at h)
      (record { next = at; others = []; values = refl; alone = λ z. refl; goes = stays_6 h; further = λ a b. absurd (b refl); within = λ a. absurd (a refl) })

  placed : (x y : Bool) → ltb (length s) at ≡ x → ltb at (length s) ≡ y → Moved s at (read_answer s at)
  placed true y p q = beyond_moves (ltb-true _ _ p)
  placed false true p q = line_moves (ltb-true _ _ q) (at_feed (drop at s))
  placed false false p q = end_moves (omega (arith, ltb-false (length s) at p, ltb-false at (length s) q))

  pub read_moved : Moved s at (read_answer s at)
  read_moved = placed (ltb (length s) at) (ltb at (length s)) refl refl

pub moves_on : MovesOn read_answer
unfolding MovesOn
moves_on = read_moved

-- 0 only from a place in the input
pub zero_inside : (s : List ℕ) (at : ℕ) → number_of (read_answer s at) ≡ 0 → at < length s
zero_inside s at z =
    let m = read_moved s at in
    let a = m.further (λ e. omega arith) (λ e. omega arith) in
    let b = m.within (λ e. omega arith) in
    omega arith

-- ---- which numbers go where

-- 1 at the end and 6 beyond it, both at the place given; else 0, or a refusal
pub data Way (s : List ℕ) (at n next : ℕ) : Type 0 where
  ended : at ≡ length s → n ≡ 1 → next ≡ at → Way s at n next
  beyond : length s < at → n ≡ 6 → next ≡ at → Way s at n next
  inside : (n ≡ 0) ⊎ ((2 ≤ n) × (n ≤ 5)) → Way s at n next

pub way : {s : List ℕ} {at n next : ℕ} → GoesOn s at n next → Way s at n next
way (stays_1 e) = ended e refl refl
way (stays_6 l) = beyond l refl refl
way (line_0 p) = inside (inl refl)
way (line_5 p) = inside (inr (omega arith, omega arith))
way (feed_2 f p) = inside (inr (omega arith, omega arith))
way (tab_2 p) = inside (inr (omega arith, omega arith))
way (feed_3 p) = inside (inr (omega arith, omega arith))
way (end_4 p) = inside (inr (omega arith, omega arith))

-- 6 only from a place beyond the input
pub six_beyond : (s : List ℕ) (at : ℕ) → number_of (read_answer s at) ≡ 6 → length s < at
six_beyond s at z = by (way (read_moved s at).goes)
  where
    by : {next : ℕ} → Way s at (number_of (read_answer s at)) next → length s < at
    by (ended e n p) = absurd (omega arith)
    by (beyond l n p) = l
    by (inside x) = absurd (⊎_elim (λ n. omega arith) (λ n. omega arith) x)
