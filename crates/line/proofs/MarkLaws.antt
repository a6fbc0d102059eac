-- The tabs that the judge keeps: each ends the column that starts past the one before it, as many as there are columns before the
-- one that is judged; so they cut the line's text into its columns. Assumes nothing.
use Prim.Native.Nat.{ℕ, zero, suc, ◌+◌, ◌-◌, ◌≤◌, ◌<◌}
use mathlib.Core.Path.{◌≡◌, refl, sym, ap, ◌∙◌}
use mathlib.Core.Logic.{◌⊎◌, inl, inr}
use mathlib.Core.List.{List, [], ◌∷◌}
use native.Mathlib.Omega.{arith}
use native.Mathlib.Decide.{ℕ_discrete}
use native.Mathlib.Nat.{le_refl}
use Rattle.std.specs.Prelude.{Ok, Err}
use lib.ListN.{length, get_or, set, take, drop, length-set}
use lib.Seq.{get_or-take, get_or-set_same, get_or-set_other, length-take-le}
use Rattle.text.proofs.Lists.{drop_take}
use Rattle.pieces.specs.Pieces.{split}
use Rattle.pieces.proofs.PieceLaws.{part_free, split_whole, split_append}
use Rattle.line.specs.declared.read.Refusal.TheVariants as R
use Rattle.line.specs.Line.{line_of}
use Rattle.line.specs.Inner.{Judged, Clear, Stopped, accepted, judgement_of, judged_paper, InOrder, Unset, Tab, start_of, Told, Marks, Going, Kept, Judging}
use Rattle.line.proofs.ReadLaws.{part_byte, part_no_tab, cut_ends, feed_ends}
use Rattle.line.proofs.AnswerLaws.{order_columns}

-- ---- a tab of the input, in a text that goes beyond it

stopped_take : (s : List ℕ) {from i b end : ℕ} → Stopped s from i b → i < end → end ≤ length s → Stopped (take end s) from i b
stopped_take s {from} {i} {b} {end} g h w =
    record {
      within = (let l = length-take-le end s w in omega arith);
      is = get_or-take end s i 0 h ∙ g.is;
      clear =
          record {
            after = g.clear.after;
            within = (let l = length-take-le end s w in omega arith);
            no_first = λ k p q e. g.clear.no_first k p q (sym (get_or-take end s k 0 (omega arith)) ∙ e);
            no_second = λ k p q e. g.clear.no_second k p q (sym (get_or-take end s k 0 (omega arith)) ∙ e);
          };
    }

tab_stopped : (t : List ℕ) {from i : ℕ} → Stopped t from i 9 → Tab t from i
tab_stopped t {from} {i} g =
    record {
      after = g.clear.after;
      within = g.within;
      columns = ap (split 9) (part_byte t g) ∙ split_append (take (i - from) (drop from t)) (drop (i + 1) t) (part_no_tab t g);
    }

tab_take : (s : List ℕ) {from i end : ℕ} → Stopped s from i 9 → i < end → end ≤ length s → Tab (take end s) from i
tab_take s {end = end} g h w = tab_stopped (take end s) (stopped_take s g h w)

-- ---- the tabs of the columns before column k, which starts at `start`

pub keep_first : {s : List ℕ} {at : ℕ} {tabs : List ℕ} → Unset tabs → Kept s at 1 at tabs
keep_first {s} {at} {tabs} u =
    record {
      numbered = le_refl 1;
      size = u.size;
      each = λ j h l. absurd (omega arith);
      before = λ j h l. absurd (omega arith);
      last = by;
      unset = λ j h. u.naught j;
      count = λ end h l. omega arith;
    }
  where
    by : (j : ℕ) → j + 1 ≡ 1 → j ≤ 9 → start_of at tabs j ≡ at
    by zero e l = refl
    by (suc j) e l = absurd (omega arith)

start_set : (at : ℕ) (tabs : List ℕ) (i a j : ℕ) → j ≤ i → start_of at (set tabs i a) j ≡ start_of at tabs j
start_set at tabs i a zero h = refl
start_set at tabs i a (suc j) h = ap (λ (x : ℕ). x + 1) (get_or-set_other tabs i j a 0 (λ e. omega arith))

module _ {s : List ℕ} {at k start tab : ℕ} {tabs : List ℕ} (g : Kept s at (suc k) start tabs) (h : Stopped s start tab 9) where
  older : (j : ℕ) → j < k → get_or (set tabs k tab) j 0 ≡ get_or tabs j 0
  older j l = get_or-set_other tabs k j tab 0 (λ e. omega arith)

  newest : k < 9 → get_or (set tabs k tab) k 0 ≡ tab
  newest l = get_or-set_same tabs k tab 0 (let n = g.size in omega arith)

  kept_set : Kept s at (suc (suc k)) (tab + 1) (set tabs k tab)
  kept_set =
      record {
        numbered = omega arith;
        size = length-set tabs k tab ∙ g.size;
        each = λ j p l. each (ℕ_discrete j k) p l;
        before = λ j p l. before (ℕ_discrete j k) p l;
        last = last;
        unset = λ j p. get_or-set_other tabs k j tab 0 (λ e. omega arith) ∙ g.unset j (omega arith);
        count = λ end p w.
            (let a = h.clear.after in
            let c = g.count end (omega arith) w in
            let t = ap length (tab_take s h (omega arith) w).columns in
            omega arith);
      }
    where
      each : {j : ℕ} → Dec (j ≡ k) → j + 1 < suc (suc k) → j < 9 → Stopped s (start_of at (set tabs k tab) j) (get_or (set tabs k tab) j 0) 9
      each {j} (yes e) p l =
          rw (e, start_set at tabs k tab k (le_refl k), g.last k (omega arith) (omega arith), newest (omega arith)) h
      each {j} (no n) p l =
          rw (start_set at tabs k tab j (omega arith), older j (omega arith)) (g.each j (omega arith) l)

      before : {j : ℕ} → Dec (j ≡ k) → j + 1 < suc (suc k) → j < 9 → get_or (set tabs k tab) j 0 < tab + 1
      before {j} (yes e) p l = rw e (let n = newest (omega arith) in omega arith)
      before {j} (no n) p l = let o = older j (omega arith) in let b = g.before j (omega arith) l in let a = h.clear.after in omega arith

      last : (j : ℕ) → j + 1 ≡ suc (suc k) → j ≤ 9 → start_of at (set tabs k tab) j ≡ tab + 1
      last zero e l = absurd (omega arith)
      last (suc j) e l = let z : j ≡ k = omega arith in rw (z, newest (omega arith))

pub keep_turn : {s : List ℕ} {at k start tab : ℕ} {tabs tabs' : List ℕ} → Kept s at k start tabs → Stopped s start tab 9
    → tabs' ≡ set tabs (k - 1) tab → Kept s at (k + 1) (tab + 1) tabs'
keep_turn {k = zero} g h e = absurd (let n = g.numbered in omega arith)
keep_turn {s} {at} {k = suc k} {tab = tab} g h e =
    let z : suc k + 1 ≡ suc (suc k) = omega arith in
    let y : suc k - 1 ≡ k = omega arith in
    rw (z, e, y) (kept_set g h)

-- ---- the line's text, cut by them

-- the last column, which starts at `start`, has no tab up to the text's end
record Closed (s : List ℕ) (start end : ℕ) : Type 0 where
  after : start ≤ end
  within : end ≤ length s
  alone : split 9 (drop start (take end s)) ≡ drop start (take end s) ∷ []

closed : {s : List ℕ} {start stop end : ℕ} → Clear s start stop → start ≤ end → end ≤ stop → stop ≤ length s → Closed s start end
closed {s} {start} {stop} {end} c h l w =
    record {
      after = h;
      within = omega arith;
      alone =
          (let f = part_free s 9 start end h (omega arith) (λ k p q. c.no_first k p (omega arith)) in
          rw (drop_take s start end h (omega arith)) (split_whole (take (end - start) (drop start s)) f));
    }

module _ {s : List ℕ} {at k start end : ℕ} {tabs : List ℕ} (g : Kept s at k start tabs) (c : Closed s start end) where
  -- as many columns as were counted
  columns_are : length (split 9 (drop at (take end s))) ≡ k
  columns_are = let n = g.count end c.after c.within in let l = ap length c.alone in omega arith

  tab_text : (j : ℕ) → j + 1 < k → j < 9 → Tab (take end s) (start_of at tabs j) (get_or tabs j 0)
  tab_text j h l = tab_take s (g.each j h l) (let b = g.before j h l in let a = c.after in omega arith) c.within

  told : (k ≡ 8) ⊎ (10 ≤ k) → Told (take end s) at tabs
  told (inl e) =
      record {
        size = g.size;
        seven = λ j l. tab_text j (omega arith) (omega arith);
        eight = λ z. rw (g.last 7 (omega arith) (omega arith)) c.alone;
        nine = λ n. absurd (n (g.unset 7 (omega arith)));
      }
  told (inr h) =
      record {
        size = g.size;
        seven = λ j l. tab_text j (omega arith) (omega arith);
        eight = λ z. absurd (let t = (g.each 7 (omega arith) (omega arith)).clear.after in omega arith);
        nine = λ n j l. tab_text j (omega arith) l;
      }

pub marks_empty : {s : List ℕ} {at next : ℕ} {tabs : List ℕ} → Marks s at (Err (R.Empty next)) tabs
marks_empty = record { told = λ end next e. absurd (let z : ◌≡◌ {A = ℕ} 0 1 = cc in omega arith) }

module _ {s : List ℕ} {at k start : ℕ} {tabs : List ℕ} (a : at ≤ length s) (j : Going s at k start) (g : Kept s at k start tabs) (r : Judged)
    (p : judged_paper r ≡ judgement_of k start (line_of (drop start s))) where
  accepts : {end next : ℕ} → r ≡ Ok (end, next) → judgement_of k start (line_of (drop start s)) ≡ accepted end next
  unfolding judged_paper
  accepts e = sym (rw e at p)

  marked : {end next : ℕ} → r ≡ Ok (end, next) → Closed s start end → Told (take end s) at tabs
  marked {end} {next} e c =
      let o : InOrder s at end next = record { reached = a; judged = sym j.same ∙ accepts e } in
      told g c (rw (columns_are g c) at (order_columns o))

  pub marks_fed : {feed : ℕ} → Stopped s start feed 10 → Marks s at r tabs
  marks_fed {feed} h =
      record {
        told = λ end next e.
            (let f = feed_ends s k start feed h (accepts e) in
            let w = h.within in
            marked e (closed h.clear f.0 f.1 (omega arith)));
      }

  pub marks_cut : Clear s start (length s) → Marks s at r tabs
  marks_cut h =
      record {
        told = λ end next e.
            (let f = cut_ends s k start j.reached h (accepts e) in
            let w = j.reached in
            marked e (closed h (omega arith) (omega arith) (le_refl (length s))));
      }

pub kept_length : {s : List ℕ} {at k start : ℕ} {tabs₀ tabs : List ℕ} → Unset tabs₀ → Judging s at k start tabs → length tabs ≡ length tabs₀
kept_length u g = g.kept.size ∙ sym u.size

pub ruleset laws = (keep_first, keep_turn, kept_length, marks_empty, marks_fed, marks_cut)
