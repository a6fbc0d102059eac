-- Joining: each way through each function is a law of the definitions; the columns still to judge stand for all of them. Assumes nothing.
use Prim.Native.Nat.{ℕ, ◌+◌, ◌-◌, ◌^◌, ◌<◌, ◌≤◌, zero-le}
use mathlib.Core.Path.{◌≡◌, refl, sym, ◌∙◌}
use mathlib.Core.Bool.{Bool, true, false, ◌&&◌, ◌||◌, not, false≢true}
use mathlib.Core.List.{List, [], ◌∷◌, ◌++◌}
use native.Mathlib.Omega.{arith}
use native.Mathlib.Decide.{dec_le, dec_lt}
use mir.Syntax.{w64}
use mir.Val.{Fits}
use lib.ListN.{length, get_or, take, drop, set, length-append, length-drop}
use lib.Dec.{leb, ltb, eqb}
use borrow.Author.Tests.{eqb-true, eqb-false, lt-ltb, le-ltb, le-leb, lt-leb, eq-eqb, ne_eqb, not-true, not-false}
use borrow.Rule.Slice.PartMut.{put_mid}
use Rattle.std.specs.Prelude.{Result, Ok, Err}
use Rattle.std.specs.Result.{is_ok}
use Rattle.text.specs.Pick.{pick}
use Rattle.text.specs.Answer.{Answer, says, number_of}
use Rattle.text.specs.Over.{over, over_at, room_for}
use Rattle.text.specs.Bytes.{ends_in}
use Rattle.text.specs.Utf8.{is_utf8, utf8_answer}
use Rattle.text.specs.Paper.{utf8_paper}
use Rattle.text.specs.declared.utf8.NotUtf8.{NotUtf8}
use Rattle.text.proofs.ByteLaws.{none_empty, ends_none, ends_at}
use Rattle.text.proofs.CharLaws.{told_text, told_broken}
use Rattle.text.proofs.CopyLaws.{room_sized}
use Rattle.text.proofs.Lists.{rest_all, length_rest, rest_put, over_nil, over_is, over_at_one, over_at_start, over_at_append, length_over_at}
use Rattle.text.specs.Verdict.{fine, fitted}
use mathlib.Core.Logic.{inl, inr, ⊎_elim}
use Rattle.record.specs.Ending.{Ending, ending_bytes}
use Rattle.record.specs.Paper.{ending_of}
use Rattle.record.specs.declared.ending.Ending.{Ending as DeclaredEnding}
use Rattle.record.specs.declared.ending.Ending.TheVariants as E
use Rattle.line.specs.Line.{required}
use Rattle.record.proofs.EndingLaws.{nothing_bytes, feed_bytes, return_feed_bytes}
use Rattle.line.proofs.ColumnLaws.{required_count, count_required}
use Rattle.pieces.specs.Pieces.{joined}
use Rattle.pieces.specs.Inner.{quiet_length, Quiet}
use Rattle.pieces.proofs.EitherLaws.{either_quiet, either_second}
use Rattle.entries.specs.Entries.{rising, entry_list}
use Rattle.entries.specs.Inner.{ends_answer, start_of}
use Rattle.entries.specs.Paper.{ends_paper}
use Rattle.entries.specs.declared.entries.WrongEnds.{WrongEnds}
use Rattle.entries.proofs.EntryLaws.{start_later, entries_length, entry_here, entry_past, ends_tell}
use Rattle.entries.proofs.JoinedLaws.{list_length}
use Rattle.join.specs.Join.{is_bad, loses_return, column_judged, columns_judged, line_text, columns_answer, list_answer, join_answer, JoinsAt}
use Rattle.join.specs.Inner.{Fine}
use Rattle.join.specs.Paper.{joined_paper}
use Rattle.join.specs.declared.columns.JoinError.{JoinError}
use Rattle.join.specs.declared.columns.JoinError.TheVariants as J
use Rattle.join.proofs.FaultLaws.{bad_column, column_bad, is_last, judged_cons, Done, columns_done}

-- ---- one column

module _ (c : List ℕ) where
  pub bad_empty : length c ≡ 0 → true ≡ is_bad c
  unfolding is_bad
  bad_empty h = rw (none_empty c h)

  -- a column that is not empty is bad where the search for a tab or an LF ends before its end
  pub bad_found : {r : ℕ} → (length c ≡ 0 → ⊥) → r ≡ 0 + quiet_length 9 10 (drop 0 c) → ltb r (length c) ≡ is_bad c
  bad_found {r} h e = by (dec_lt r (length c))
    where
      quiet : Quiet 9 10 c 0 r
      quiet = either_quiet 9 10 c 0 (omega arith) e

      struck : r < length c → (b : Bool) → is_bad c ≡ b → b ≡ true
      struck l true q = refl
      struck l false q =
          let g = bad_column c q in
          absurd (g.no_feed.free r l (either_second 9 10 c 0 (omega arith) e l (g.no_tab.free r l)))

      by : Dec (r < length c) → ltb r (length c) ≡ is_bad c
      by (yes l) = lt-ltb r (length c) l ∙ sym (struck l (is_bad c) refl)
      by (no l) =
          le-ltb r (length c) (omega arith)
          ∙ sym (column_bad c (record {
            some = omega arith;
            no_tab = record { free = λ k m. quiet.no_first k (omega arith) (omega arith) };
            no_feed = record { free = λ k m. quiet.no_second k (omega arith) (omega arith) };
          }))

  pub return_none : length c < 1 → false ≡ ends_in 13 c
  return_none h = sym (ends_none 13 c (omega arith))

  pub return_not : 1 ≤ length c → (get_or c (length c - 1) 0 ≡ 13 → ⊥) → false ≡ ends_in 13 c
  return_not h n = sym (ends_at 13 c (omega arith) ∙ ne_eqb _ 13 n)

  pub return_byte : 1 ≤ length c → get_or c (length c - 1) 0 ≡ 13 → true ≡ ends_in 13 c
  return_byte h e = sym (ends_at 13 c (omega arith) ∙ eq-eqb _ 13 e)

  pub loses_feed : {x : DeclaredEnding} {u : Bool} → x ≡ E.Feed → u ≡ ends_in 13 c → u ≡ loses_return (ending_of x) c
  unfolding loses_return
  loses_feed q f = rw q f

  pub utf8_is : (x : Result Unit NotUtf8) {b : Bool} → b ≡ is_ok x → utf8_paper x ≡ utf8_answer c → b ≡ is_utf8 c
  utf8_is (Ok u) q e = q ∙ sym (told_text c e)
  utf8_is (Err n) q e = q ∙ sym (told_broken c e)

-- ---- the columns of a list

pub count_eight : (n : ℕ) → n ≡ 8 → true ≡ not (required n)
count_eight n e = rw (count_required (inl e))

pub count_ten : (n : ℕ) → (n ≡ 8 → ⊥) → leb 10 n ≡ not (required n)
count_ten n h = by (required n) refl
  where
    by : (q : Bool) → required n ≡ q → leb 10 n ≡ not q
    by true e = lt-leb 10 n (elim (dec_le 10 n) [ yes l ↦ absurd (false≢true (sym (count_required (inr l)) ∙ e)) | no l ↦ omega arith ])
    by false e = le-leb 10 n (⊎_elim (λ z. absurd (h z)) (λ l. l) (required_count n e))

pub count_some : (n : ℕ) {u : Bool} → u ≡ not (required n) → u ≡ true → 0 < n
count_some n e y = ⊎_elim (λ z. omega arith) (λ l. omega arith) (required_count n (not-true _ (sym e ∙ y)))

pub last_is : (ends : List ℕ) → 0 < length ends → get_or ends (length ends - 1) 0 ≡ start_of ends (length ends)
last_is ends h = start_later ends (length ends) (λ e. omega arith)

last_length : (cs : List (List ℕ)) {k : ℕ} → k ≡ length cs → is_last cs ≡ eqb k 0
unfolding is_last
last_length [] e = rw e
last_length (c ∷ cs) {k} e = sym (ne_eqb k 0 (λ z. omega arith))

module _ (t ends : List ℕ) (i : ℕ) (h : i < length ends) where
  column_last : is_last (drop (i + 1) (entry_list t ends)) ≡ eqb (i + 1) (length ends)
  column_last = by (eqb (i + 1) (length ends)) refl
    where
      left : length ends - (i + 1) ≡ length (drop (i + 1) (entry_list t ends))
      left = rw (length-drop, entries_length)

      by : (b : Bool) → eqb (i + 1) (length ends) ≡ b → is_last (drop (i + 1) (entry_list t ends)) ≡ b
      by true e = let z = eqb-true (i + 1) (length ends) e in last_length _ left ∙ eq-eqb (length ends - (i + 1)) 0 (omega arith)
      by false e = let z = eqb-false (i + 1) (length ends) e in last_length _ left ∙ ne_eqb (length ends - (i + 1)) 0 (λ y. z (omega arith))

-- ---- judging the columns

-- what is answered of the columns of a list, by 18, 5 and 17
abbrev pub judged_answer : List ℕ → List ℕ → Ending → List ℕ → Answer
judged_answer t ends e l = fitted (columns_judged 0 (entry_list t ends) e) (line_text (entry_list t ends) e) l

-- the columns from i on are judged as all are from 0 on
pub record Judging (t ends : List ℕ) (e : Ending) (i : ℕ) : Type 0 where
  pub within : i ≤ length ends
  pub same : columns_judged i (drop i (entry_list t ends)) e ≡ columns_judged 0 (entry_list t ends) e

pub judge_first : {t ends : List ℕ} {e : Ending} → Judging t ends e 0
judge_first = record { within = zero-le; same = refl }

module _ {t ends : List ℕ} {e : Ending} {i : ℕ} {c : List ℕ} {x : Bool} (g : Judging t ends e i) (h : i < length ends) (q : c ≡ get_or (entry_list t ends) i [])
    (f : x ≡ (is_bad c || (eqb (i + 1) (length ends) && loses_return e c))) where
  judge_here : column_judged i x c (columns_judged (i + 1) (drop (i + 1) (entry_list t ends)) e) ≡ columns_judged 0 (entry_list t ends) e
  judge_here =
      rw (f, ← column_last t ends i h, q)
      (sym (judged_cons i (get_or (entry_list t ends) i []) (drop (i + 1) (entry_list t ends)) e)
      ∙ (rw (entry_here t ends i h) at g.same))

  pub judge_bad : (l : List ℕ) → x ≡ true → joined_paper (Err (J.Bad i)) ≡ judged_answer t ends e l
  unfolding joined_paper column_judged
  judge_bad l y = rw (← judge_here, y)

  module _ {u : Bool} (n : x ≡ false) (v : u ≡ is_utf8 c) where
    pub judge_broken : (l : List ℕ) → not u ≡ true → joined_paper (Err (J.NotUtf8 i)) ≡ judged_answer t ends e l
    unfolding joined_paper column_judged
    judge_broken l w = rw (← judge_here, n, ← v, not-true u w)

    pub judge_turn : not u ≡ false → Judging t ends e (i + 1)
    unfolding column_judged
    judge_turn w = record { within = omega arith; same = rw (n, ← v, not-false u w) at judge_here }

-- ---- the room

module _ (end tabs size room : ℕ) where
  pub fit_short : room < end + tabs + size → joined_paper (Err J.Short) ≡ room_for (end + tabs + size) room
  unfolding joined_paper
  fit_short h = rw (lt-leb _ _ h)

  module _ (h : end ≤ room) (l : tabs ≤ room - end) {n : ℕ} (e : n ≡ size) (k : n ≤ room - end - tabs) where
    pub fit_tabs : room < 2 ^ 64 → Fits w64 (end + tabs)
    fit_tabs z = record { fits = omega arith }

    pub fit_all : room < 2 ^ 64 → Fits w64 (end + tabs + n)
    fit_all z = record { fits = omega arith }

  pub fit_done : {n : ℕ} → n ≡ size → end ≤ room → tabs ≤ room - end → n ≤ room - end - tabs → joined_paper (Ok (end + tabs + n)) ≡ room_for (end + tabs + size) room
  unfolding joined_paper
  fit_done e h l k = rw (le-leb (end + tabs + size) room (omega arith), e)

-- ---- the line

-- as long as the text up to the last end, a tab for each column but one, and the ending
line_length : (t ends : List ℕ) (e : Ending) → rising 0 ends (length t) ≡ true → 0 < length ends
    → length (line_text (entry_list t ends) e) ≡ start_of ends (length ends) + (length ends - 1) + length (ending_bytes e)
unfolding line_text
line_length t ends e r s =
    let n = list_length 9 t ends r (λ z. omega arith) in
    let q = last_is ends s in
    length-append (joined 9 (entry_list t ends)) (ending_bytes e) ∙ omega arith

-- ---- the answer after the columns

module _ (t ends : List ℕ) (e : Ending) (l : List ℕ) (r : rising 0 ends (length t) ≡ true) (s : 0 < length ends) (f : columns_judged 0 (entry_list t ends) e ≡ fine) where
  all_room : (x : Result ℕ JoinError) {end : ℕ} → end ≡ start_of ends (length ends) → joined_paper x ≡ room_for (end + (length ends - 1) + length (ending_bytes e)) (length l)
      → joined_paper x ≡ judged_answer t ends e l
  all_room x {end} q g = let n = line_length t ends e r s in g ∙ rw f (room_sized (line_text (entry_list t ends) e) l (omega arith))

module _ {t ends : List ℕ} {e : Ending} {i : ℕ} (l : List ℕ) (g : Judging t ends e i) (r : rising 0 ends (length t) ≡ true) (s : 0 < length ends) (h : length ends ≤ i) where
  all_fine : columns_judged 0 (entry_list t ends) e ≡ fine
  unfolding columns_judged
  all_fine = sym g.same ∙ rw (entry_past t ends i h)

  pub judge_room : (x : Result ℕ JoinError) {end : ℕ} → end ≡ start_of ends (length ends) → joined_paper x ≡ room_for (end + (length ends - 1) + length (ending_bytes e)) (length l)
      → joined_paper x ≡ judged_answer t ends e l
  judge_room x q f = all_room t ends e l r s all_fine x q f

-- ---- the answer for a list

module _ (t ends : List ℕ) {u : Bool} (n : u ≡ not (required (length ends))) where
  module _ (r : rising 0 ends (length t) ≡ true) where
    list_told : (e : Ending) (l : List ℕ) (x : Result ℕ JoinError) → u ≡ true → joined_paper x ≡ judged_answer t ends e l → joined_paper x ≡ list_answer t ends e l
    unfolding list_answer columns_answer
    list_told e l x y f = rw (r, entries_length, not-true (required (length ends)) (sym n ∙ y)) f

  -- where no column is refused, as is seen at once
  pub list_fine : {e : Ending} {b : Bool} (l : List ℕ) (x : Result ℕ JoinError) {end : ℕ} → u ≡ true → (b ≡ true → Fine t ends e) → b ≡ true → end ≡ start_of ends (length ends)
      → joined_paper x ≡ room_for (end + (length ends - 1) + length (ending_bytes e)) (length l) → joined_paper x ≡ list_answer t ends e l
  list_fine {e} l x y f z q g = let k = f z in list_told k.rises e l x y (all_room t ends e l k.rises (count_some (length ends) n y) k.judged x q g)

module _ (t ends : List ℕ) {x : Result Unit WrongEnds} (p : ends_paper x ≡ ends_answer t ends) where
  pub list_wrong : (e : Ending) (l : List ℕ) {w : WrongEnds} → x ≡ Err w → joined_paper (Err J.Wrong) ≡ list_answer t ends e l
  unfolding joined_paper list_answer
  list_wrong e l q = rw (rw q at (ends_tell t ends x p))

  module _ {v : Unit} (q : x ≡ Ok v) where
    pub list_rising : rising 0 ends (length t) ≡ true
    list_rising = rw q at (ends_tell t ends x p)

    module _ {u : Bool} (n : u ≡ not (required (length ends))) where
      pub list_few : (e : Ending) (l : List ℕ) → u ≡ false → joined_paper (Err J.Few) ≡ list_answer t ends e l
      unfolding joined_paper list_answer columns_answer
      list_few e l y = rw (list_rising, entries_length, not-false (required (length ends)) (sym n ∙ y))

      pub list_columns : (e : Ending) (l : List ℕ) (r : Result ℕ JoinError) → u ≡ true → joined_paper r ≡ judged_answer t ends e l → joined_paper r ≡ list_answer t ends e l
      list_columns = list_told t ends n list_rising

-- ---- the ending

module _ {x : DeclaredEnding} (l : List ℕ) where
  pub put_nothing : x ≡ E.Nothing → l ≡ over (ending_bytes (ending_of x)) l
  put_nothing q = rw (q, nothing_bytes) (sym (over_nil l))

  pub feed_room : x ≡ E.Feed → length (ending_bytes (ending_of x)) ≤ length l → 1 ≤ length l
  feed_room q h = rw (q, feed_bytes) at h

  pub return_room : x ≡ E.ReturnFeed → length (ending_bytes (ending_of x)) ≤ length l → 2 ≤ length l
  return_room q h = rw (q, return_feed_bytes) at h

  module _ (h : length (ending_bytes (ending_of x)) ≤ length l) where
    pub put_feed : x ≡ E.Feed → set l 0 10 ≡ over (ending_bytes (ending_of x)) l
    put_feed q = rw (q, feed_bytes) (sym (over_at_one l 0 10 (feed_room q h)) ∙ over_at_start (10 ∷ []) l)

    pub put_return_feed : {ys : List ℕ} → x ≡ E.ReturnFeed → ys ≡ 13 ∷ 10 ∷ [] → ys ++ drop 2 l ≡ over (ending_bytes (ending_of x)) l
    put_return_feed q e = rw (q, return_feed_bytes, e) (sym (over_is (13 ∷ 10 ∷ []) l))

-- ---- the joiner

-- what an answer that is done tells of a list and the rest of the output
record Ready (t ends : List ℕ) (e : Ending) (l : List ℕ) : Type 0 where
  rises : rising 0 ends (length t) ≡ true
  line : Done (entry_list t ends) e l
  answer : list_answer t ends e l ≡ columns_answer (entry_list t ends) e l

ready : (t ends : List ℕ) (e : Ending) (l : List ℕ) → number_of (list_answer t ends e l) ≡ 0 → Ready t ends e l
unfolding list_answer
ready t ends e l z = by (rising 0 ends (length t)) refl z
  where
    by : (a : Bool) → rising 0 ends (length t) ≡ a → number_of (pick a (columns_answer (entry_list t ends) e l) (says 16 [])) ≡ 0 → Ready t ends e l
    by true r z = record { rises = r; line = columns_done (entry_list t ends) e l z; answer = rw r }
    by false r z = absurd (omega arith)

refusal : (e : JoinError) → eqb (number_of (joined_paper (Err e))) 0 ≡ false
unfolding joined_paper
refusal (J.NotUtf8 i) = refl
refusal J.Beyond = refl
refusal J.Wrong = refl
refusal J.Short = refl
refusal (J.Bad i) = refl
refusal J.Few = refl

module _ (t ends : List ℕ) (e : Ending) (at : ℕ) (out : List ℕ) where
  pub join_beyond : length out < at → JoinsAt t ends e at out (Err J.Beyond) out
  unfolding joined_paper join_answer
  join_beyond h = record { answer = rw (lt-leb _ _ h); bytes = rw (lt-leb _ _ h) }

  module _ (r : Result ℕ JoinError) (h : at ≤ length out) (f : joined_paper r ≡ list_answer t ends e (take (length out - at) (drop at out))) where
    join_answer_lem : join_answer t ends e at out ≡ joined_paper r
    unfolding join_answer
    join_answer_lem = rw (le-leb _ _ h) (sym (rw (rest_all out at) at f))

    pub join_refused : {z : JoinError} → r ≡ Err z → JoinsAt t ends e at out (Err z) out
    join_refused {z} q = record { answer = rw (← q) (sym join_answer_lem); bytes = rw (join_answer_lem, q, refusal z) }

    module _ {n : ℕ} (q : r ≡ Ok n) where
      done : number_of (joined_paper r) ≡ 0
      unfolding joined_paper
      done = rw q

      join_ready : Ready t ends e (take (length out - at) (drop at out))
      join_ready = ready t ends e _ (rw (← f) done)

      join_count : n ≡ length (line_text (entry_list t ends) e)
      unfolding joined_paper
      join_count =
          let z : says 0 (n ∷ []) ≡ says 0 (length (line_text (entry_list t ends) e) ∷ []) = (rw q at f) ∙ join_ready.answer ∙ join_ready.line.answer in
          cc

      -- the columns, and the ending
      join_length : n ≡ length (joined 9 (entry_list t ends)) + length (ending_bytes e)
      unfolding line_text
      join_length = join_count ∙ length-append (joined 9 (entry_list t ends)) (ending_bytes e)

      join_room : at + n ≤ length out
      join_room = let g = join_ready.line.room in let c = join_count in let k = length_rest out at in omega arith

      -- what is asked for writing the columns
      pub join_rises : rising 0 ends (length t) ≡ true
      join_rises = join_ready.rises

      pub join_columns : 0 < length ends
      join_columns = let c = entries_length t ends in ⊎_elim (λ z. omega arith) (λ z. omega arith) join_ready.line.line.shaped.count

      pub join_fit : length (joined 9 (entry_list t ends)) ≤ length (take (length out - at) (drop at out))
      join_fit = let k = join_length in let m = join_room in let s = length_rest out at in omega arith

      pub join_sum : length out < 2 ^ 64 → Fits w64 (at + n)
      join_sum z = let k = join_room in record { fits = omega arith }

      module _ {size : ℕ} (z : size ≡ length (ending_bytes e)) where
        pub join_some : size ≤ at + n
        join_some = let k = join_length in omega arith

        end_is : at + n - size ≡ at + length (joined 9 (entry_list t ends))
        end_is = let k = join_length in omega arith

        module _ {ys : List ℕ} (w : ys ≡ over (joined 9 (entry_list t ends)) (take (length out - at) (drop at out))) where
          -- what the columns leave
          columns_put : put_mid at (length out - at) out ys ≡ over_at at (joined 9 (entry_list t ends)) out
          columns_put = rest_put at (joined 9 (entry_list t ends)) out ys w

          columns_length : length (put_mid at (length out - at) out ys) ≡ length out
          columns_length =
              let k = join_length in
              let m = join_room in
              rw columns_put (length_over_at at (joined 9 (entry_list t ends)) out (omega arith))

          pub join_end : at + n - size ≤ length (put_mid at (length out - at) out ys)
          join_end = let k = join_room in let c = columns_length in omega arith

          pub join_fits : length (ending_bytes e) ≤ length (take (length (put_mid at (length out - at) out ys) - (at + n - size)) (drop (at + n - size) (put_mid at (length out - at) out ys)))
          join_fits =
              let l = length_rest (put_mid at (length out - at) out ys) (at + n - size) in
              let k = join_room in
              let c = columns_length in
              let p = end_is in
              let m = join_length in
              omega arith

          -- and what the ending leaves behind them
          pub join_done : {zs : List ℕ} → zs ≡ over (ending_bytes e) (take (length (put_mid at (length out - at) out ys) - (at + n - size)) (drop (at + n - size) (put_mid at (length out - at) out ys)))
              → JoinsAt t ends e at out (Ok n) (put_mid (at + n - size) (length (put_mid at (length out - at) out ys) - (at + n - size)) (put_mid at (length out - at) out ys) zs)
          unfolding line_text
          join_done {zs} p =
              let k = join_length in
              let m = join_room in
              record {
                answer = rw (← q) (sym join_answer_lem);
                bytes =
                    rest_put (at + n - size) (ending_bytes e) (put_mid at (length out - at) out ys) zs p
                    ∙ rw (end_is, columns_put, join_answer_lem, eq-eqb _ _ done) (sym (over_at_append at (joined 9 (entry_list t ends)) (ending_bytes e) out (omega arith)));
              }

pub ruleset join_laws = (join_beyond, join_refused, join_rises, join_columns, join_fit, join_some, join_sum, join_end, join_fits, join_done)

pub ruleset laws = (bad_empty, bad_found, return_none, return_not, return_byte, loses_feed, utf8_is, count_eight, count_ten, count_some, last_is, judge_first, judge_bad, judge_broken, judge_turn, fit_short, fit_tabs, fit_all, fit_done, judge_room, list_fine, list_wrong, list_rising, list_few, list_columns, put_nothing, feed_room, return_room, put_feed, put_return_feed)
