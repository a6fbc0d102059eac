-- The cut of a line is unique, by the text before the first LF; the columns' laws go column by column. Assumes nothing.
use Prim.Native.Nat.{ℕ, zero, suc, ◌+◌, ◌-◌, ◌<◌, ◌≤◌, suc-le-suc}
use mathlib.Core.Path.{◌≡◌, refl, sym, ap, ◌∙◌}
use mathlib.Core.Bool.{Bool, true, false, ◌&&◌, ◌||◌, and-eq-true_iff, and-true, true≢false}
use mathlib.Core.Logic.{◌⊎◌, inl, inr, ⊎_elim}
use mathlib.Core.List.{List, [], ◌∷◌, ◌++◌, append_assoc, append-nil, drop_last}
use native.Mathlib.Omega.{arith}
use native.Mathlib.Decide.{ℕ_discrete}
use lib.ListN.{length, get_or}
use lib.Dec.{leb, eqb}
use borrow.Author.Tests.{leb-false, lt-leb, eqb-false, ne_eqb}
use Rattle.text.specs.Pick.{pick}
use Rattle.text.specs.Bytes.{is_empty, ends_in}
use Rattle.text.specs.Answer.{says}
use Rattle.text.specs.Utf8.{is_utf8}
use Rattle.text.proofs.ByteLaws.{empty_some, some_empty, last_back, ends_behind, ends_last, ends_is}
use Rattle.text.proofs.Demands.{nil_text, parted}
use Rattle.text.specs.Verdict.{Verdict, fine, refused}
use Rattle.pieces.specs.Pieces.{split, joined}
use Rattle.pieces.specs.Demands.{Free}
use Rattle.pieces.proofs.PieceLaws.{first_free, joined_none, joined_one, joined_more, free_nil, free_cons, free_tail, free_append, free_left, free_right, split_some, split_nil, split_joined, split_whole, split_append, one_text_lem, more_text}
use Rattle.record.specs.Ending.{Ending, nothing, feed, return_feed, ending_bytes, ending_number}
use Rattle.line.specs.Line.{line, fed, line_in, line_of, required, last_verdict, verdict, field_places, all_utf8, judged_answer, line_answer}
use Rattle.line.specs.Demands.{Ended, by_nothing, by_feed, by_return_feed, LineCut, ByColumns}
use Rattle.record.proofs.EndingLaws.{nothing_bytes, feed_bytes, return_feed_bytes}

-- ---- pieces joined

-- pieces free of a byte, joined by another, are free of it
pub free_joined : {a b : ℕ} (ps : List (List ℕ)) → (a ≡ b → ⊥) → ((i : ℕ) → i < length ps → Free b (get_or ps i [])) → Free b (joined a ps)
free_joined [] h each = rw joined_none free_nil
free_joined (p ∷ []) h each = rw joined_one (each 0 (omega arith))
free_joined (p ∷ q ∷ ps) h each =
    rw joined_more (free_append p (each 0 (omega arith)) (free_cons h (free_joined (q ∷ ps) h (λ i l. each (suc i) (suc-le-suc l)))))

-- and each piece is, where they are so joined
pub free_each : (a : ℕ) {b : ℕ} (ps : List (List ℕ)) → Free b (joined a ps) → (i : ℕ) → i < length ps → Free b (get_or ps i [])
free_each a [] f i l = absurd (omega arith)
free_each a (p ∷ []) f zero l = rw joined_one at f
free_each a (p ∷ []) f (suc i) l = absurd (omega arith)
free_each a (p ∷ q ∷ ps) f zero l = free_left p _ (rw joined_more at f)
free_each a (p ∷ q ∷ ps) f (suc i) l = free_each a (q ∷ ps) (free_tail (free_right p _ (rw joined_more at f))) i (omega arith)

-- ---- CR at a text's end

-- what stands behind a tab tells whether the text ends in CR
pub return_tab : (c t : List ℕ) → ends_in 13 (c ++ 9 ∷ t) ≡ ends_in 13 t
return_tab c t = ends_behind (λ e. omega arith) c t

-- ---- the line that an input begins with

pub fed_plain : (t rest : List ℕ) → ends_in 13 t ≡ false → fed t rest ≡ line t feed rest
unfolding fed
fed_plain t rest h = rw h

pub fed_return : (t rest : List ℕ) → fed (t ++ 13 ∷ []) rest ≡ line t return_feed rest
unfolding fed
fed_return t rest = rw (ends_last 13 t, last_back t 13)

in_more : (t : List ℕ) (us : List (List ℕ)) → 0 < length us → line_in (t ∷ us) ≡ fed t (joined 10 us)
unfolding line_in
in_more t [] h = absurd (omega arith)
in_more t (u ∷ us) h = refl

-- the text before the first LF
pub line_feed : (c s : List ℕ) → Free 10 c → line_of (c ++ 10 ∷ s) ≡ fed c s
unfolding line_of
line_feed c s f = rw (split_append c s f, in_more c (split 10 s) (split_some 10 s), split_joined 10 s)

-- an input without LF is one line
pub line_end : (c : List ℕ) → Free 10 c → line_of c ≡ line c nothing []
unfolding line_of line_in
line_end c f = rw (split_whole c f)

line_same : {s t t' : List ℕ} {e e' : Ending} {rest rest' : List ℕ} → line t e rest ≡ line t' e' rest' → LineCut s t e rest
    → LineCut s t' e' rest'
line_same {t = t} {t' = t'} {e = e} {e' = e'} {rest = rest} {rest' = rest'} q c =
    let a : t ≡ t' = cc in
    let b : e ≡ e' = cc in
    let d : rest ≡ rest' = cc in
    rw (a, b, d) at c

-- such a cut is the line's
pub line_only : {s t : List ℕ} {e : Ending} {rest : List ℕ} → LineCut s t e rest → line_of s ≡ line t e rest
line_only {t = t} c = by c.ended c.whole
  where
    by : {e : Ending} {s rest : List ℕ} → Ended t e rest → t ++ (ending_bytes e ++ rest) ≡ s → line_of s ≡ line t e rest
    by by_nothing w = rw (← w, nothing_bytes, append-nil t) (line_end t c.unfed)
    by {rest = rest} (by_feed h) w = rw (← w, feed_bytes) (line_feed t rest c.unfed ∙ fed_plain t rest h)
    by {rest = rest} by_return_feed w =
        rw (← w, return_feed_bytes, ← append_assoc t (13 ∷ []) (10 ∷ rest))
        (line_feed (t ++ 13 ∷ []) rest (free_append t c.unfed (free_cons (λ z. omega arith) free_nil)) ∙ fed_return t rest)

-- an input without LF, and one cut at its first LF, are so cut
end_cut : {s : List ℕ} → Free 10 s → LineCut s s nothing []
end_cut {s} f = record { whole = rw nothing_bytes (append-nil s); unfed = f; ended = by_nothing }

feed_cut : (p rest : List ℕ) {t : List ℕ} {e : Ending} {r : List ℕ} → Free 10 p → fed p rest ≡ line t e r → LineCut (p ++ 10 ∷ rest) t e r
unfolding fed
feed_cut p rest {t} {e} {r} f q = by (ends_in 13 p) refl q
  where
    by : (b : Bool) → ends_in 13 p ≡ b → pick b (line (drop_last p) return_feed rest) (line p feed rest) ≡ line t e r → LineCut (p ++ 10 ∷ rest) t e r
    by true h q =
        let w = ends_is 13 p h in
        line_same q (record { whole = rw return_feed_bytes (sym (append_assoc (drop_last p) (13 ∷ []) (10 ∷ rest)) ∙ rw w); unfed = free_left (drop_last p) (13 ∷ []) (rw w f); ended = by_return_feed })
    by false h q = line_same q (record { whole = rw feed_bytes; unfed = f; ended = by_feed h })

-- the line is so cut
pub line_whole : (s : List ℕ) {t : List ℕ} {e : Ending} {rest : List ℕ} → line_of s ≡ line t e rest → LineCut s t e rest
unfolding line_of line_in
line_whole s {t} {e} {rest} q = by (split 10 s) refl q
  where
    by : (ps : List (List ℕ)) → split 10 s ≡ ps → line_in ps ≡ line t e rest → LineCut s t e rest
    by [] h q = absurd (split_nil 10 s h)
    by (p ∷ []) h q = line_same q (rw (one_text_lem 10 h) (end_cut (first_free 10 s h)))
    by (p ∷ u ∷ ps) h q = rw (more_text 10 s h) (feed_cut p _ (first_free 10 s h) q)

-- behind a column and its tab stands the rest of the line
pub line_tab : (c s : List ℕ) {t : List ℕ} {e : Ending} {rest : List ℕ} → Free 9 c → Free 10 c → line_of s ≡ line t e rest
    → line_of (c ++ 9 ∷ s) ≡ line (c ++ 9 ∷ t) e rest
line_tab c s {t} f g q =
    let l = line_whole s q in
    line_only (record {
      whole = append_assoc c (9 ∷ t) _ ∙ ap (λ (z : List ℕ). c ++ 9 ∷ z) l.whole;
      unfed = free_append c g (free_cons (λ z. omega arith) l.unfed);
      ended = by l.ended;
    })
  where
    by : {e : Ending} {rest : List ℕ} → Ended t e rest → Ended (c ++ 9 ∷ t) e rest
    by by_nothing = by_nothing
    by (by_feed h) = by_feed (return_tab c t ∙ h)
    by by_return_feed = by_return_feed

-- ---- UTF-8

pub same_bool : (a b : Bool) → (a ≡ true → b ≡ true) → (b ≡ true → a ≡ true) → a ≡ b
same_bool true b f g = sym (f refl)
same_bool false true f g = g refl
same_bool false false f g = refl

utf8_tab : (c t : List ℕ) → is_utf8 (c ++ 9 ∷ t) ≡ is_utf8 c && is_utf8 t
utf8_tab c t =
    let p = parted c t 9 (omega arith) in
    let a = and-eq-true_iff (is_utf8 c) (is_utf8 t) in
    same_bool (is_utf8 (c ++ 9 ∷ t)) _ (λ e. a.1 (p.0 e)) (λ e. p.1 (a.0 e))

-- columns joined by tabs are UTF-8 where all are
pub utf8_joined : (cs : List (List ℕ)) → is_utf8 (joined 9 cs) ≡ all_utf8 cs
unfolding all_utf8
utf8_joined [] = rw joined_none nil_text
utf8_joined (c ∷ []) = rw joined_one (sym (and-true (is_utf8 c)))
utf8_joined (c ∷ d ∷ cs) = rw (joined_more, utf8_tab, utf8_joined (d ∷ cs))

pub by_columns : ByColumns is_utf8 all_utf8 (split 9)
unfolding ByColumns
by_columns t = ap is_utf8 (sym (split_joined 9 t)) ∙ utf8_joined (split 9 t)

-- where all columns are UTF-8, each is; and only there
pub utf8_each : (cs : List (List ℕ)) → all_utf8 cs ≡ true → (i : ℕ) → i < length cs → is_utf8 (get_or cs i []) ≡ true
unfolding all_utf8
utf8_each [] h i l = absurd (omega arith)
utf8_each (c ∷ cs) h zero l = ((and-eq-true_iff _ _).0 h).0
utf8_each (c ∷ cs) h (suc i) l = utf8_each cs ((and-eq-true_iff (is_utf8 c) _).0 h).1 i (omega arith)

pub utf8_all : (cs : List (List ℕ)) → ((i : ℕ) → i < length cs → is_utf8 (get_or cs i []) ≡ true) → all_utf8 cs ≡ true
unfolding all_utf8
utf8_all [] each = refl
utf8_all (c ∷ cs) each = rw (each 0 (omega arith)) (utf8_all cs (λ i l. each (suc i) (suc-le-suc l)))

-- ---- the verdict, column by column

pub verdict_last : (k from : ℕ) (c : List ℕ) (e : Ending) (past : ℕ) → verdict k from (c ∷ []) e past ≡ last_verdict k c e past
unfolding verdict
verdict_last k from c e past = refl

-- a column, a tab, and more
pub verdict_more : (k from : ℕ) (c : List ℕ) (ds : List (List ℕ)) (e : Ending) (past : ℕ) → 0 < length ds
    → verdict k from (c ∷ ds) e past ≡ pick (is_empty c) (refused 2 (from + 1)) (verdict (k + 1) (from + length c + 1) ds e past)
unfolding verdict
verdict_more k from c [] e past l = absurd (omega arith)
verdict_more k from c (d ∷ ds) e past l = refl

-- the last column is cut by the end of the input, or ended by an LF
pub last_cut : (k : ℕ) (c : List ℕ) (past : ℕ) → last_verdict k c nothing past ≡ pick (required k || is_empty c) (refused 4 past) fine
unfolding last_verdict
last_cut k c past = refl

pub last_fed : (k : ℕ) (c : List ℕ) (e : Ending) (past : ℕ) → (e ≡ nothing → ⊥)
    → last_verdict k c e past ≡ pick (required k) (refused 3 past) (pick (is_empty c) (refused 2 past) fine)
unfolding last_verdict
last_fed k c nothing past n = absurd (n refl)
last_fed k c feed past n = refl
last_fed k c return_feed past n = refl

-- ---- the answer, by the verdict

module _ (at : ℕ) (t : List ℕ) (e : Ending) (rest : List ℕ) where
  pub line_refused : {n next : ℕ} → verdict 1 at (split 9 t) e (at + length t + length (ending_bytes e)) ≡ refused n next → line_answer at (line t e rest) ≡ says n (next ∷ [])
  unfolding line_answer judged_answer
  line_refused h = rw h

  pub line_fine : verdict 1 at (split 9 t) e (at + length t + length (ending_bytes e)) ≡ fine
      → line_answer at (line t e rest)
      ≡ pick (is_utf8 t) (says 0 ((at + length t + length (ending_bytes e)) ∷ ending_number e ∷ field_places at (split 9 t) (at + length t))) (says 5 ((at + length t + length (ending_bytes e)) ∷ []))
  unfolding line_answer judged_answer ByColumns
  line_fine h = rw (h, by_columns t)

-- ---- columns in order

-- the verdict is fine past a test that would have refused
past_test : (t : Bool) (n p : ℕ) {v : Verdict} → pick t (refused n p) v ≡ fine → (t ≡ false) × (v ≡ fine)
past_test true n p h = absurd (let z : ◌≡◌ {A = ℕ} 0 1 = cc in omega arith)
past_test false n p h = (refl, h)

pub or_none : (a b : Bool) → (a || b) ≡ false → (a ≡ false) × (b ≡ false)
or_none true b h = absurd (true≢false h)
or_none false b h = (refl, h)

last_fine : (k : ℕ) (c : List ℕ) (e : Ending) (past : ℕ) → last_verdict k c e past ≡ fine → (required k ≡ false) × (is_empty c ≡ false)
unfolding last_verdict
last_fine k c nothing past h = or_none (required k) (is_empty c) (past_test _ _ _ h).0
last_fine k c feed past h = let p = past_test (required k) _ _ h in (p.0, (past_test (is_empty c) _ _ p.1).0)
last_fine k c return_feed past h = let p = past_test (required k) _ _ h in (p.0, (past_test (is_empty c) _ _ p.1).0)

pub fine_last : (k : ℕ) (c : List ℕ) (e : Ending) (past : ℕ) → required k ≡ false → is_empty c ≡ false → last_verdict k c e past ≡ fine
unfolding last_verdict
fine_last k c nothing past r m = rw (r, m)
fine_last k c feed past r m = rw (r, m)
fine_last k c return_feed past r m = rw (r, m)

-- the columns from number k on: none is empty, and the last has a number that needs no tab
pub record InOrder (k : ℕ) (cs : List (List ℕ)) : Type 0 where
  pub full : (i : ℕ) → i < length cs → 0 < length (get_or cs i [])
  pub last : required (k + length cs - 1) ≡ false

pub order_one : {k : ℕ} {c : List ℕ} → required k ≡ false → is_empty c ≡ false → InOrder k (c ∷ [])
order_one {k} {c} r m = record { full = by; last = let z : k + 1 - 1 ≡ k = omega arith in rw z r }
  where
    by : (i : ℕ) → i < 1 → 0 < length (get_or (c ∷ []) i [])
    by zero l = empty_some c m
    by (suc i) l = absurd (omega arith)

-- of two and more columns, the first and the others
next_number : (k n : ℕ) → k + 1 + n - 1 ≡ k + suc n - 1
next_number k n = omega arith

pub order_more : {k : ℕ} {c : List ℕ} {cs : List (List ℕ)} → is_empty c ≡ false → InOrder (k + 1) cs → InOrder k (c ∷ cs)
order_more {k} {c} {cs} m o = record { full = by; last = rw next_number at o.last }
  where
    by : (i : ℕ) → i < suc (length cs) → 0 < length (get_or (c ∷ cs) i [])
    by zero l = empty_some c m
    by (suc i) l = o.full i (omega arith)

-- columns whose verdict is fine are in order
pub fine_order : (k from : ℕ) (cs : List (List ℕ)) (e : Ending) (past : ℕ) → 0 < length cs → verdict k from cs e past ≡ fine → InOrder k cs
unfolding verdict
fine_order k from [] e past n h = absurd (omega arith)
fine_order k from (c ∷ []) e past n h = let p = last_fine k c e past h in order_one p.0 p.1
fine_order k from (c ∷ d ∷ cs) e past n h =
    let p = past_test (is_empty c) _ _ h in
    order_more p.0 (fine_order (k + 1) (from + length c + 1) (d ∷ cs) e past (omega arith) p.1)

-- and columns in order have the verdict fine
pub order_fine : (k from : ℕ) (cs : List (List ℕ)) (e : Ending) (past : ℕ) → 0 < length cs → InOrder k cs → verdict k from cs e past ≡ fine
unfolding verdict
order_fine k from [] e past n o = absurd (omega arith)
order_fine k from (c ∷ []) e past n o =
    let z : k + 1 - 1 ≡ k = omega arith in
    fine_last k c e past (rw z at o.last) (some_empty c (o.full 0 (omega arith)))
order_fine k from (c ∷ d ∷ cs) e past n o =
    rw (some_empty c (o.full 0 (omega arith)))
    (order_fine (k + 1) (from + length c + 1) (d ∷ cs) e past (omega arith) (record { full = λ i l. o.full (suc i) (suc-le-suc l); last = rw next_number o.last }))

-- the numbers that need no tab
pub required_count : (n : ℕ) → required n ≡ false → (n ≡ 8) ⊎ (10 ≤ n)
unfolding required
required_count n h = by (ℕ_discrete n 8)
  where
    by : Dec (n ≡ 8) → (n ≡ 8) ⊎ (10 ≤ n)
    by (yes z) = inl z
    by (no z) =
        let p = or_none (leb n 7) (eqb n 9) h in
        let l = leb-false n 7 p.0 in
        let m = eqb-false n 9 p.1 in
        inr (omega arith)

pub count_required : {n : ℕ} → (n ≡ 8) ⊎ (10 ≤ n) → required n ≡ false
unfolding required
count_required {n} (inl z) = rw z
count_required {n} (inr h) = rw (lt-leb n 7 (omega arith), ne_eqb n 9 (λ z. omega arith))

-- columns from the first on whose verdict is fine are eight, or at least ten
pub fine_count : (from : ℕ) (cs : List (List ℕ)) (e : Ending) (past : ℕ) → 0 < length cs → verdict 1 from cs e past ≡ fine
    → (length cs ≡ 8) ⊎ (10 ≤ length cs)
fine_count from cs e past n h =
    let z : 1 + length cs - 1 ≡ length cs = omega arith in
    required_count (length cs) (rw z at (fine_order 1 from cs e past n h).last)

-- so many columns, of which none is empty, have the verdict fine
pub count_fine : (from : ℕ) (cs : List (List ℕ)) (e : Ending) (past : ℕ) → (length cs ≡ 8) ⊎ (10 ≤ length cs)
    → ((i : ℕ) → i < length cs → 0 < length (get_or cs i [])) → verdict 1 from cs e past ≡ fine
count_fine from cs e past n full =
    let z : 1 + length cs - 1 ≡ length cs = omega arith in
    order_fine 1 from cs e past (⊎_elim (λ h. omega arith) (λ h. omega arith) n) (record { full = full; last = rw z (count_required n) })
