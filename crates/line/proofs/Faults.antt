-- A bad column is what the verdict refuses; and every line has a bad column, or is shaped, and then is refused by UTF-8 alone. Assumes nothing.
use Prim.Native.Nat.{ℕ, zero, suc, ◌+◌, ◌-◌, ◌<◌, suc-le-suc}
use mathlib.Core.Path.{◌≡◌, refl, sym, ap, ◌∙◌}
use mathlib.Core.Bool.{Bool, true, false, or-true, true≢false}
use mathlib.Core.Logic.{◌⊎◌, inl, inr, ⊎_elim}
use mathlib.Core.List.{List, [], ◌∷◌, ◌++◌, append_assoc, append-nil}
use native.Mathlib.Omega.{arith}
use lib.ListN.{length, get_or, drop, length-append}
use Rattle.text.specs.Pick.{pick}
use Rattle.text.specs.Bytes.{is_empty, ends_in}
use Rattle.text.specs.Answer.{says}
use Rattle.text.specs.Verdict.{Verdict, refused}
use Rattle.text.proofs.ByteLaws.{some_empty}
use Rattle.pieces.specs.Pieces.{split, joined}
use Rattle.pieces.specs.Demands.{Free, start_in}
use Rattle.pieces.proofs.PieceLaws.{free_nil, free_cons, free_append, free_left, split_some, split_whole, split_free, split_append, split_joined, joined_one, joined_more}
use Rattle.pieces.proofs.NumberLaws.{start_first, start_later}
use Rattle.record.specs.Ending.{Ending, nothing, feed, return_feed, ending_bytes}
use Rattle.line.specs.Line.{Line, line, line_of, required, last_verdict, verdict, field_places, all_utf8, judged_answer, line_answer, read_answer}
use Rattle.line.specs.Demands.{MayEnd, Column, Ended, by_nothing, by_feed, by_return_feed, Shaped, Begins, Refuses, Bad, empty_tabbed, empty_fed, empty_returned, early_fed, early_cut, empty_cut, Behind, Faulty, bad_column, not_text, Faults}
use Rattle.record.proofs.EndingLaws.{nothing_bytes, feed_bytes, return_feed_bytes}
use Rattle.line.proofs.LineLaws.{read_line, BeforeFeed, plain, returned, before_feed}
use Rattle.line.proofs.ColumnLaws.{free_each, verdict_last, verdict_more, line_refused, line_whole, line_tab, line_feed, line_end, fed_plain, fed_return, InOrder, order_one, order_more, count_required, required_count}
use Rattle.line.proofs.ShapeLaws.{shaped_line, shaped_split, shaped_fine, shaped_answer, cut_shaped, begins_answer}
use Rattle.line.proofs.TenPlaces.{places_lie}

-- ---- the verdict of a line

unfoldable verdict_of : ℕ → ℕ → Line → Verdict
verdict_of k from (line t e rest) = verdict k from (split 9 t) e (from + length t + length (ending_bytes e))

-- a refused verdict is the answer
verdict_answer : (from : ℕ) (l : Line) {n next : ℕ} → verdict_of 1 from l ≡ refused n next → line_answer from l ≡ says n (next ∷ [])
unfolding verdict_of
verdict_answer from (line t e rest) h = line_refused from t e rest h

-- one column
verdict_one : (k from : ℕ) (t : List ℕ) (e : Ending) (rest : List ℕ) → Free 9 t
    → verdict_of k from (line t e rest) ≡ last_verdict k t e (from + length t + length (ending_bytes e))
unfolding verdict_of
verdict_one k from t e rest f = rw (split_whole t f) (verdict_last k from t e _)

-- a column, a tab, and more
verdict_tab : (k from : ℕ) (c u : List ℕ) → Free 9 c → Free 10 c
    → verdict_of k from (line_of (c ++ 9 ∷ u)) ≡ pick (is_empty c) (refused 2 (from + 1)) (verdict_of (k + 1) (from + length c + 1) (line_of u))
unfolding verdict_of
verdict_tab k from c u f g = by (line_of u) refl
  where
    by : (l : Line) → line_of u ≡ l → verdict_of k from (line_of (c ++ 9 ∷ u)) ≡ pick (is_empty c) (refused 2 (from + 1)) (verdict_of (k + 1) (from + length c + 1) l)
    by (line t e rest) q =
        let x : from + length (c ++ 9 ∷ t) ≡ from + length c + 1 + length t = omega (arith, length-append c (9 ∷ t)) in
        rw (line_tab c u f g q, split_append c t f, x) (verdict_more k from c (split 9 t) e _ (split_some 9 t))

-- ---- a bad column is refused

must_go_on : {k : ℕ} → (MayEnd k → ⊥) → required k ≡ true
must_go_on {k} h = by (required k) refl
  where
    by : (b : Bool) → required k ≡ b → b ≡ true
    by true q = refl
    by false q = absurd (h (required_count k q))

bad_verdict : (k from : ℕ) {left : List ℕ} {n m : ℕ} → Bad k left n m → verdict_of k from (line_of left) ≡ refused n (from + m)
unfolding last_verdict is_empty ends_in
bad_verdict k from (empty_tabbed {rest}) = verdict_tab k from [] rest free_nil free_nil
bad_verdict k from (empty_fed {rest} h) =
    let x : from + 0 + 1 ≡ from + 1 = omega arith in
    rw (line_feed [] rest free_nil, fed_plain [] rest refl, verdict_one k from [] feed rest free_nil, feed_bytes, count_required h, x)
bad_verdict k from (empty_returned {rest} h) =
    let x : from + 0 + 2 ≡ from + 2 = omega arith in
    rw (line_feed (13 ∷ []) rest (free_cons (λ z. omega arith) free_nil), fed_return [] rest, verdict_one k from [] return_feed rest free_nil, return_feed_bytes, count_required h, x)
bad_verdict k from (early_fed c rest h f g) = rw (line_feed c rest g) (by (before_feed c rest))
  where
    by : {l : Line} → BeforeFeed c rest l → verdict_of k from l ≡ refused 3 (from + (length c + 1))
    by plain =
        let x : from + length c + 1 ≡ from + (length c + 1) = omega arith in
        rw (verdict_one k from c feed rest f, feed_bytes, must_go_on h, x)
    by (returned {u} e) =
        let x : from + length u + 2 ≡ from + (length c + 1) = omega (arith, length-append u (13 ∷ []), ap length e) in
        rw (verdict_one k from u return_feed rest (free_left u (13 ∷ []) (rw e at f)), return_feed_bytes, must_go_on h, x)
bad_verdict k from (early_cut {c} h f g) =
    let x : from + length c + 0 ≡ from + length c = omega arith in
    rw (line_end c g, verdict_one k from c nothing [] f, nothing_bytes, must_go_on h, x)
bad_verdict k from empty_cut =
    let x : from + 0 + 0 ≡ from + 0 = omega arith in
    rw (line_end [] free_nil, verdict_one k from [] nothing [] free_nil, nothing_bytes, or-true (required k), x)

-- ---- behind columns

-- a column, and then others and what is left behind them
joined_first : (c : List ℕ) (cs : List (List ℕ)) (left : List ℕ) → joined 9 (c ∷ cs ++ left ∷ []) ≡ c ++ 9 ∷ joined 9 (cs ++ left ∷ [])
joined_first c [] left = joined_more 9 c left []
joined_first c (d ∷ cs) left = joined_more 9 c d (cs ++ left ∷ [])

behind_verdict : (k from : ℕ) (cs : List (List ℕ)) {u left : List ℕ} {n m : ℕ} → Behind u cs left → Bad (k + length cs) left n m
    → verdict_of k from (line_of u) ≡ refused n (from + start_in cs (length cs) + m)
behind_verdict k from [] b x =
    let y : k + 0 ≡ k = omega arith in
    let z : from + start_in [] 0 ≡ from = omega (arith, start_first []) in
    rw (← b.whole, joined_one, z) (bad_verdict k from (rw y at x))
behind_verdict k from (c ∷ cs) {left = left} b x =
    let h = b.each 0 (omega arith) in
    let y : k + suc (length cs) ≡ k + 1 + length cs = omega arith in
    let z : from + start_in (c ∷ cs) (suc (length cs)) ≡ from + length c + 1 + start_in cs (length cs) = omega (arith, start_later c cs (length cs)) in
    rw (← b.whole, joined_first c cs left, z, verdict_tab k from c (joined 9 (cs ++ left ∷ [])) h.no_tab h.no_feed, some_empty c h.some)
    (behind_verdict (k + 1) (from + length c + 1) cs (record { each = λ i l. b.each (suc i) (suc-le-suc l); whole = refl }) (rw y at x))

-- ---- every line has a bad column, or is shaped

record Found (k : ℕ) (u : List ℕ) : Type 0 where
  columns : List (List ℕ)
  left : List ℕ
  number : ℕ
  bytes : ℕ
  behind : Behind u columns left
  bad : Bad (k + length columns) left number bytes

-- the first column is bad
found_here : {k : ℕ} {u : List ℕ} {n m : ℕ} → Bad k u n m → Found k u
found_here {k} {u} {n} {m} b =
    let y : k + 0 ≡ k = omega arith in
    record { columns = []; left = u; number = n; bytes = m; behind = record { each = λ i l. absurd (omega arith); whole = joined_one 9 u }; bad = rw y b }

-- or one behind it
found_later : {k : ℕ} (c u : List ℕ) → Column c → Found (k + 1) u → Found k (c ++ 9 ∷ u)
found_later {k} c u h f =
    let y : k + suc (length f.columns) ≡ k + 1 + length f.columns = omega arith in
    record {
      columns = c ∷ f.columns;
      left = f.left;
      number = f.number;
      bytes = f.bytes;
      behind = record { each = each; whole = joined_first c f.columns f.left ∙ ap (λ (z : List ℕ). c ++ 9 ∷ z) f.behind.whole };
      bad = rw y f.bad;
    }
  where
    each : (i : ℕ) → i < suc (length f.columns) → Column (get_or (c ∷ f.columns) i [])
    each zero l = h
    each (suc i) l = f.behind.each i (omega arith)

-- the last column is bad, or may be the last and is not empty
last_found : {t : List ℕ} {e : Ending} {rest : List ℕ} → Ended t e rest → (k : ℕ) (c : List ℕ) → Free 9 c → Free 10 c
    → Found k (c ++ (ending_bytes e ++ rest)) ⊎ InOrder k (c ∷ [])
last_found {t} x k c f g = by (required k) refl c f g x
  where
    early : (MayEnd k → ⊥) → (c : List ℕ) → Free 9 c → Free 10 c → {e : Ending} {rest : List ℕ} → Ended t e rest → Found k (c ++ (ending_bytes e ++ rest))
    early n c f g by_nothing = rw (nothing_bytes, append-nil c) (found_here (early_cut n f g))
    early n c f g (by_feed {rest} h) = rw feed_bytes (found_here (early_fed c rest n f g))
    early n c f g (by_return_feed {rest}) =
        rw (return_feed_bytes, ← append_assoc c (13 ∷ []) (10 ∷ rest))
        (found_here (early_fed (c ++ 13 ∷ []) rest n (free_append c f (free_cons (λ z. omega arith) free_nil)) (free_append c g (free_cons (λ z. omega arith) free_nil))))

    empty : MayEnd k → {e : Ending} {rest : List ℕ} → Ended t e rest → Found k (ending_bytes e ++ rest)
    empty m by_nothing = rw nothing_bytes (found_here empty_cut)
    empty m (by_feed h) = rw feed_bytes (found_here (empty_fed m))
    empty m by_return_feed = rw return_feed_bytes (found_here (empty_returned m))

    by : (b : Bool) → required k ≡ b → (c : List ℕ) → Free 9 c → Free 10 c → {e : Ending} {rest : List ℕ} → Ended t e rest
        → Found k (c ++ (ending_bytes e ++ rest)) ⊎ InOrder k (c ∷ [])
    by true q c f g x = inl (early (λ m. true≢false (sym q ∙ count_required m)) c f g x)
    by false q [] f g x = inl (empty (required_count k q) x)
    by false q (a ∷ c) f g x = inr (order_one q (some_empty (a ∷ c) (omega arith)))

-- the first bad one of columns from number k on, or none
found : (k : ℕ) (cs : List (List ℕ)) {t : List ℕ} {e : Ending} {rest : List ℕ} → Ended t e rest → 0 < length cs
    → ((i : ℕ) → i < length cs → Free 9 (get_or cs i [])) → ((i : ℕ) → i < length cs → Free 10 (get_or cs i []))
    → Found k (joined 9 cs ++ (ending_bytes e ++ rest)) ⊎ InOrder k cs
found k [] x l f g = absurd (omega arith)
found k (c ∷ []) x l f g = rw joined_one (last_found x k c (f 0 (omega arith)) (g 0 (omega arith)))
found k ([] ∷ d ∷ cs) x l f g = inl (rw joined_more (found_here empty_tabbed))
found k ((a ∷ c) ∷ d ∷ cs) {e = e} {rest = rest} x l f g =
    ⊎_elim
    (λ y. inl (rw (joined_more, append_assoc (a ∷ c)) (found_later (a ∷ c) _ (record { some = omega arith; no_tab = f 0 (omega arith); no_feed = g 0 (omega arith) }) y)))
    (λ y. inr (order_more (some_empty (a ∷ c) (omega arith)) y))
    (found (k + 1) (d ∷ cs) {e = e} {rest = rest} x (omega arith) (λ i m. f (suc i) (suc-le-suc m)) (λ i m. g (suc i) (suc-le-suc m)))

pub record IsShaped (u : List ℕ) : Type 0 where
  pub columns : List (List ℕ)
  pub ending : Ending
  pub rest : List ℕ
  pub shaped : Shaped u columns ending rest

line_found : (u : List ℕ) → Found 1 u ⊎ IsShaped u
line_found u = by (line_of u) refl
  where
    by : (l : Line) → line_of u ≡ l → Found 1 u ⊎ IsShaped u
    by (line t e rest) q =
        let c = line_whole u q in
        let j = split_joined 9 t in
        let n : 1 + length (split 9 t) - 1 ≡ length (split 9 t) = omega arith in
        ⊎_elim (λ f. inl (rw (j, c.whole) at f))
        (λ o. inr (record { columns = split 9 t; ending = e; rest = rest; shaped = cut_shaped c (required_count (length (split 9 t)) (rw n at o.last)) o.full }))
        (found 1 (split 9 t) c.ended (split_some 9 t) (split_free 9 t) (free_each 9 (split 9 t) (rw j c.unfed)))

-- ---- faults

-- what is found at a place
pub data Told (s : List ℕ) (at : ℕ) : Type 0 where
  faulty : (n next : ℕ) → Faulty s at n next → Told s at
  begun : {cs : List (List ℕ)} {e : Ending} {rest : List ℕ} → Begins (drop at s) cs e rest → Told s at

pub told : (s : List ℕ) (at : ℕ) → Told s at
told s at = ⊎_elim (λ f. faulty _ _ (bad_column f.behind f.bad)) (λ b. checked b (all_utf8 b.columns) refl) (line_found (drop at s))
  where
    checked : (b : IsShaped (drop at s)) (x : Bool) → all_utf8 b.columns ≡ x → Told s at
    checked b true u = begun (record { shaped = b.shaped; utf8 = u })
    checked b false u = faulty _ _ (not_text b.shaped u)

module _ (s : List ℕ) (at : ℕ) (h : at < length s) where
  -- what is faulty is so answered
  pub faulty_answer : {n next : ℕ} → Faulty s at n next → read_answer s at ≡ says n (next ∷ [])
  unfolding judged_answer
  faulty_answer (bad_column {cs} b x) = read_line s at h ∙ verdict_answer at (line_of (drop at s)) (behind_verdict 1 at cs b x)
  faulty_answer (not_text b u) = read_line s at h ∙ shaped_answer b at ∙ rw u

  -- and nothing else is
  answer_faulty : {n next : ℕ} → read_answer s at ≡ says n (next ∷ []) → Faulty s at n next
  answer_faulty {n} {next} a = by (told s at)
    where
      by : Told s at → Faulty s at n next
      by (faulty m p f) =
          let z = faulty_answer f in
          let x : m ≡ n = cc in
          let y : p ≡ next = cc in
          rw (x, y) at f
      by (begun {cs} b) =
          let z = begins_answer s at h b in
          let x : field_places at cs (at + length (joined 9 cs)) ≡ [] = cc in
          absurd (omega (arith, (places_lie at cs b.shaped.count).ten, ap length x))

-- so from 2 to 5
bad_refuses : {k : ℕ} {left : List ℕ} {n m next : ℕ} → Bad k left n m → Refuses (says n (next ∷ []))
bad_refuses empty_tabbed = record { two = omega arith; five = omega arith }
bad_refuses (empty_fed x) = record { two = omega arith; five = omega arith }
bad_refuses (empty_returned x) = record { two = omega arith; five = omega arith }
bad_refuses (early_fed c r x f g) = record { two = omega arith; five = omega arith }
bad_refuses (early_cut x f g) = record { two = omega arith; five = omega arith }
bad_refuses empty_cut = record { two = omega arith; five = omega arith }

pub faulty_refuses : {s : List ℕ} {at n next : ℕ} → Faulty s at n next → Refuses (says n (next ∷ []))
faulty_refuses (bad_column b x) = bad_refuses x
faulty_refuses (not_text b u) = record { two = omega arith; five = omega arith }

pub faults : Faults read_answer
unfolding Faults
faults s at h n next = (answer_faulty s at h, faulty_answer s at h)

-- a line has one fault
pub faulty_one : (s : List ℕ) (at : ℕ) → at < length s → {n m x y : ℕ} → Faulty s at n x → Faulty s at m y → (n ≡ m) × (x ≡ y)
faulty_one s at h {n} {m} {x} {y} f g =
    let e : says n (x ∷ []) ≡ says m (y ∷ []) = sym (faulty_answer s at h f) ∙ faulty_answer s at h g in
    ((cc), (cc))

-- ---- no column is bad

-- columns that are shaped have no bad one among them
pub shaped_not_bad : {u : List ℕ} {cs : List (List ℕ)} {e : Ending} {rest : List ℕ} → Shaped u cs e rest
    → (bs : List (List ℕ)) {left : List ℕ} {n m : ℕ} → Behind u bs left → Bad (1 + length bs) left n m → ⊥
unfolding verdict_of
shaped_not_bad b bs h x =
    let v = behind_verdict 1 0 bs h x in
    let f = rw (shaped_line b, shaped_split b, shaped_fine b) at v in
    let z : ◌≡◌ {A = ℕ} 0 1 = cc in
    omega arith

-- and an input that begins with no bad column begins with shaped ones
pub not_bad_shaped : (u : List ℕ) → ((bs : List (List ℕ)) (left : List ℕ) (n m : ℕ) → Behind u bs left → Bad (1 + length bs) left n m → ⊥) → IsShaped u
not_bad_shaped u none = ⊎_elim (λ f. absurd (none f.columns f.left f.number f.bytes f.behind f.bad)) (λ b. b) (line_found u)
