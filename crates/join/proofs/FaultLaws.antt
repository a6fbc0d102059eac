-- The columns are judged as the statements have it: by the first column with a fault; where none has one, they are a line's; and so they are
-- answered. Assumes nothing.
use Prim.Native.Nat.{ℕ, zero, suc, ◌+◌, ◌-◌, ◌<◌, ◌≤◌}
use mathlib.Core.Path.{◌≡◌, refl, sym, ap, ◌∙◌}
use mathlib.Core.Bool.{Bool, true, false, not, ◌&&◌, ◌||◌, or-false, false≢true}
use mathlib.Core.Logic.{⊎_elim}
use mathlib.Core.List.{List, [], ◌∷◌, ◌++◌, append_assoc, append-nil}
use native.Mathlib.Omega.{arith}
use native.Mathlib.Decide.{dec_lt}
use lib.ListN.{length, get_or}
use borrow.Author.Tests.{not-false}
use Rattle.text.specs.Pick.{pick}
use Rattle.text.specs.Answer.{says, number_of}
use Rattle.text.specs.Over.{room_answer}
use Rattle.text.specs.Bytes.{is_empty, ends_in}
use Rattle.text.specs.Utf8.{is_utf8}
use Rattle.text.proofs.ByteLaws.{empty_some, some_empty}
use Rattle.text.proofs.CopyLaws.{room_fits, room_done}
use Rattle.text.specs.Verdict.{Verdict, fine, refused}
use Rattle.pieces.specs.Pieces.{joined, lacks}
use Rattle.pieces.proofs.CountLaws.{lacks_free, free_lacks}
use Rattle.pieces.proofs.PieceLaws.{joined_one, joined_more}
use Rattle.record.specs.Ending.{Ending, nothing, feed, return_feed, ending_bytes}
use Rattle.line.specs.Line.{required}
use Rattle.line.specs.Demands.{MayEnd, Column, Ended, by_nothing, by_feed, by_return_feed, Begins}
use Rattle.line.proofs.ColumnLaws.{return_tab, utf8_each, utf8_all, or_none, required_count, count_required}
use Rattle.join.specs.Join.{is_bad, loses_return, column_judged, columns_judged, line_text, columns_answer}
use Rattle.join.specs.Demands.{IsLine, Bad, no_column, lost, Fault, bad, broken, FirstFault}

-- ---- one column

module _ (c : List ℕ) where
  pub bad_column : is_bad c ≡ false → Column c
  unfolding is_bad
  bad_column h =
      let p = or_none (is_empty c) _ h in
      let q = or_none (not (lacks 9 c)) _ p.1 in
      record { some = empty_some c p.0; no_tab = lacks_free c (not-false _ q.0); no_feed = lacks_free c (not-false _ q.1) }

  pub column_bad : Column c → is_bad c ≡ false
  unfolding is_bad
  column_bad g = rw (some_empty c g.some, free_lacks c g.no_tab, free_lacks c g.no_feed)

-- one number refuses it
fault_one : {cs : List (List ℕ)} {e : Ending} {k n m : ℕ} → Fault cs e k n → Fault cs e k m → n ≡ m
fault_one (bad b) (bad c) = refl
fault_one (bad b) (broken c v) = absurd (c b)
fault_one (broken b u) (bad c) = absurd (b c)
fault_one (broken b u) (broken c v) = refl

-- ---- the first column, and those behind it

module _ (c : List ℕ) (cs : List (List ℕ)) (e : Ending) where
  bad_up : {k : ℕ} → Bad cs e k → Bad (c ∷ cs) e (suc k)
  bad_up (no_column f) = no_column f
  bad_up (lost l r q) = lost (omega arith) r q

  bad_down : {k : ℕ} → Bad (c ∷ cs) e (suc k) → Bad cs e k
  bad_down (no_column f) = no_column f
  bad_down (lost l r q) = lost (omega arith) r q

  fault_up : {k n : ℕ} → Fault cs e k n → Fault (c ∷ cs) e (suc k) n
  fault_up (bad b) = bad (bad_up b)
  fault_up (broken b u) = broken (λ d. b (bad_down d)) u

  fault_down : {k n : ℕ} → Fault (c ∷ cs) e (suc k) n → Fault cs e k n
  fault_down (bad b) = bad (bad_down b)
  fault_down (broken b u) = broken (λ d. b (bad_up d)) u

-- nothing follows
unfoldable pub is_last : List (List ℕ) → Bool
is_last [] = true
is_last (c ∷ cs) = false

pub judged_cons : (i : ℕ) (c : List ℕ) (cs : List (List ℕ)) (e : Ending)
    → columns_judged i (c ∷ cs) e ≡ column_judged i (is_bad c || (is_last cs && loses_return e c)) c (columns_judged (i + 1) cs e)
unfolding columns_judged is_last
judged_cons i c [] e = refl
judged_cons i c (d ∷ cs) e = rw or-false

-- the test of the first column
abbrev head_bad : List ℕ → List (List ℕ) → Ending → Bool
head_bad c cs e = is_bad c || (is_last cs && loses_return e c)

lost_head : (c : List ℕ) (cs : List (List ℕ)) (e : Ending) → (is_last cs && loses_return e c) ≡ true → Bad (c ∷ cs) e 0
unfolding is_last loses_return
lost_head c [] nothing h = absurd (false≢true h)
lost_head c [] feed h = lost refl h refl
lost_head c [] return_feed h = absurd (false≢true h)
lost_head c (d ∷ cs) e h = absurd (false≢true h)

head_lost : (c : List ℕ) (cs : List (List ℕ)) (e : Ending) → 1 ≡ length (c ∷ cs) → ends_in 13 c ≡ true → e ≡ feed → (is_last cs && loses_return e c) ≡ true
unfolding is_last loses_return
head_lost c [] e l h q = rw q h
head_lost c (d ∷ cs) e l h q = absurd (omega arith)

module _ (c : List ℕ) (cs : List (List ℕ)) (e : Ending) where
  head_bad_lem : head_bad c cs e ≡ true → Bad (c ∷ cs) e 0
  head_bad_lem h = by (is_bad c) refl h
    where
      by : (b : Bool) → is_bad c ≡ b → (b || (is_last cs && loses_return e c)) ≡ true → Bad (c ∷ cs) e 0
      by true q h = no_column (λ g. false≢true (sym (column_bad c g) ∙ q))
      by false q h = lost_head c cs e h

  head_good : head_bad c cs e ≡ false → Bad (c ∷ cs) e 0 → ⊥
  head_good h b = by (or_none (is_bad c) _ h) b
    where
      by : (is_bad c ≡ false) × ((is_last cs && loses_return e c) ≡ false) → Bad (c ∷ cs) e 0 → ⊥
      by p (no_column f) = f (bad_column c p.0)
      by p (lost l r q) = false≢true (sym p.1 ∙ head_lost c cs e l r q)

-- ---- what is found of the columns

-- none has a fault; or this is the first that has one
pub data Found (i : ℕ) (cs : List (List ℕ)) (e : Ending) : Verdict → Type 0 where
  faultless : ((k n : ℕ) → k < length cs → Fault cs e k n → ⊥) → Found i cs e fine
  faulty : {k n : ℕ} → FirstFault cs e k n → Found i cs e (refused n (i + k))

module _ (i : ℕ) (c : List ℕ) (cs : List (List ℕ)) (e : Ending) where
  first_head : {n : ℕ} → Fault (c ∷ cs) e 0 n → Found i (c ∷ cs) e (refused n i)
  first_head {n} f =
      let z : i + 0 ≡ i = omega arith in
      let g : Found i (c ∷ cs) e (refused n (i + 0)) = faulty {k = 0} (record { within = omega arith; here = f; before = λ j m l g. absurd (omega arith) }) in
      rw z at g

  none_head : (head_bad c cs e ≡ false) → is_utf8 c ≡ true → (n : ℕ) → Fault (c ∷ cs) e 0 n → ⊥
  none_head h u n (bad b) = head_good c cs e h b
  none_head h u n (broken b v) = false≢true (sym v ∙ u)

  found_behind : {v : Verdict} → ((n : ℕ) → Fault (c ∷ cs) e 0 n → ⊥) → Found (i + 1) cs e v → Found i (c ∷ cs) e v
  found_behind f (faultless g) = faultless by
    where
      by : (k n : ℕ) → k < length (c ∷ cs) → Fault (c ∷ cs) e k n → ⊥
      by zero n l h = f n h
      by (suc k) n l h = g k n (omega arith) (fault_down c cs e h)
  found_behind f (faulty {k} {n} g) =
      let z : i + suc k ≡ i + 1 + k = omega arith in
      let r : Found i (c ∷ cs) e (refused n (i + suc k)) = faulty {k = suc k} (record { within = (let w = g.within in omega arith); here = fault_up c cs e g.here; before = by }) in
      rw z at r
    where
      by : (j m : ℕ) → j < suc k → Fault (c ∷ cs) e j m → ⊥
      by zero m l h = f m h
      by (suc j) m l h = g.before j m (omega arith) (fault_down c cs e h)

module _ (i : ℕ) (c : List ℕ) (cs : List (List ℕ)) (e : Ending) (next : Verdict) (r : Found (i + 1) cs e next) where
  found_first : Found i (c ∷ cs) e (column_judged i (head_bad c cs e) c next)
  unfolding column_judged
  found_first = by (head_bad c cs e) (is_utf8 c) refl refl
    where
      by : (b u : Bool) → head_bad c cs e ≡ b → is_utf8 c ≡ u → Found i (c ∷ cs) e (pick b (refused 18 i) (pick u next (refused 5 i)))
      by true u p q = first_head i c cs e (bad (head_bad_lem c cs e p))
      by false true p q = found_behind i c cs e (none_head i c cs e p q) r
      by false false p q = first_head i c cs e (broken (head_good c cs e p) q)

pub found : (i : ℕ) (cs : List (List ℕ)) (e : Ending) → Found i cs e (columns_judged i cs e)
unfolding columns_judged
found i [] e = faultless (λ k n l. absurd (omega arith))
found i (c ∷ cs) e = rw judged_cons (found_first i c cs e (columns_judged (i + 1) cs e) (found (i + 1) cs e))

-- ---- a first fault is what is found

-- there is only one
first_one : {cs : List (List ℕ)} {e : Ending} {k j n m : ℕ} → FirstFault cs e k n → FirstFault cs e j m → (k ≡ j) × (n ≡ m)
first_one {cs} {e} {k} {j} {n} {m} f g = by (dec_lt k j) (dec_lt j k)
  where
    by : Dec (k < j) → Dec (j < k) → (k ≡ j) × (n ≡ m)
    by (yes l) d = absurd (g.before k n l f.here)
    by (no l) (yes d) = absurd (f.before j m d g.here)
    by (no l) (no d) = let z : k ≡ j = omega arith in (z, fault_one f.here (rw z g.here))

pub fault_judged : (cs : List (List ℕ)) (e : Ending) {k n : ℕ} → FirstFault cs e k n → columns_judged 0 cs e ≡ refused n k
fault_judged cs e {k} {n} f = by (found 0 cs e)
  where
    by : {v : Verdict} → Found 0 cs e v → v ≡ refused n k
    by (faultless g) = absurd (g k n f.within f.here)
    by (faulty {k = j} {n = m} g) =
        let q = first_one f g in
        let z : 0 + j ≡ k = omega (arith, q.0) in
        rw (z, q.1)

-- ---- columns without a fault are a line's

-- the text ends as its last column does
last_ends : (cs : List (List ℕ)) (k : ℕ) → k + 1 ≡ length cs → ends_in 13 (joined 9 cs) ≡ ends_in 13 (get_or cs k [])
last_ends [] k l = absurd (omega arith)
last_ends (c ∷ []) zero l = rw joined_one
last_ends (c ∷ []) (suc k) l = absurd (omega arith)
last_ends (c ∷ d ∷ cs) zero l = absurd (omega arith)
last_ends (c ∷ d ∷ cs) (suc k) l = rw (joined_more, return_tab) (last_ends (d ∷ cs) k (omega arith))

-- the columns, their ending and a rest are the line's text and the rest
pub line_whole : (cs : List (List ℕ)) (e : Ending) (rest : List ℕ) → joined 9 cs ++ (ending_bytes e ++ rest) ≡ line_text cs e ++ rest
unfolding line_text
line_whole cs e rest = sym (append_assoc (joined 9 cs) (ending_bytes e) rest)

module _ {cs : List (List ℕ)} {e : Ending} (n : MayEnd (length cs)) (f : (k n : ℕ) → k < length cs → Fault cs e k n → ⊥) where
  each_column : (k : ℕ) → k < length cs → Column (get_or cs k [])
  each_column k l = by (is_bad (get_or cs k [])) refl
    where
      by : (b : Bool) → is_bad (get_or cs k []) ≡ b → Column (get_or cs k [])
      by true q = absurd (f k 18 l (bad (no_column (λ g. false≢true (sym (column_bad _ g) ∙ q)))))
      by false q = bad_column _ q

  each_utf8 : (k : ℕ) → k < length cs → is_utf8 (get_or cs k []) ≡ true
  each_utf8 k l = by (is_utf8 (get_or cs k [])) refl
    where
      by : (u : Bool) → is_utf8 (get_or cs k []) ≡ u → u ≡ true
      by true q = refl
      by false q = absurd (f k 5 l (broken (λ b. f k 18 l (bad b)) q))

  count_some : 0 < length cs
  count_some = ⊎_elim (λ h. omega arith) (λ h. omega arith) n

  none_lost : e ≡ feed → ends_in 13 (joined 9 cs) ≡ false
  none_lost q = by (ends_in 13 (get_or cs (length cs - 1) [])) refl
    where
      by : (b : Bool) → ends_in 13 (get_or cs (length cs - 1) []) ≡ b → ends_in 13 (joined 9 cs) ≡ false
      by true r = absurd (let l = count_some in f (length cs - 1) 18 (omega arith) (bad (lost (omega arith) r q)))
      by false r = last_ends cs (length cs - 1) (let l = count_some in omega arith) ∙ r

  text_ended : {rest : List ℕ} → (e ≡ nothing → rest ≡ []) → Ended (joined 9 cs) e rest
  text_ended {rest} r = by e refl
    where
      by : (d : Ending) → e ≡ d → Ended (joined 9 cs) d rest
      by nothing q = rw (r q) by_nothing
      by feed q = by_feed (none_lost q)
      by return_feed q = by_return_feed

  pub faultless_line : {rest : List ℕ} → (e ≡ nothing → rest ≡ []) → Begins (line_text cs e ++ rest) cs e rest
  faultless_line {rest} r =
      record {
        shaped = record { count = n; each = each_column; whole = line_whole cs e rest; ended = text_ended r };
        utf8 = utf8_all cs each_utf8;
      }

-- ---- and a line's columns have none

module _ {s : List ℕ} {cs : List (List ℕ)} {e : Ending} {rest : List ℕ} (b : Begins s cs e rest) where
  pub line_faultless : (k n : ℕ) → k < length cs → Fault cs e k n → ⊥
  line_faultless k n l (bad (no_column f)) = f (b.shaped.each k l)
  line_faultless k n l (bad (lost q r z)) = by b.shaped.ended z
    where
      by : {d : Ending} {u : List ℕ} → Ended (joined 9 cs) d u → d ≡ feed → ⊥
      by by_nothing z = let y : ◌≡◌ {A = ℕ} 0 1 = cc in omega arith
      by (by_feed h) z = false≢true (sym h ∙ last_ends cs k q ∙ r)
      by by_return_feed z = let y : ◌≡◌ {A = ℕ} 0 1 = cc in omega arith
  line_faultless k n l (broken c u) = false≢true (sym u ∙ utf8_each cs b.utf8 k l)

  -- so they are one with any rest
  pub line_again : {u : List ℕ} → (e ≡ nothing → u ≡ []) → Begins (line_text cs e ++ u) cs e u
  line_again = faultless_line b.shaped.count line_faultless

-- the line is their text
pub line_is : {cs : List (List ℕ)} {e : Ending} {t : List ℕ} → IsLine cs e t → t ≡ line_text cs e
line_is {cs} {e} b = sym b.shaped.whole ∙ line_whole cs e [] ∙ append-nil (line_text cs e)

-- ---- the three ways of the columns

pub data Way (cs : List (List ℕ)) (e : Ending) : Type 0 where
  uncounted : (MayEnd (length cs) → ⊥) → required (length cs) ≡ true → Way cs e
  faulted : {k n : ℕ} → MayEnd (length cs) → FirstFault cs e k n → Way cs e
  lined : columns_judged 0 cs e ≡ fine → IsLine cs e (line_text cs e) → Way cs e

pub way : (cs : List (List ℕ)) (e : Ending) → Way cs e
way cs e = by (required (length cs)) refl
  where
    judged : MayEnd (length cs) → {v : Verdict} → columns_judged 0 cs e ≡ v → Found 0 cs e v → Way cs e
    judged n q (faultless f) = lined q (rw append-nil at (faultless_line n f {rest = []} (λ z. refl)))
    judged n q (faulty f) = faulted n f

    by : (b : Bool) → required (length cs) ≡ b → Way cs e
    by true q = uncounted (λ n. false≢true (sym (count_required n) ∙ q)) q
    by false q = judged (required_count (length cs) q) refl (found 0 cs e)

-- ---- the answer, by these

module _ (cs : List (List ℕ)) (e : Ending) (l : List ℕ) where
  pub columns_few : (MayEnd (length cs) → ⊥) → columns_answer cs e l ≡ says 19 []
  unfolding columns_answer
  columns_few n = by (way cs e)
    where
      by : Way cs e → columns_answer cs e l ≡ says 19 []
      by (uncounted m q) = rw q
      by (faulted m f) = absurd (n m)
      by (lined q b) = absurd (n b.shaped.count)

  pub columns_fault : {k n : ℕ} → MayEnd (length cs) → FirstFault cs e k n → columns_answer cs e l ≡ says n (k ∷ [])
  unfolding columns_answer
  columns_fault m f = rw (count_required m, fault_judged cs e f)

  pub columns_line : IsLine cs e (line_text cs e) → columns_answer cs e l ≡ room_answer (line_text cs e) l
  unfolding columns_answer
  columns_line b = by (way cs e)
    where
      by : Way cs e → columns_answer cs e l ≡ room_answer (line_text cs e) l
      by (uncounted m q) = absurd (m b.shaped.count)
      by (faulted m f) = absurd (line_faultless b _ _ f.within f.here)
      by (lined q b) = rw (count_required b.shaped.count, q)

-- no fault has the number 0
pub fault_some : {cs : List (List ℕ)} {e : Ending} {k n : ℕ} → Fault cs e k n → n ≡ 0 → ⊥
fault_some (bad b) z = omega arith
fault_some (broken b u) z = omega arith

-- so an answer that is done has a line, which fits
pub record Done (cs : List (List ℕ)) (e : Ending) (l : List ℕ) : Type 0 where
  pub line : IsLine cs e (line_text cs e)
  pub room : length (line_text cs e) ≤ length l
  pub answer : columns_answer cs e l ≡ says 0 (length (line_text cs e) ∷ [])

pub columns_done : (cs : List (List ℕ)) (e : Ending) (l : List ℕ) → number_of (columns_answer cs e l) ≡ 0 → Done cs e l
columns_done cs e l z = by (way cs e)
  where
    by : Way cs e → Done cs e l
    by (uncounted m q) = absurd (let y = ap number_of (columns_few cs e l m) in omega arith)
    by (faulted m f) = absurd (fault_some f.here (sym (ap number_of (columns_fault cs e l m f)) ∙ z))
    by (lined q b) =
        let a = columns_line cs e l b in
        let r = room_done (line_text cs e) l (rw a at z) in
        record { line = b; room = r; answer = a ∙ room_fits (line_text cs e) l r }
