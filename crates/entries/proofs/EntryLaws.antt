-- Entry lists: each way through the code is a law of `rising` and of `place_answer`; the list and what it holds, end by end. Assumes nothing.
use Prim.Native.Nat.{ℕ, zero, suc, ◌+◌, ◌-◌, ◌<◌, ◌≤◌, zero-le}
use mathlib.Core.Path.{◌≡◌, refl, sym, ap, ◌∙◌}
use mathlib.Core.Logic.{◌⊎◌, inl, inr}
use mathlib.Core.List.{List, [], ◌∷◌, flatten}
use mathlib.Core.Bool.{Bool, true, false, ◌&&◌, and-false, and-eq-true_iff}
use native.Mathlib.Omega.{arith}
use native.Mathlib.Numerals.{add-one}
use native.Mathlib.Nat.{le_refl, sub_self, sub-zero}
use lib.ListN.{length, get_or, take, drop, drop_of_length-le}
use lib.Seq.{drop-cons, drop-drop, take-add}
use lib.Dec.{leb, ltb}
use borrow.Author.Tests.{le-leb, lt-leb, leb-true, lt-ltb, le-ltb}
use Rattle.std.specs.Prelude.{Result, Ok, Err}
use Rattle.text.specs.Pick.{pick}
use Rattle.text.specs.Answer.{says}
use Rattle.text.specs.declared.range.Range.{Range}
use Rattle.text.proofs.Lists.{here}
use Rattle.entries.specs.Entries.{rising, entries_from, entry_list}
use Rattle.entries.specs.Inner.{ends_answer, start_of, place_answer, entry_answer}
use Rattle.entries.specs.Paper.{ends_paper, entry_paper}
use Rattle.entries.specs.declared.entries.WrongEnds.{WrongEnds}
use Rattle.entries.specs.declared.entries.NoEntry.TheVariants as N
use Rattle.entries.proofs.PaperLaws.{ends_paper_injective}

-- ---- the judge

-- the ends from i on rise from start on, where all do from 0 on
pub record Judging (t ends : List ℕ) (start i : ℕ) : Type 0 where
  pub within : i ≤ length ends
  pub same : rising start (drop i ends) (length t) ≡ rising 0 ends (length t)

pub judge_first : {t ends : List ℕ} → Judging t ends 0 0
judge_first = record { within = zero-le; same = refl }

module _ {t ends : List ℕ} {start i : ℕ} (g : Judging t ends start i) where
  module _ (h : i < length ends) where
    judge_here : rising start (get_or ends i 0 ∷ drop (i + 1) ends) (length t) ≡ rising 0 ends (length t)
    judge_here = rw (here ends i h) at g.same

    pub judge_wrong : {no : WrongEnds} → (get_or ends i 0 < start) ⊎ ((start ≤ get_or ends i 0) × (length t < get_or ends i 0)) → ends_paper (Err no) ≡ ends_answer t ends
    unfolding rising ends_paper ends_answer
    judge_wrong (inl l) = rw (← judge_here, lt-leb _ _ l)
    judge_wrong (inr l) = rw (← judge_here, lt-leb _ _ l.1, and-false)

    pub judge_turn : start ≤ get_or ends i 0 → get_or ends i 0 ≤ length t → Judging t ends (get_or ends i 0) (i + 1)
    unfolding rising
    judge_turn l w = record { within = omega arith; same = rw (le-leb _ _ l, le-leb _ _ w) at judge_here }

  pub judge_past : {u : Unit} → length ends ≤ i → ends_paper (Ok u) ≡ ends_answer t ends
  unfolding rising ends_paper ends_answer
  judge_past h = let e : true ≡ rising 0 ends (length t) = rw (drop_of_length-le ends h) at g.same in rw (← e)

-- ---- one entry

pub start_first : (ends : List ℕ) (i : ℕ) → i ≡ 0 → 0 ≡ start_of ends i
unfolding start_of
start_first ends i e = rw e

pub start_later : (ends : List ℕ) (i : ℕ) → (i ≡ 0 → ⊥) → get_or ends (i - 1) 0 ≡ start_of ends i
unfolding start_of
start_later ends zero h = absurd (h refl)
start_later ends (suc i) h = let e : suc i - 1 ≡ i = omega arith in rw e

-- a place from start to end in a text of n bytes
pub record Fits (start end n : ℕ) : Type 0 where
  pub up : start ≤ end
  pub within : end ≤ n

module _ (t ends : List ℕ) (i : ℕ) (h : i < length ends) where
  entry_place : entry_answer t ends i ≡ place_answer (start_of ends i) (get_or ends i 0) (length t)
  unfolding entry_answer
  entry_place = rw (lt-ltb _ _ h)

  -- the answer where its start and its end make a place
  pub entry_fits : Fits (start_of ends i) (get_or ends i 0) (length t) → entry_answer t ends i ≡ says 0 (start_of ends i ∷ (get_or ends i 0 - start_of ends i) ∷ [])
  unfolding place_answer
  entry_fits f = entry_place ∙ rw (le-leb _ _ f.up, le-leb _ _ f.within)

  module _ {start : ℕ} (e : start ≡ start_of ends i) where
    pub gives_wrong : (get_or ends i 0 < start) ⊎ ((start ≤ get_or ends i 0) × (length t < get_or ends i 0)) → entry_paper (Err N.Wrong) ≡ entry_answer t ends i
    unfolding entry_paper place_answer
    gives_wrong (inl l) = rw (entry_place, ← e, lt-leb _ _ l)
    gives_wrong (inr l) = rw (entry_place, lt-leb _ _ l.1, and-false)

    pub gives_place : start ≤ get_or ends i 0 → get_or ends i 0 ≤ length t → entry_paper (Ok (record { start = start; len = get_or ends i 0 - start })) ≡ entry_answer t ends i
    unfolding entry_paper
    gives_place l w = rw e (sym (entry_fits (record { up = rw e at l; within = w })))

pub gives_nothing : (t ends : List ℕ) (i : ℕ) → length ends ≤ i → entry_paper (Err N.Nothing) ≡ entry_answer t ends i
unfolding entry_paper entry_answer
gives_nothing t ends i h = rw (le-ltb _ _ h)

-- ---- ends that rise

-- what the ends e ∷ es, which rise from start on, give
record Rises (start e : ℕ) (es : List ℕ) (n : ℕ) : Type 0 where
  fits : Fits start e n
  rest : rising e es n ≡ true

rises : {start e : ℕ} {es : List ℕ} {n : ℕ} → rising start (e ∷ es) n ≡ true → Rises start e es n
unfolding rising
rises {start} {e} {es} {n} r =
    let a = (and-eq-true_iff (leb start e) (leb e n && rising e es n)).0 r in
    let b = (and-eq-true_iff (leb e n) (rising e es n)).0 a.1 in
    record { fits = record { up = leb-true _ _ a.0; within = leb-true _ _ b.0 }; rest = b.1 }

-- the starts are 0 and then the ends
start_at : (ends : List ℕ) (i : ℕ) → start_of ends i ≡ get_or (0 ∷ ends) i 0
unfolding start_of
start_at ends zero = refl
start_at ends (suc i) = refl

rising_at : (start : ℕ) (ends : List ℕ) (n i : ℕ) → rising start ends n ≡ true → i < length ends → Fits (get_or (start ∷ ends) i 0) (get_or ends i 0) n
rising_at start [] n i r h = absurd (omega arith)
rising_at start (e ∷ es) n zero r h = (rises r).fits
rising_at start (e ∷ es) n (suc i) r h = rising_at e es n i (rises r).rest (omega arith)

rising_last : (start : ℕ) (ends : List ℕ) (n : ℕ) → rising start ends n ≡ true → start ≤ get_or (start ∷ ends) (length ends) 0
rising_last start [] n r = le_refl start
rising_last start (e ∷ es) n r =
    let f : Rises start e es n = rises r in
    let l = rising_last e es n f.rest in
    omega arith

-- none is above the last
rising_to_last : (start : ℕ) (ends : List ℕ) (n : ℕ) → rising start ends n ≡ true → rising start ends (get_or (start ∷ ends) (length ends) 0) ≡ true
unfolding rising
rising_to_last start [] n r = refl
rising_to_last start (e ∷ es) n r =
    let f : Rises start e es n = rises r in
    rw (le-leb _ _ f.fits.up, le-leb _ _ (rising_last e es n f.rest)) (rising_to_last e es n f.rest)

-- each entry has a place in the text
pub rising_fits : (ends : List ℕ) (n i : ℕ) → rising 0 ends n ≡ true → i < length ends → Fits (start_of ends i) (get_or ends i 0) n
rising_fits ends n i r h = rw start_at (rising_at 0 ends n i r h)

pub rising_below : (ends : List ℕ) (n i : ℕ) → rising 0 ends n ≡ true → i < length ends → get_or ends i 0 ≤ start_of ends (length ends)
rising_below ends n i r h = rw start_at (rising_at 0 ends _ i (rising_to_last 0 ends n r) h).within

-- and where each has one, the ends rise
pub fits_rising : (ends : List ℕ) (n : ℕ) → ((i : ℕ) → i < length ends → Fits (start_of ends i) (get_or ends i 0) n) → rising 0 ends n ≡ true
unfolding rising
fits_rising ends n f = by 0 ends (λ i h. rw (← start_at ends i) (f i h))
  where
    by : (start : ℕ) (es : List ℕ) → ((i : ℕ) → i < length es → Fits (get_or (start ∷ es) i 0) (get_or es i 0) n) → rising start es n ≡ true
    by start [] f = refl
    by start (e ∷ es) f =
        let g : Fits start e n = f 0 (omega arith) in
        rw (le-leb _ _ g.up, le-leb _ _ g.within) (by e es (λ i h. f (suc i) (omega arith)))

-- so the answer for each is that place
pub entry_rising : (t ends : List ℕ) (i : ℕ) → rising 0 ends (length t) ≡ true → i < length ends → entry_answer t ends i ≡ says 0 (start_of ends i ∷ (get_or ends i 0 - start_of ends i) ∷ [])
entry_rising t ends i r h = entry_fits t ends i h (rising_fits ends (length t) i r h)

-- ---- the list of entries

-- an entry for each end
pub entries_length : (t ends : List ℕ) → length (entry_list t ends) ≡ length ends
unfolding entry_list entries_from
entries_length t ends = by 0 ends
  where
    by : (start : ℕ) (es : List ℕ) → length (entries_from start t es) ≡ length es
    by start [] = refl
    by start (e ∷ es) = ap suc (by e es)

module _ (t ends : List ℕ) (i : ℕ) where
  -- entry i, and then the others
  pub entry_here : i < length ends → drop i (entry_list t ends) ≡ get_or (entry_list t ends) i [] ∷ drop (i + 1) (entry_list t ends)
  entry_here h = let n = entries_length t ends in rw add-one (drop-cons (entry_list t ends) i [] (omega arith))

  -- behind the last there is none
  pub entry_past : length ends ≤ i → drop i (entry_list t ends) ≡ []
  entry_past h = let n = entries_length t ends in drop_of_length-le (entry_list t ends) {i = i} (omega arith)

-- the entry is what stands in its place
pub entry_cut : (t ends : List ℕ) (i : ℕ) → i < length ends → take (get_or ends i 0 - start_of ends i) (drop (start_of ends i) t) ≡ get_or (entry_list t ends) i []
unfolding entry_list entries_from
entry_cut t ends i h = rw start_at (by 0 ends i h)
  where
    by : (start : ℕ) (es : List ℕ) (k : ℕ) → k < length es
        → take (get_or es k 0 - get_or (start ∷ es) k 0) (drop (get_or (start ∷ es) k 0) t) ≡ get_or (entries_from start t es) k []
    by start [] k h = absurd (omega arith)
    by start (e ∷ es) zero h = refl
    by start (e ∷ es) (suc k) h = by e es k (omega arith)

-- one after the other they are the text up to the last end
pub entries_text : (t ends : List ℕ) → rising 0 ends (length t) ≡ true → flatten (entry_list t ends) ≡ take (start_of ends (length ends)) t
unfolding entry_list entries_from flatten
entries_text t ends r = rw start_at (rw sub-zero at (by 0 ends r))
  where
    by : (start : ℕ) (es : List ℕ) → rising start es (length t) ≡ true → flatten (entries_from start t es) ≡ take (get_or (start ∷ es) (length es) 0 - start) (drop start t)
    by start [] r = rw sub_self
    by start (e ∷ es) r =
        let f : Rises start e es (length t) = rises r in
        let l = rising_last e es (length t) f.rest in
        let a : get_or (e ∷ es) (length es) 0 - start ≡ (e - start) + (get_or (e ∷ es) (length es) 0 - e) = omega arith in
        let d : start + (e - start) ≡ e = omega arith in
        rw (a, take-add, drop-drop, d, by e es f.rest)

-- ---- what an answer tells

-- what each verdict on ends tells
abbrev pub EndsTell : List ℕ → List ℕ → Result Unit WrongEnds → Type 0
EndsTell t ends (Ok u) = rising 0 ends (length t) ≡ true
EndsTell t ends (Err e) = rising 0 ends (length t) ≡ false

-- a verdict tells what the definition, whose paper it has, says
pub ends_tell : (t ends : List ℕ) (x : Result Unit WrongEnds) → ends_paper x ≡ ends_answer t ends → EndsTell t ends x
unfolding ends_paper ends_answer
ends_tell t ends x e = by (rising 0 ends (length t)) refl
  where
    by : (c : Bool) → rising 0 ends (length t) ≡ c → EndsTell t ends x
    by true r = rw (ends_paper_injective x (Ok tt) (e ∙ rw r)) r
    by false r = rw (ends_paper_injective x (Err (record {})) (e ∙ rw r)) r

-- a place that is answered for an entry lies in the text
pub entry_within : (t ends : List ℕ) (i : ℕ) (r : Range) → entry_paper (Ok r) ≡ entry_answer t ends i → r.start + r.len ≤ length t
unfolding entry_paper entry_answer place_answer
entry_within t ends i r e = by (ltb i (length ends)) (leb start end && leb end (length t)) refl e
  where
    start : ℕ
    start = start_of ends i

    end : ℕ
    end = get_or ends i 0

    by : (c d : Bool) → (leb start end && leb end (length t)) ≡ d
        → entry_paper (Ok r) ≡ pick c (pick d (says 0 (start ∷ (end - start) ∷ [])) (says 16 [])) (says 10 []) → r.start + r.len ≤ length t
    by true true q e =
        let u : r.start ≡ start = cc in
        let v : r.len ≡ end - start = cc in
        let g = (and-eq-true_iff (leb start end) (leb end (length t))).0 q in
        let l = leb-true start end g.0 in
        let w = leb-true end (length t) g.1 in
        omega arith
    by true false q e = absurd (let z : ◌≡◌ {A = ℕ} 0 1 = cc in omega arith)
    by false d q e = absurd (let z : ◌≡◌ {A = ℕ} 0 1 = cc in omega arith)

pub ruleset laws = (judge_first, judge_wrong, judge_turn, judge_past, start_first, start_later, gives_nothing, gives_wrong, gives_place)
