-- The steps of a well formed column are its entries, entry by entry; and steps with no refusal between come from such, by induction on the scan, of what
-- is left from a place on. Assumes nothing.
use Prim.Native.Nat.{ℕ, zero, suc, ◌+◌, ◌<◌, ◌≤◌, suc-le-suc}
use mathlib.Core.Path.{◌≡◌, refl, sym, ap, ◌∙◌}
use mathlib.Core.List.{List, [], ◌∷◌, ◌++◌, append-nil, map}
use native.Mathlib.Omega.{arith}
use lib.ListN.{length, get_or, take, drop, length-append, length-drop}
use lib.Seq.{drop-length}
use Rattle.text.specs.Answer.{Answer, says}
use Rattle.pieces.specs.Pieces.{joined}
use Rattle.pieces.proofs.PieceLaws.{joined_none, joined_one, joined_more}
use Rattle.info.specs.Info.{Pair, alone, paired, places_of, step_answer}
use Rattle.info.specs.Demands.{Stepper, spelled, Good, WellFormed, Scan, end, bare, full, Scans}
use Rattle.info.proofs.EntryLaws.{spelled_some, key_taken, value_taken, stands_length, after_entry, step_end, step_last, step_more}
use Rattle.info.proofs.Steps.{Stands, outside, nothing_left, last_entry, one_entry, last_key, keyless, last_value, step_stands}

-- ---- well formed columns

-- an entry and the others
good_cons : {p : Pair} (es : List Pair) → Good p → ((i : ℕ) → i < length es → Good (get_or es i (alone []))) → (i : ℕ) → i < suc (length es) → Good (get_or (p ∷ es) i (alone []))
good_cons es g each zero l = g
good_cons es g each (suc i) l = each i (omega arith)

joined_some : (p : Pair) → Good p → (es : List Pair) → 0 < length (joined 59 (map spelled (p ∷ es)))
joined_some p g [] = rw joined_one (spelled_some p g)
joined_some p g (q ∷ es) = rw joined_more (simp length-append (omega arith))

formed_none : WellFormed [] []
formed_none = record { each = λ i l. absurd (omega arith); whole = joined_none 59 }

-- the entry that the end ends: no other follows
formed_last : (p : Pair) → Good p → (es : List Pair) → WellFormed [] es → WellFormed (spelled p) (p ∷ es)
formed_last p g [] w = record { each = good_cons [] g w.each; whole = joined_one 59 (spelled p) }
formed_last p g (q ∷ es) w =
    let n = joined_some q (w.each 0 (omega arith)) es in
    absurd (omega (arith, ap length w.whole))

-- an entry before a text: another follows
formed_more : (p : Pair) → Good p → (s : List ℕ) → 0 < length s → (es : List Pair) → WellFormed s es → WellFormed (spelled p ++ 59 ∷ s) (p ∷ es)
formed_more p g s h [] w = absurd (omega (arith, ap length (sym (joined_none 59) ∙ w.whole)))
formed_more p g s h (q ∷ es) w =
    record {
      each = good_cons (q ∷ es) g w.each;
      whole = joined_more 59 (spelled p) (spelled q) (map spelled es) ∙ ap (λ (z : List ℕ). spelled p ++ 59 ∷ z) w.whole;
    }

-- ---- from a well formed column to its steps

-- a step that finds an entry, and the steps from there on
entry_scan : (step : Stepper) (t : List ℕ) (at : ℕ) (p : Pair) (r : List ℕ) {next : ℕ} {es : List Pair} → drop at t ≡ spelled p ++ r
    → step t at ≡ says 0 (next ∷ places_of at p) → Scan step t next es → Scan step t at (p ∷ es)
unfolding places_of
entry_scan step t at (alone k) r e s w = rw (key_taken t at r (alone k) e) at (bare s w)
entry_scan step t at (paired k v) r e s w = rw (key_taken t at r (paired k v) e, value_taken t at r k v e) at (full s w)

-- the steps from a place on are the entries of what is left from there on
scan_from : (t : List ℕ) (es : List Pair) (at : ℕ) → at ≤ length t → WellFormed (drop at t) es → Scan step_answer t at es
scan_from t [] at h w =
    let l = length-drop at t in
    end (step_end t at (omega (arith, ap length (sym (joined_none 59) ∙ w.whole))))
scan_from t (p ∷ []) at h w =
    let e : drop at t ≡ spelled p ++ [] = sym w.whole ∙ rw append-nil (joined_one 59 (spelled p)) in
    entry_scan step_answer t at p [] e (step_last t at p (w.each 0 (omega arith)) e) (end (step_end t (length t) refl))
scan_from t (p ∷ q ∷ es) at h w =
    let s : List ℕ = joined 59 (map spelled (q ∷ es)) in
    let e : drop at t ≡ spelled p ++ 59 ∷ s = sym w.whole ∙ joined_more 59 (spelled p) (spelled q) (map spelled es) in
    let n : 0 < length s = joined_some q (w.each 1 (omega arith)) es in
    let g : Good p = w.each 0 (omega arith) in
    let l = stands_length t at (59 ∷ s) p g e in
    let rest : WellFormed (drop (at + length (spelled p) + 1) t) (q ∷ es) =
    record { each = λ i l. w.each (suc i) (suc-le-suc l); whole = sym (after_entry t at p s e) }
    in
    entry_scan step_answer t at p (59 ∷ s) e (step_more t at p g s n e) (scan_from t (q ∷ es) (at + length (spelled p) + 1) (omega arith) rest)

-- ---- from the steps to a well formed column

-- a step that finds an entry stands before what is left: of the numbers it says, those of the entry
entry_back : (t : List ℕ) (at : ℕ) {a : Answer} → Stands t at a → {next : ℕ} {vs : List ℕ} → a ≡ says 0 (next ∷ vs) → (q : Pair) (es : List Pair)
    → ((p : Pair) (r : List ℕ) → drop at t ≡ spelled p ++ r → vs ≡ places_of at p → q ≡ p)
    → (next ≤ length t → WellFormed (drop next t) es) → WellFormed (drop at t) (q ∷ es)
entry_back t at (outside h) e q es cut rest = absurd (let z : ◌≡◌ {A = ℕ} 6 0 = cc in omega arith)
entry_back t at (nothing_left h) e q es cut rest = absurd (let z : ◌≡◌ {A = ℕ} 10 0 = cc in omega arith)
entry_back t at (last_key h) e q es cut rest = absurd (let z : ◌≡◌ {A = ℕ} 7 0 = cc in omega arith)
entry_back t at (keyless h) e q es cut rest = absurd (let z : ◌≡◌ {A = ℕ} 8 0 = cc in omega arith)
entry_back t at (last_value h) e q es cut rest = absurd (let z : ◌≡◌ {A = ℕ} 9 0 = cc in omega arith)
entry_back t at (last_entry p g d) {next} {vs} e q es cut rest =
    let n : next ≡ length t = cc in
    let k : vs ≡ places_of at p = cc in
    let w = rest (omega arith) in
    rw (cut p [] d k, d, append-nil) (formed_last p g es (rw (n, drop-length t) at w))
entry_back t at (one_entry p g s h d) {next} {vs} e q es cut rest =
    let n : next ≡ at + length (spelled p) + 1 = cc in
    let k : vs ≡ places_of at p = cc in
    let l = stands_length t at (59 ∷ s) p g d in
    let w = rest (omega arith) in
    rw (cut p (59 ∷ s) d k, d) (formed_more p g s h es (rw (n, after_entry t at p s d) at w))

-- which entry its numbers cut out
bare_back : (t : List ℕ) (at k m : ℕ) (p : Pair) (r : List ℕ) → drop at t ≡ spelled p ++ r → k ∷ m ∷ [] ≡ places_of at p → alone (take m (drop k t)) ≡ p
unfolding places_of
bare_back t at k m (alone key) r d e =
    let a : k ≡ at = cc in
    let b : m ≡ length key = cc in
    rw (a, b, key_taken t at r (alone key) d)
bare_back t at k m (paired key v) r d e = absurd (let z : ◌≡◌ {A = ℕ} 0 1 = cc in omega arith)

full_back : (t : List ℕ) (at k m v n : ℕ) (p : Pair) (r : List ℕ) → drop at t ≡ spelled p ++ r → k ∷ m ∷ v ∷ n ∷ [] ≡ places_of at p
    → paired (take m (drop k t)) (take n (drop v t)) ≡ p
unfolding places_of
full_back t at k m v n (alone key) r d e = absurd (let z : ◌≡◌ {A = ℕ} 0 1 = cc in omega arith)
full_back t at k m v n (paired key value) r d e =
    let a : k ≡ at = cc in
    let b : m ≡ length key = cc in
    let c : v ≡ at + length key + 1 = cc in
    let f : n ≡ length value = cc in
    rw (a, b, c, f, key_taken t at r (paired key value) d, value_taken t at r key value d)

-- only the end says 10
end_back : (t : List ℕ) (at : ℕ) {a : Answer} → Stands t at a → {vs : List ℕ} → a ≡ says 10 vs → at ≡ length t
end_back t at (nothing_left h) e = h
end_back t at (outside h) e = absurd (let z : ◌≡◌ {A = ℕ} 6 10 = cc in omega arith)
end_back t at (last_key h) e = absurd (let z : ◌≡◌ {A = ℕ} 7 10 = cc in omega arith)
end_back t at (keyless h) e = absurd (let z : ◌≡◌ {A = ℕ} 8 10 = cc in omega arith)
end_back t at (last_value h) e = absurd (let z : ◌≡◌ {A = ℕ} 9 10 = cc in omega arith)
end_back t at (last_entry p g d) e = absurd (let z : ◌≡◌ {A = ℕ} 0 10 = cc in omega arith)
end_back t at (one_entry p g s h d) e = absurd (let z : ◌≡◌ {A = ℕ} 0 10 = cc in omega arith)

formed_from : (t : List ℕ) {at : ℕ} {es : List Pair} → at ≤ length t → Scan step_answer t at es → WellFormed (drop at t) es
formed_from t {at} h (end e) = rw (end_back t at (step_stands t at) e, drop-length t) formed_none
formed_from t {at} h (bare {k = k} {m = m} {es = es} e s) =
    entry_back t at (step_stands t at) e (alone (take m (drop k t))) es (bare_back t at k m) (λ w. formed_from t w s)
formed_from t {at} h (full {k = k} {m = m} {v = v} {n = n} {es = es} e s) =
    entry_back t at (step_stands t at) e (paired (take m (drop k t)) (take n (drop v t))) es (full_back t at k m v n) (λ w. formed_from t w s)

-- ---- both

pub scans : Scans step_answer
unfolding Scans
scans t es = (scan_from t es 0 (omega arith), formed_from t (omega arith))
