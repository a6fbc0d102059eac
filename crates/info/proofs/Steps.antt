-- The shape of what is left gives the definition's answer, and the definition's answer comes by one of the shapes: both by the first text between `;`, cut at its first `=`. Assumes nothing.
use Prim.Native.Nat.{ℕ, ◌+◌, ◌<◌, ◌≤◌}
use mathlib.Core.Path.{◌≡◌, refl, sym, ap, ◌∙◌}
use mathlib.Core.Bool.{Bool, true, false}
use mathlib.Core.List.{List, [], ◌∷◌, ◌++◌, append-nil}
use native.Mathlib.Omega.{arith}
use lib.ListN.{length, drop, length-append, length-drop}
use lib.Dec.{ltb, eqb}
use borrow.Author.Tests.{ltb-true, ltb-false, eqb-true, eqb-false}
use Rattle.text.specs.Pick.{pick}
use Rattle.text.specs.Answer.{Answer, says}
use Rattle.text.specs.Bytes.{is_empty}
use Rattle.text.proofs.ByteLaws.{none_empty, some_empty}
use Rattle.pieces.specs.Pieces.{split, joined}
use Rattle.pieces.proofs.PieceLaws.{free_nil, first_free, split_nil, split_append, one_text_lem, more_text}
use Rattle.info.specs.Info.{Pair, alone, paired, key_of, pair_of, places_of, entry_answer, dangling_answer, ended_answer, first_answer, step_answer}
use Rattle.info.specs.Demands.{StepAt, past_end, at_end, key_last, key_more, value_last, value_more, key_dangles, value_dangles, equals_first, semicolon_first, Steps, OneStepper, spelled, value_free, Good}
use Rattle.info.proofs.EntryLaws.{pair_spelled, spelled_pair, Parted, pair_parted, parted_good, spelled_free, step_beyond, step_end, step_inside, first_last, first_ended, ended_none, ended_some, step_last, step_more}

-- ---- from the shape to the answer

inside : (t : List ℕ) (at : ℕ) {s : List ℕ} → drop at t ≡ s → 0 < length s → at < length t
inside t at e n = let l = length-drop at t in omega (arith, ap length e)

-- past the `;` behind a value
past_value : (at : ℕ) (k v : List ℕ) → at + length (k ++ 61 ∷ v) + 1 ≡ at + length k + 1 + length v + 1
past_value at k v = simp length-append (omega arith)

module _ (t : List ℕ) (at : ℕ) where
  dangles_length : (p : Pair) → drop at t ≡ spelled p ++ 59 ∷ [] → at + length (spelled p) + 1 ≡ length t
  dangles_length p e = let l = length-drop at t in omega (arith, simp length-append at (ap length e))

  -- an entry whose `;` is the last byte
  step_dangles : (p : Pair) → Parted p → drop at t ≡ spelled p ++ 59 ∷ [] → step_answer t at ≡ dangling_answer at p (length t)
  step_dangles p c e =
      let m = dangles_length p e in
      step_inside t at (omega arith)
      ∙ rw (e, split_append (spelled p) [] c.no_semicolon, first_ended, pair_spelled p c.no_equals, m, ended_none at p (length t) [] refl)

  -- the first text begins with `=`: its key is empty
  step_equals : {rest : List ℕ} → drop at t ≡ 61 ∷ rest → step_answer t at ≡ says 8 ((at + 1) ∷ [])
  unfolding first_answer entry_answer ended_answer dangling_answer spelled
  step_equals {rest} e = step_inside t at (inside t at e (omega arith)) ∙ rw e (by (split 59 (61 ∷ rest)) refl)
    where
      keyless : (v : List ℕ) → pair_of (61 ∷ v) ≡ paired [] v
      keyless v = pair_spelled (paired [] v) free_nil

      ended : (v s : List ℕ) (next : ℕ) → ended_answer at (paired [] v) next s ≡ says 8 ((at + 1) ∷ [])
      ended v [] next = rw (none_empty [] refl)
      ended v (b ∷ s) next = rw (none_empty [] refl)

      by : (ps : List (List ℕ)) → split 59 (61 ∷ rest) ≡ ps → first_answer at ps ≡ says 8 ((at + 1) ∷ [])
      by [] q = absurd (split_nil 59 _ q)
      by (p ∷ []) q = rw (← one_text_lem 59 q, keyless rest, none_empty [] refl)
      by ([] ∷ g ∷ gs) q = absurd (let m = more_text 59 (61 ∷ rest) q in let z : ◌≡◌ {A = ℕ} 61 59 = cc in omega arith)
      by ((b ∷ v) ∷ g ∷ gs) q =
          let m = more_text 59 (61 ∷ rest) q in
          let z : b ≡ 61 = cc in
          rw (z, keyless v) (ended v (joined 59 (g ∷ gs)) _)

  -- the first text is empty, and not the last
  step_semicolon : {b : ℕ} {rest : List ℕ} → drop at t ≡ 59 ∷ b ∷ rest → step_answer t at ≡ says 8 ((at + 1) ∷ [])
  unfolding entry_answer spelled
  step_semicolon {b} {rest} e =
      step_inside t at (inside t at e (omega arith))
      ∙ rw (e, split_append {b = 59} [] (b ∷ rest) free_nil, first_ended, pair_spelled (alone []) free_nil, ended_some at (alone []) _ (b ∷ rest) (omega arith), none_empty [] refl)

module _ {t : List ℕ} {at : ℕ} where
  pub shape_answer : {a : Answer} → StepAt t at a → step_answer t at ≡ a
  unfolding spelled value_free places_of dangling_answer
  shape_answer (past_end h) = step_beyond t at h
  shape_answer (at_end h) = step_end t at h
  shape_answer (key_last {k} g e) = step_last t at (alone k) (record { key = g; value = tt }) (rw append-nil e)
  shape_answer (key_more {k} g b rest e) = step_more t at (alone k) (record { key = g; value = tt }) (b ∷ rest) (omega arith) e
  shape_answer (value_last {k} {v} g f e) = step_last t at (paired k v) (record { key = g; value = f }) (rw append-nil e)
  shape_answer (value_more {k} {v} g f b rest e) =
      rw (← past_value at k v) (step_more t at (paired k v) (record { key = g; value = f }) (b ∷ rest) (omega arith) e)
  shape_answer (key_dangles {k} f s e) = step_dangles t at (alone k) (record { no_equals = f; no_semicolon = s }) e
  shape_answer (value_dangles {k} {v} g f e) =
      let w : Good (paired k v) = record { key = g; value = f } in
      step_dangles t at (paired k v) (record { no_equals = g.no_equals; no_semicolon = spelled_free (paired k v) w }) e ∙ rw (some_empty k g.some)
  shape_answer (equals_first e) = step_equals t at e
  shape_answer (semicolon_first e) = step_semicolon t at e

-- ---- from the answer to the shape

module _ (t : List ℕ) (at : ℕ) where
  -- by whether the key is empty
  keyed : (p : Pair) (x y : Answer) → Parted p → (key_of p ≡ [] → StepAt t at x) → (Good p → StepAt t at y) → StepAt t at (pick (is_empty (key_of p)) x y)
  keyed p x y c none some = by (key_of p) refl
    where
      by : (k : List ℕ) → key_of p ≡ k → StepAt t at (pick (is_empty k) x y)
      by [] e = rw (none_empty [] refl) (none e)
      by (b ∷ k) e = rw (some_empty (b ∷ k) (omega arith)) (some (parted_good p c (rw e (omega arith))))

  -- an entry that the column's end ends
  shape_last : at < length t → (p : Pair) → Parted p → drop at t ≡ spelled p → StepAt t at (entry_answer at p (length t))
  unfolding entry_answer spelled value_free places_of
  shape_last h (alone k) c e =
      let l = length-drop at t in
      keyed (alone k) _ _ c (λ z. absurd (omega (arith, ap length (e ∙ z)))) (λ g. key_last g.key e)
  shape_last h (paired k v) c e = keyed (paired k v) _ _ c (λ z. equals_first (rw z at e)) (λ g. value_last g.key g.value e)

  -- one before a `;` that is the last byte
  shape_dangles : (p : Pair) → Parted p → drop at t ≡ spelled p ++ 59 ∷ [] → StepAt t at (dangling_answer at p (length t))
  unfolding dangling_answer spelled value_free
  shape_dangles (alone k) c e = key_dangles c.no_equals c.no_semicolon e
  shape_dangles (paired k v) c e = keyed (paired k v) _ _ c (λ z. equals_first (rw z at e)) (λ g. value_dangles g.key g.value e)

  -- one before a `;` and more
  shape_more : (p : Pair) → Parted p → (b : ℕ) (rest : List ℕ) → drop at t ≡ spelled p ++ 59 ∷ b ∷ rest
      → StepAt t at (entry_answer at p (at + length (spelled p) + 1))
  unfolding entry_answer spelled value_free places_of
  shape_more (alone k) c b rest e = keyed (alone k) _ _ c (λ z. semicolon_first (rw z at e)) (λ g. key_more g.key b rest e)
  shape_more (paired k v) c b rest e =
      keyed (paired k v) _ _ c (λ z. equals_first (rw z at e)) (λ g. rw (past_value at k v) (value_more g.key g.value b rest e))

  shape_ended : (p : Pair) → Parted p → (s : List ℕ) → drop at t ≡ spelled p ++ 59 ∷ s
      → StepAt t at (ended_answer at p (at + length (spelled p) + 1) s)
  unfolding ended_answer
  shape_ended p c [] e = rw (dangles_length t at p e) (shape_dangles p c e)
  shape_ended p c (b ∷ rest) e = shape_more p c b rest e

  pub answer_shape : StepAt t at (step_answer t at)
  unfolding first_answer
  answer_shape = placed (ltb (length t) at) refl
    where
      cut : at < length t → (ps : List (List ℕ)) → split 59 (drop at t) ≡ ps → StepAt t at (first_answer at ps)
      cut h [] q = absurd (split_nil 59 _ q)
      cut h (e ∷ []) q =
          let d = one_text_lem 59 q in
          let l = length-drop at t in
          let m : at + length e ≡ length t = omega (arith, ap length d) in
          rw (first_last, m) (shape_last h (pair_of e) (pair_parted e (first_free 59 _ q)) (d ∙ sym (spelled_pair e)))
      cut h (e ∷ f ∷ fs) q =
          rw (spelled_pair e) at (shape_ended (pair_of e) (pair_parted e (first_free 59 _ q)) (joined 59 (f ∷ fs)) (rw (spelled_pair e) (more_text 59 _ q)))

      within : at ≤ length t → (c : Bool) → eqb at (length t) ≡ c → StepAt t at (step_answer t at)
      within h true e = let l = eqb-true at (length t) e in rw (step_end t at l) (at_end l)
      within h false e =
          let l = eqb-false at (length t) e in
          let m : at < length t = omega arith in
          rw (step_inside t at m) (cut m (split 59 (drop at t)) refl)

      placed : (c : Bool) → ltb (length t) at ≡ c → StepAt t at (step_answer t at)
      placed true h = let l = ltb-true _ _ h in rw (step_beyond t at l) (past_end l)
      placed false h = within (ltb-false _ _ h) (eqb at (length t)) refl

-- ---- both

pub steps : Steps step_answer
unfolding Steps
steps t at a = (λ e. rw e at (answer_shape t at), shape_answer)

pub one_stepper : OneStepper
unfolding OneStepper Steps
one_stepper step other s o t at = sym ((o t at (step t at)).1 ((s t at (step t at)).0 refl))

-- ---- what stands at a place, an entry as a pair

pub data Stands (t : List ℕ) (at : ℕ) : Answer → Type 0 where
  outside : length t < at → Stands t at (says 6 (at ∷ []))
  nothing_left : at ≡ length t → Stands t at (says 10 (at ∷ []))
  last_entry : (p : Pair) → Good p → drop at t ≡ spelled p ++ [] → Stands t at (says 0 (length t ∷ places_of at p))
  one_entry : (p : Pair) → Good p → (s : List ℕ) → 0 < length s → drop at t ≡ spelled p ++ 59 ∷ s
      → Stands t at (says 0 ((at + length (spelled p) + 1) ∷ places_of at p))
  last_key : at < length t → Stands t at (says 7 (length t ∷ []))
  keyless : at < length t → Stands t at (says 8 ((at + 1) ∷ []))
  last_value : at < length t → Stands t at (says 9 (length t ∷ []))

shape_stands : (t : List ℕ) (at : ℕ) {a : Answer} → StepAt t at a → Stands t at a
unfolding spelled value_free places_of
shape_stands t at (past_end h) = outside h
shape_stands t at (at_end h) = nothing_left h
shape_stands t at (key_last {k} g e) = last_entry (alone k) (record { key = g; value = tt }) (rw append-nil e)
shape_stands t at (key_more {k} g b rest e) = one_entry (alone k) (record { key = g; value = tt }) (b ∷ rest) (omega arith) e
shape_stands t at (value_last {k} {v} g f e) = last_entry (paired k v) (record { key = g; value = f }) (rw append-nil e)
shape_stands t at (value_more {k} {v} g f b rest e) =
    rw (← past_value at k v) (one_entry (paired k v) (record { key = g; value = f }) (b ∷ rest) (omega arith) e)
shape_stands t at (key_dangles f s e) = last_key (inside t at e (simp length-append (omega arith)))
shape_stands t at (value_dangles g f e) = last_value (inside t at e (simp length-append (omega arith)))
shape_stands t at (equals_first e) = keyless (inside t at e (omega arith))
shape_stands t at (semicolon_first e) = keyless (inside t at e (omega arith))

pub step_stands : (t : List ℕ) (at : ℕ) → Stands t at (step_answer t at)
step_stands t at = shape_stands t at (answer_shape t at)
