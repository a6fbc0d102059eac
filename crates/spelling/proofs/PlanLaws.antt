-- What the tally of a whole list means: the plan made of it says how the list is spelled, and whether that fits, and what it takes. Assumes nothing.
use Prim.Native.Nat.{ℕ, ◌+◌, ◌-◌, ◌≤◌, ◌<◌, zero-le}
use mathlib.Core.Path.{◌≡◌, refl, sym, ap, ◌∙◌}
use mathlib.Core.Bool.{Bool, true, false, ◌&&◌, beq, and-true, and_assoc}
use mathlib.Core.List.{List, [], ◌∷◌}
use mathlib.Core.Option as O
use mathlib.Core.Option.{some, none}
use Rattle.std.specs.Prelude.{Option, Some, None, Result, Ok, Err}
use native.Mathlib.Omega.{arith}
use native.Mathlib.Nat.{zero-add, add-zero, add_assoc, sub-zero}
use native.Mathlib.Decide.{dec_le, dec_lt}
use lib.ListN.{length}
use lib.Dec.{leb, eqb}
use borrow.Author.Tests.{lt-ltb, le-ltb, le-leb, lt-leb}
use Rattle.text.specs.Pick.{pick}
use Rattle.allele.specs.Means.{all_phased}
use Rattle.allele.specs.declared.allele.Allele.{Allele}
use Rattle.allele.proofs.PhasedLaws.{phased_none, phased_more}
use Rattle.spelling.specs.Spelling.{body_text, allele_text, list_text, text, bad, phasing, empty, shaped, spell}
use Rattle.allele.specs.Row.{is_sound, first_unsound}
use Rattle.spelling.specs.Inner.{begun, shortened, counted, tallied, tally_from, tally_of, room_left, bare_plan, marked_plan, shape_of, plan_of}
use Rattle.spelling.specs.declared.tally.Tally.{Tally}
use Rattle.spelling.specs.declared.tally.Plan.{Plan}
use Rattle.spelling.specs.declared.tally.Plan.TheVariants as P
use Rattle.spelling.specs.declared.write.WriteError.{WriteError}
use Rattle.spelling.specs.declared.write.WriteError.TheVariants as W
use Rattle.allele.proofs.RowLaws.{unsound_none, unsound_more, unsound_here, sound_parts}
use Rattle.spelling.proofs.SpellLaws.{bare_text, marked_length, list_none, list_length, marked_longer, spell_none, spell_sound, spell_bad}
use Rattle.spelling.proofs.TallyLaws.{begin_is, firstly, laterly, stopped, tallied_stopped, tallied_unsound, tallied_sound, counted_first, counted_later, plan_empty, plan_sound, plan_stopped}

-- ---- a list whose missing alleles have the number 0

-- what a text of n bytes leaves of a room
abbrev pub left_by : ℕ → ℕ → Option ℕ
left_by room n = pick (leb n room) (Some (room - n)) None

left_more : (room n m : ℕ) → room_left (left_by room n) m ≡ left_by room (n + m)
unfolding room_left
left_more room n m = by (dec_le n room) (dec_le (n + m) room)
  where
    by : Dec (n ≤ room) → Dec (n + m ≤ room) → room_left (left_by room n) m ≡ left_by room (n + m)
    by (yes h) (yes s) =
        let d : room - n - m ≡ room - (n + m) = omega arith in
        let k : m ≤ room - n = omega arith in
        rw (le-leb n room h, le-leb (n + m) room s, le-leb m (room - n) k) (ap Some d)
    by (yes h) (no s) =
        let k : room - n < m = omega arith in
        let o : room < n + m = omega arith in
        rw (le-leb n room h, lt-leb (n + m) room o, lt-leb m (room - n) k)
    by (no h) d =
        let k : room < n = omega arith in
        let o : room < n + m = omega arith in
        rw (lt-leb n room k, lt-leb (n + m) room o)

-- after alleles with the first phasing f, later ones phased by l, and a text of n bytes
pub record Gathered (t : Tally) (f l : Bool) (room n : ℕ) : Type 0 where
  pub sound : t.bad ≡ None
  pub first : t.first ≡ f
  pub later : t.later ≡ l
  pub room_is : t.room ≡ room
  pub left : t.left ≡ left_by room n

gather_short : {t : Tally} {f l : Bool} {room n : ℕ} (m : ℕ) → Gathered t f l room n → Gathered (shortened t m) f l room (n + m)
unfolding shortened
gather_short {room = room} {n = n} m g =
    record { sound = g.sound; first = g.first; later = g.later; room_is = g.room_is; left = ap (λ (o : Option ℕ). room_left o m) g.left ∙ left_more room n m }

gather_later : {t : Tally} {f l : Bool} {room n : ℕ} (a : Allele) (k : ℕ) → Gathered t f l room n → is_sound a ≡ true → (k ≡ 0 → ⊥)
    → Gathered (tallied t a k) f (l && a.phased) room (n + length (allele_text false a))
gather_later {t} a k g s z =
    rw (tallied_sound t a k g.sound s, counted_later t a k z, marked_length a)
    (gather_short (length (body_text a) + 1)
    (record { sound = g.sound; first = g.first; later = ap (λ (b : Bool). b && a.phased) g.later; room_is = g.room_is; left = g.left }))

gather_first : (a : Allele) (room : ℕ) → is_sound a ≡ true → Gathered (tallied (begun room) a 0) a.phased true room (length (allele_text true a))
gather_first a room s =
    let g : Gathered (firstly (begun room) a.phased) a.phased true room 0 =
    rw (← begin_is room)
    (record { sound = refl; first = refl; later = refl; room_is = refl; left = rw (le-leb 0 room zero-le) (ap Some (sym (sub-zero room))) }) in
    rw (tallied_sound (begun room) a 0 g.sound s, counted_first (begun room) a 0 refl, bare_text a)
    (rw (zero-add (length (body_text a))) at (gather_short (length (body_text a)) g))

gather_from : (as' : List Allele) (k : ℕ) {t : Tally} {f l : Bool} {room n : ℕ} → Gathered t f l room n → (k ≡ 0 → ⊥) → first_unsound k as' ≡ none
    → Gathered (tally_from t k as') f (l && all_phased as') room (n + length (list_text false as'))
unfolding tally_from
gather_from [] k g z e = rw (phased_none, list_none, and-true, add-zero) g
gather_from (a ∷ as') k {l = l} g z e =
    let s = sound_parts k a as' e in
    rw (phased_more a as', ← and_assoc l a.phased (all_phased as'), list_length false a as', ← add_assoc)
    (gather_from as' (k + 1) (gather_later a k g s.0 z) (λ y. omega arith) s.1)

pub gather_all : (a : Allele) (as' : List Allele) (room : ℕ) → first_unsound 0 (a ∷ as') ≡ none
    → Gathered (tally_of room (a ∷ as')) a.phased (all_phased as') room (length (list_text true (a ∷ as')))
unfolding tally_of tally_from
gather_all a as' room e =
    let s = sound_parts 0 a as' e in
    rw (list_length true a as') (gather_from as' 1 (gather_first a room s.0) (λ y. omega arith) s.1)

-- ---- a list with a missing allele that has a number

stays : (as' : List Allele) (k : ℕ) (t : Tally) {i : ℕ} → t.bad ≡ Some i → tally_from t k as' ≡ t
unfolding tally_from
stays [] k t h = refl
stays (a ∷ as') k t h = rw (tallied_stopped t a k h) (stays as' (k + 1) t h)

counted_bad : (t : Tally) (a : Allele) (k : ℕ) → (counted t a k).bad ≡ t.bad
unfolding counted shortened
counted_bad t a k = by (eqb k 0)
  where
    by : (b : Bool)
        → (pick b (shortened (firstly t a.phased) (length (body_text a))) (shortened (laterly t (t.later && a.phased)) (length (body_text a) + 1))).bad ≡ t.bad
    by true = refl
    by false = refl

stop_from : (as' : List Allele) (k : ℕ) (t : Tally) (i : ℕ) → t.bad ≡ None → first_unsound k as' ≡ some i → (tally_from t k as').bad ≡ Some i
unfolding tally_from
stop_from [] k t i h e = let n = unsound_none k in let y : ◌≡◌ {A = ℕ} 0 1 = cc in absurd (omega arith)
stop_from (a ∷ as') k t i h e = by (is_sound a) refl (stop_from as' (k + 1) (tallied t a k) i)
  where
    by : (b : Bool) → is_sound a ≡ b → ((tallied t a k).bad ≡ None → first_unsound (k + 1) as' ≡ some i → (tally_from (tallied t a k) (k + 1) as').bad ≡ Some i)
        → (tally_from (tallied t a k) (k + 1) as').bad ≡ Some i
    by true s ih = ih (rw (tallied_sound t a k h s) (counted_bad t a k ∙ h)) (sym (unsound_more k a as' s) ∙ e)
    by false s ih =
        let q = sym (unsound_here k a as' s) ∙ e in
        let j : k ≡ i = cc in
        rw (tallied_unsound t a k h s, stays as' (k + 1) (stopped t k) refl) (ap Some j)

-- ---- the plan

-- the list has this text, it fits, and the count is its length
pub record Spells (as' : List Allele) (late : Bool) (vs : List ℕ) (room n : ℕ) : Type 0 where
  pub is : spell late as' ≡ text vs
  pub fits : length vs ≤ room
  pub count : n ≡ length vs

-- the list has a text, and it does not fit
pub record Overflows (as' : List Allele) (late : Bool) (room : ℕ) : Type 0 where
  pub vs : List ℕ
  pub is : spell late as' ≡ text vs
  pub lacks : room < length vs

abbrev pub Told : List Allele → Bool → ℕ → Result Plan WriteError → Type 0
Told as' late room (Ok (P.Bare n)) = Spells as' late (list_text true as') room n
Told as' late room (Ok (P.Marked n)) = Spells as' late (list_text false as') room n
Told as' late room (Err W.Beyond) = ⊥
Told as' late room (Err W.Empty) = spell late as' ≡ empty
Told as' late room (Err (W.Bad k)) = spell late as' ≡ bad k
Told as' late room (Err W.Phasing) = spell late as' ≡ phasing
Told as' late room (Err W.Lengths) = ⊥
Told as' late room (Err W.Short) = Overflows as' late room

module _ (a : Allele) (as' : List Allele) (late : Bool) (room : ℕ) where
  shape_told : (t : Tally) → Gathered t a.phased (all_phased as') room (length (list_text true (a ∷ as')))
      → spell late (a ∷ as') ≡ shaped (beq a.phased (all_phased as')) late (a ∷ as') → Told (a ∷ as') late room (shape_of t late)
  unfolding shape_of bare_plan marked_plan shaped
  shape_told t g sp = rw (g.first, g.later, g.left, g.room_is) (by (beq a.phased (all_phased as')) late sp (dec_le size room) (dec_lt size room))
    where
      size : ℕ
      size = length (list_text true (a ∷ as'))

      by : (b c : Bool) → spell late (a ∷ as') ≡ shaped b c (a ∷ as') → Dec (size ≤ room) → Dec (size < room)
          → Told (a ∷ as') late room (pick b (bare_plan room (left_by room size)) (pick c (marked_plan room (left_by room size)) (Err W.Phasing)))
      by true c e (yes h) d = rw (le-leb size room h) (record { is = e; fits = h; count = omega arith })
      by true c e (no h) d = let s : room < size = omega arith in rw (lt-leb size room s) (record { vs = list_text true (a ∷ as'); is = e; lacks = s })
      by false true e (yes h) (yes d) =
          let m = marked_longer a as' in
          let o : 0 < room - size = omega arith in
          rw (le-leb size room h, lt-ltb 0 (room - size) o) (record { is = e; fits = omega arith; count = omega arith })
      by false true e (yes h) (no d) =
          let m = marked_longer a as' in
          let o : room - size ≤ 0 = omega arith in
          rw (le-leb size room h, le-ltb 0 (room - size) o) (record { vs = list_text false (a ∷ as'); is = e; lacks = omega arith })
      by false true e (no h) d =
          let m = marked_longer a as' in
          let s : room < size = omega arith in
          rw (lt-leb size room s) (record { vs = list_text false (a ∷ as'); is = e; lacks = omega arith })
      by false false e h d = e

pub plan_told : (as' : List Allele) (late : Bool) (room : ℕ) → Told as' late room (plan_of (tally_of room as') (length as') late)
unfolding tally_of
plan_told [] late room = rw (← plan_empty (tally_of room []) 0 late refl) (spell_none late)
plan_told (a ∷ as') late room = by (first_unsound 0 (a ∷ as')) refl
  where
    t : Tally
    t = tally_of room (a ∷ as')

    n : ℕ
    n = length (a ∷ as')

    some_there : n ≡ 0 → ⊥
    some_there z = omega arith

    by : (o : O.Option ℕ) → first_unsound 0 (a ∷ as') ≡ o → Told (a ∷ as') late room (plan_of t n late)
    by none e = let g = gather_all a as' room e in rw (plan_sound t n late some_there g.sound) (shape_told a as' late room t g (spell_sound late a as' e))
    by (some i) e =
        let g = stop_from (a ∷ as') 0 (begun room) i (rw (← begin_is room)) e in
        rw (plan_stopped t n late some_there g) (spell_bad late a as' e)
