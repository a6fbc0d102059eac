-- What one pass over a list gathers, and the plan made of it: each way through each function. Assumes nothing.
use Prim.Native.Nat.{ℕ, ◌+◌, ◌-◌, ◌≤◌, ◌<◌}
use mathlib.Core.Path.{◌≡◌, refl, sym, ◌∙◌}
use mathlib.Core.Bool.{Bool, true, false, not, ◌&&◌, beq}
use native.Mathlib.Omega.{arith}
use native.Mathlib.Decide.{dec_le}
use lib.ListN.{length}
use lib.Dec.{eqb}
use borrow.Author.Tests.{lt-ltb, le-ltb, le-leb, lt-leb, eq-eqb, ne_eqb, not-true, not-false}
use Rattle.allele.specs.declared.allele.Allele.{Allele}
use Rattle.spelling.specs.Spelling.{body_text}
use Rattle.allele.specs.Row.{is_sound}
use Rattle.allele.proofs.RowLaws.{sound_missing, sound_there}
use Rattle.spelling.specs.Inner.{begun, room_left, shortened, counted, tallied, bare_plan, marked_plan, judged_plan, shape_of, plan_of, size_of}
use Rattle.spelling.specs.declared.tally.Tally.{Tally}
use Rattle.spelling.specs.declared.tally.Plan.{Plan}
use Rattle.spelling.specs.declared.tally.Plan.TheVariants as P
use Rattle.spelling.specs.declared.write.WriteError.{WriteError}
use Rattle.spelling.specs.declared.write.WriteError.TheVariants as W
use Rattle.std.specs.Prelude.{Option, Some, None, Result, Ok, Err, SomeIff, is_some}
use Rattle.spelling.proofs.SpellLaws as spell_laws

-- ---- the steps

pub begin_is : (room : ℕ) → ◌≡◌ {A = Tally} (record { bad = None; first = true; later = true; room = room; left = Some room }) (begun room)
unfolding begun
begin_is room = refl

module _ {o : Option ℕ} (n : ℕ) where
  pub left_none : {r : Option ℕ} → o ≡ None → r ≡ None → r ≡ room_left o n
  unfolding room_left
  left_none e f = rw (e, f)

  pub left_some : {l : ℕ} (r : Option ℕ) → o ≡ Some l → SomeIff r (n ≤ l) (l - n) → r ≡ room_left o n
  unfolding room_left
  left_some {l} None e h =
      let k : l < n = elim (dec_le n l) [ yes y ↦ absurd (h y) | no z ↦ omega arith ] in
      rw (e, lt-leb n l k)
  left_some {l} (Some x) e h = rw (e, le-leb n l h.0, h.1)

module _ (a : Allele) where
  pub sound_not : not a.missing ≡ true → not a.missing ≡ is_sound a
  sound_not h = h ∙ sound_there a (not-true a.missing h)

  pub sound_zero : not a.missing ≡ false → eqb a.number 0 ≡ is_sound a
  sound_zero h = sound_missing a (not-false a.missing h)

-- with the phasing of a first allele, and of a later one, and stopped at an index
abbrev pub firstly : Tally → Bool → Tally
firstly t b = record t { first = b }

abbrev pub laterly : Tally → Bool → Tally
laterly t b = record t { later = b }

abbrev pub stopped : Tally → ℕ → Tally
stopped t k = record t { bad = Some k }

module _ (t : Tally) (a : Allele) (k : ℕ) where
  pub tallied_stopped : {i : ℕ} → t.bad ≡ Some i → tallied t a k ≡ t
  unfolding tallied
  tallied_stopped h = rw h

  module _ (h : t.bad ≡ None) where
    pub tallied_unsound : is_sound a ≡ false → tallied t a k ≡ stopped t k
    unfolding tallied
    tallied_unsound e = rw (h, e)

    pub tallied_sound : is_sound a ≡ true → tallied t a k ≡ counted t a k
    unfolding tallied
    tallied_sound e = rw (h, e)

  pub counted_first : k ≡ 0 → counted t a k ≡ shortened (firstly t a.phased) (length (body_text a))
  unfolding counted
  counted_first z = rw (eq-eqb _ _ z)

  pub counted_later : (k ≡ 0 → ⊥) → counted t a k ≡ shortened (laterly t (t.later && a.phased)) (length (body_text a) + 1)
  unfolding counted
  counted_later z = rw (ne_eqb _ _ z)

  pub add_stopped : {s : Bool} → s ≡ is_some t.bad → s ≡ true → t ≡ tallied t a k
  unfolding tallied
  add_stopped e f = rw (← e, f)

  module _ {s z : Bool} (e : s ≡ is_some t.bad) (f : s ≡ false) (g : z ≡ is_sound a) where
    pub add_unsound : z ≡ false → stopped t k ≡ tallied t a k
    unfolding tallied
    add_unsound h = rw (← e, f, ← g, h)

    module _ (h : z ≡ true) {n : ℕ} (l : n ≡ length (body_text a)) {r : Option ℕ} where
      pub add_first : k ≡ 0 → r ≡ room_left t.left n → record (firstly t a.phased) { left = r } ≡ tallied t a k
      unfolding tallied counted shortened
      add_first i o = rw (← e, f, ← g, h, eq-eqb k 0 i, o, l)

      pub add_later : (k ≡ 0 → ⊥) → r ≡ room_left t.left (n + 1) → record (laterly t (t.later && a.phased)) { left = r } ≡ tallied t a k
      unfolding tallied counted shortened
      add_later i o = rw (← e, f, ← g, h, ne_eqb k 0 i, o, l)

-- ---- the plan

module _ {x : Plan} {n : ℕ} where
  pub size_bare : x ≡ P.Bare n → n ≡ size_of x
  unfolding size_of
  size_bare e = rw e

  pub size_marked : x ≡ P.Marked n → n ≡ size_of x
  unfolding size_of
  size_marked e = rw e

module _ (t : Tally) (n : ℕ) (late : Bool) where
  pub plan_empty : n ≡ 0 → Err W.Empty ≡ plan_of t n late
  unfolding plan_of
  plan_empty e = rw (eq-eqb _ _ e)

  module _ (e : n ≡ 0 → ⊥) where
    pub plan_sound : t.bad ≡ None → plan_of t n late ≡ shape_of t late
    unfolding plan_of judged_plan
    plan_sound h = rw (ne_eqb _ _ e, h)

    pub plan_stopped : {k : ℕ} → t.bad ≡ Some k → plan_of t n late ≡ Err (W.Bad k)
    unfolding plan_of judged_plan
    plan_stopped h = rw (ne_eqb _ _ e, h)

    pub plan_bad : {k : ℕ} → t.bad ≡ Some k → Err (W.Bad k) ≡ plan_of t n late
    plan_bad h = sym (plan_stopped h)

    module _ (h : t.bad ≡ None) where
      plan_shape : {x : Result Plan WriteError} → x ≡ shape_of t late → x ≡ plan_of t n late
      plan_shape g = g ∙ sym (plan_sound h)

      module _ (b : beq t.first t.later ≡ true) where
        pub plan_bare : {l r : ℕ} → t.left ≡ Some l → r ≡ t.room - l → Ok (P.Bare r) ≡ plan_of t n late
        unfolding shape_of bare_plan
        plan_bare f e = plan_shape (rw (b, f, e))

        pub plan_bare_short : t.left ≡ None → Err W.Short ≡ plan_of t n late
        unfolding shape_of bare_plan
        plan_bare_short f = plan_shape (rw (b, f))

      module _ (b : beq t.first t.later ≡ false) {l : Bool} (g : l ≡ late) where
        pub plan_phasing : l ≡ false → Err W.Phasing ≡ plan_of t n late
        unfolding shape_of
        plan_phasing y = plan_shape (rw (b, ← g, y))

        module _ (y : l ≡ true) where
          pub plan_marked : {k r : ℕ} → t.left ≡ Some k → 0 < k → r ≡ t.room - k → Ok (P.Marked (r + 1)) ≡ plan_of t n late
          unfolding shape_of marked_plan
          plan_marked f m e = plan_shape (rw (b, ← g, y, f, lt-ltb _ _ m, e))

          pub plan_marked_full : {k : ℕ} → t.left ≡ Some k → k ≤ 0 → Err W.Short ≡ plan_of t n late
          unfolding shape_of marked_plan
          plan_marked_full f m = plan_shape (rw (b, ← g, y, f, le-ltb _ _ m))

          pub plan_marked_short : t.left ≡ None → Err W.Short ≡ plan_of t n late
          unfolding shape_of marked_plan
          plan_marked_short f = plan_shape (rw (b, ← g, y, f))

pub ruleset laws = (spell_laws.laws, begin_is, sound_not, sound_zero, add_stopped, add_unsound, add_first, add_later, size_bare, size_marked, plan_empty, plan_bad, plan_bare, plan_bare_short, plan_phasing, plan_marked, plan_marked_full, plan_marked_short)
