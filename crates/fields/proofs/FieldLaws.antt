-- Each way through the code is the definition at its tests; a range's text is a `.` where it is one byte long and that byte is. Assumes nothing.
use Prim.Native.Nat.{ℕ, ◌+◌, ◌-◌, ◌<◌, ◌≤◌}
use mathlib.Core.Path.{◌≡◌, refl, sym, ap, ◌∙◌}
use mathlib.Core.Bool.{Bool, true, false, ◌&&◌, and-false, and-eq-true_iff}
use mathlib.Core.List.{List, [], ◌∷◌}
use native.Mathlib.Omega.{arith}
use lib.ListN.{length, get_or, drop, length-drop}
use Rattle.std.specs.Prelude.{Option, Some, Result, Ok, Err}
use lib.Seq.{length-take-le}
use lib.Dec.{leb, eqb}
use borrow.Author.Tests.{le-leb, lt-leb, leb-true}
use Rattle.text.specs.Answer.{says}
use Rattle.text.specs.Same.{same}
use Rattle.text.specs.Range.{cut}
use Rattle.text.specs.declared.range.Range.{Range}
use Rattle.text.proofs.Lists.{here, cut_is}
use Rattle.text.proofs.SameLaws.{same_self, same_not, same_byte}
use Rattle.record.specs.Place.{range_of}
use Rattle.record.specs.declared.place.Record.{Record}
use Rattle.record.specs.declared.place.Name.{Name}
use Rattle.fields.specs.Fields.{fits_in, place_answer, dot_of, dot_places, dot_answer, text_answer, field_answer}
use Rattle.fields.specs.Paper.{place_paper, field_paper}
use Rattle.fields.specs.declared.field.Beyond.{Beyond}

-- ---- a place in a buffer

-- the range lies in the buffer
record Inside (s : List ℕ) (r : Range) : Type 0 where
  starts : r.start ≤ length s
  left : r.len ≤ length s - r.start

module _ (s : List ℕ) (r : Range) where
  inside_fits : Inside s r → fits_in r s ≡ true
  unfolding fits_in
  inside_fits i = rw (le-leb _ _ i.starts, le-leb _ _ i.left)

  fits_inside : fits_in r s ≡ true → Inside s r
  unfolding fits_in
  fits_inside h =
      let g = (and-eq-true_iff (leb r.start (length s)) (leb r.len (length s - r.start))).0 h in
      record { starts = leb-true _ _ g.0; left = leb-true _ _ g.1 }

  pub fits_within : r.start + r.len ≤ length s → fits_in r s ≡ true
  fits_within h = inside_fits (record { starts = omega arith; left = omega arith })

  pub place_far : {e : Beyond} → length s < r.start → place_paper (Err e) ≡ place_answer s r
  unfolding place_paper place_answer fits_in
  place_far h = rw (lt-leb _ _ h)

  fits_not : length s - r.start < r.len → fits_in r s ≡ false
  unfolding fits_in
  fits_not h = rw (lt-leb _ _ h, and-false)

  pub place_long : {e : Beyond} → length s - r.start < r.len → place_paper (Err e) ≡ place_answer s r
  unfolding place_paper place_answer
  place_long h = rw (fits_not h)

  pub place_fits : r.start ≤ length s → r.len ≤ length s - r.start → place_paper (Ok r) ≡ place_answer s r
  unfolding place_paper place_answer
  place_fits p q = rw (inside_fits (record { starts = p; left = q }))

-- ---- a text that is a `.`

module _ (s : List ℕ) (r : Range) where
  cut_length : Inside s r → length (cut r s) ≡ r.len
  cut_length i = rw (cut_is r.start r.len s) (length-take-le r.len (drop r.start s) (simp length-drop i.left))

  pub dot_not_one : (r.len ≡ 1 → ⊥) → false ≡ (fits_in r s && same (cut r s) (46 ∷ []))
  dot_not_one h = by (fits_in r s) refl
    where
      by : (t : Bool) → fits_in r s ≡ t → false ≡ (t && same (cut r s) (46 ∷ []))
      by true f = let l = cut_length (fits_inside s r f) in sym (same_not (cut r s) (46 ∷ []) (λ e. h (sym l ∙ ap length e)))
      by false f = refl

  pub dot_past : r.len ≡ 1 → length s ≤ r.start → false ≡ (fits_in r s && same (cut r s) (46 ∷ []))
  dot_past e h = rw (fits_not s r (omega arith))

  cut_one : r.len ≡ 1 → r.start < length s → cut r s ≡ get_or s r.start 0 ∷ []
  cut_one e h = rw (cut_is r.start r.len s, e, here s r.start h)

  pub dot_at : r.len ≡ 1 → r.start < length s → eqb (get_or s r.start 0) 46 ≡ (fits_in r s && same (cut r s) (46 ∷ []))
  dot_at e h = rw (inside_fits s r (record { starts = omega arith; left = omega arith }), cut_one e h) (sym (same_byte (get_or s r.start 0) 46))

-- ---- a field

module _ (s : List ℕ) (name : Name) (r : Range) {b : Bool} (d : b ≡ (fits_in r s && same (cut r s) (46 ∷ []))) where
  pub text_dot : (x : Result (Option Range) Beyond) → b ≡ true → field_paper x ≡ dot_answer name r → field_paper x ≡ text_answer s name r
  unfolding text_answer
  text_dot x t h = rw (← d, t) h

  module _ (t : b ≡ false) {x : Result Range Beyond} (h : place_paper x ≡ place_answer s r) where
    pub text_place : {p : Range} → x ≡ Ok p → field_paper (Ok (Some p)) ≡ text_answer s name r
    unfolding text_answer place_paper field_paper
    text_place q = rw (← d, t) (rw q at h)

    pub text_beyond : {e f : Beyond} → x ≡ Err e → field_paper (Err f) ≡ text_answer s name r
    unfolding text_answer place_paper field_paper
    text_beyond q = rw (← d, t) (rw q at h)

pub field_text : (s : List ℕ) (line : Record) (name : Name) (x : Result (Option Range) Beyond) {r : Range} → r ≡ range_of line name → field_paper x ≡ text_answer s name r
    → field_paper x ≡ field_answer s line name
unfolding field_answer
field_text s line name x e h = rw (← e) h

-- a range that holds a `.` lies in the buffer
pub dot_within : (s : List ℕ) (r : Range) {b : Bool} → b ≡ (fits_in r s && same (cut r s) (46 ∷ [])) → b ≡ true → r.start + r.len ≤ length s
dot_within s r d t =
    let f = ((and-eq-true_iff (fits_in r s) (same (cut r s) (46 ∷ []))).0 (sym d ∙ t)).0 in
    let i = fits_inside s r f in
    omega arith

-- ---- a field of a record, by its text

module _ (s : List ℕ) (line : Record) (name : Name) (f : fits_in (range_of line name) s ≡ true) where
  -- a `.` reads as the table says
  pub field_dot : cut (range_of line name) s ≡ 46 ∷ [] → field_answer s line name ≡ says 0 (dot_places (dot_of name) (range_of line name))
  unfolding field_answer text_answer dot_answer
  field_dot e = rw (f, e, same_self (46 ∷ []))

  -- any other text stands as it is
  pub field_stands : (cut (range_of line name) s ≡ 46 ∷ [] → ⊥) → field_answer s line name ≡ says 0 ((range_of line name).start ∷ (range_of line name).len ∷ [])
  unfolding field_answer text_answer place_answer
  field_stands h = rw (f, same_not (cut (range_of line name) s) (46 ∷ []) h)

pub ruleset laws = (place_far, place_long, place_fits, dot_not_one, dot_past, dot_at, text_dot, text_place, text_beyond, field_text)
