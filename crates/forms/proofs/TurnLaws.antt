-- The ways between the forms: a form's numbers are its places' starts and ends, one by one. Assumes nothing.
use Prim.Native.Nat.{ℕ, zero, suc, ◌+◌, ◌*◌, ◌<◌, ◌^◌}
use mathlib.Core.Path.{◌≡◌, sym, ap, ◌∙◌}
use mathlib.Core.Bool.{Bool, true, false}
use mathlib.Core.List.{List, [], ◌∷◌}
use native.Mathlib.Omega.{arith}
use lib.ListN.{length, get_or, drop, drop_of_length-le}
use lib.Seq.{drop-cons}
use Rattle.std.specs.Prelude.{Ok, Err}
use Rattle.record.specs.Place.{ends_of, numbers_of}
use Rattle.record.specs.Paper.{ending_of, record_places}
use Rattle.record.specs.Promises.{GivesEnding, MakesRecord}
use Rattle.record.specs.declared.ending.Ending.{Ending}
use Rattle.record.specs.declared.place.Record.{Record}
use Rattle.record.proofs.EndingLaws.{ending_numbered}
use Rattle.record.proofs.NumberLaws.{ends_none, ends_more, numbers_are}
use Rattle.forms.specs.Form.{end_at, made, widen_answer, narrow_answer}
use Rattle.forms.specs.Paper.{wide_places, widened_paper, narrowed_paper}
use Rattle.forms.specs.Promises.{MakesWide, WidensRecord, NarrowsWide}
use Rattle.forms.specs.Inner.{Bounded}
use Rattle.forms.specs.declared.wide.Wide.{Wide}
use Rattle.forms.specs.declared.turn.NotMade.{NotMade}

-- ---- the ends of places

ends_by : ℕ → ℕ → List ℕ → List ℕ
ends_by zero k l = []
ends_by (suc n) k l = end_at l k ∷ ends_by n (suc k) l

ends_by_lem : (n k : ℕ) (l : List ℕ) → length l ≡ 2 * (k + n) → ends_by n k l ≡ ends_of (drop (2 * k) l)
unfolding ends_by end_at
ends_by_lem zero k l e = sym (ap ends_of (drop_of_length-le l {i = 2 * k} (omega arith)) ∙ ends_none)
ends_by_lem (suc n) k l e =
    let f : 2 * k + 1 ≡ suc (2 * k) = omega arith in
    let g : 2 * suc k ≡ suc (suc (2 * k)) = omega arith in
    let h : drop (2 * k) l ≡ get_or l (2 * k) 0 ∷ get_or l (suc (2 * k)) 0 ∷ drop (suc (suc (2 * k))) l = drop-cons l (2 * k) 0 (omega arith) ∙ rw (drop-cons l (suc (2 * k)) 0 (omega arith)) in
    ap (λ (r : List ℕ). (get_or l (2 * k) 0 + get_or l (2 * k + 1) 0) ∷ r) (ends_by_lem n (suc k) l (omega arith)) ∙ rw (f, g, h, ends_more)

module _ (places : List ℕ) (g : Bounded places) where
  pub end_within : (i : ℕ) → i < 10 → (2 * i + 1 < length places) × (end_at places i < 2 ^ 64)
  end_within i l = (let n = g.ten in omega arith, g.ends i l)

pub numbers_told : (places : List ℕ) {chrom pos id reference alt qual filter info format samples : ℕ} → length places ≡ 20 → chrom ≡ end_at places 0 → pos ≡ end_at places 1 → id ≡ end_at places 2 → reference ≡ end_at places 3 → alt ≡ end_at places 4 → qual ≡ end_at places 5 → filter ≡ end_at places 6 → info ≡ end_at places 7 → format ≡ end_at places 8 → samples ≡ end_at places 9
    → get_or places 0 0 ∷ chrom ∷ pos ∷ id ∷ reference ∷ alt ∷ qual ∷ filter ∷ info ∷ format ∷ samples ∷ [] ≡ numbers_of places
unfolding ends_by
numbers_told places n a b c d e f g h i j = rw (a, b, c, d, e, f, g, h, i, j, numbers_are) (ap (λ (r : List ℕ). get_or places 0 0 ∷ r) (ends_by_lem 10 0 places n))

-- ---- the answers

module _ (line : Record) {ending : Ending} {places : List ℕ} {b : Bool} (e : GivesEnding line ending) (p : places ≡ record_places line) (m : b ≡ made (ending_of ending) places) where
  is_made : b ≡ made (ending_of line.ending) (record_places line)
  is_made = m ∙ ap (λ (x : Ending). made (ending_of x) places) e ∙ ap (made (ending_of line.ending)) p

  pub widened_to : (w : Wide) → b ≡ true → MakesWide ending places w → WidensRecord line (Ok w)
  unfolding widened_paper widen_answer
  widened_to w t q = rw (← is_made, t, ending_numbered (q.0 ∙ e), q.1 ∙ p)

  pub widened_not : {n : NotMade} → b ≡ false → WidensRecord line (Err n)
  unfolding widened_paper widen_answer
  widened_not t = rw (← is_made, t)

module _ (wide : Wide) {places : List ℕ} {b : Bool} (p : places ≡ wide_places wide) (m : b ≡ made (ending_of wide.ending) places) where
  form_made : b ≡ made (ending_of wide.ending) (wide_places wide)
  form_made = m ∙ ap (made (ending_of wide.ending)) p

  pub narrowed_to : (r : Record) {numbers : List ℕ} → b ≡ true → numbers ≡ numbers_of places → MakesRecord wide.ending numbers r → NarrowsWide wide (Ok r)
  unfolding narrowed_paper narrow_answer
  narrowed_to r t n q = rw (← form_made, t, ending_numbered q.0, q.1 ∙ n ∙ ap numbers_of p)

  pub narrowed_not : {n : NotMade} → b ≡ false → NarrowsWide wide (Err n)
  unfolding narrowed_paper narrow_answer
  narrowed_not t = rw (← form_made, t)

pub ruleset laws = (end_within, widened_to, widened_not, narrowed_to, narrowed_not)
