-- A form that can be made: its parts, and that no number of it is too large. Assumes nothing.
use Prim.Native.Nat.{ℕ, ◌+◌, ◌*◌, ◌<◌, ◌≤◌}
use mathlib.Core.Path.{◌≡◌, refl, sym, ◌∙◌}
use mathlib.Core.Bool.{Bool, true, false, ◌&&◌, ◌||◌, and-true, or-true, and-eq-true_iff}
use mathlib.Core.Logic.{◌⊎◌, inl, inr, ⊎_elim}
use mathlib.Core.List.{List}
use native.Mathlib.Omega.{arith}
use native.Mathlib.Decide.{ℕ_discrete}
use native.Mathlib.Nat.{le_refl, le_of_lt}
use lib.ListN.{length, take}
use lib.Seq.{length-take-le, get_or-take}
use lib.Dec.{eqb, leb}
use borrow.Author.Tests.{le-leb, leb-true, eq-eqb, eqb-true}
use Rattle.record.specs.Ending.{Ending, ending_bytes}
use Rattle.record.specs.Paper.{ending_of}
use Rattle.record.specs.declared.ending.Ending.{Ending as DeclaredEnding}
use Rattle.forms.specs.Form.{end_at, chained, bare, ten_fields, limit, made}
use Rattle.forms.specs.Inner.{Bounded}
use Rattle.forms.proofs.ChainLaws.{end_is, chain_rises}
use Rattle.forms.proofs.MadeLaws.{Tail, bare_is}

-- ---- the parts

-- ten fields, or eight and a bare end
pub data Fields (places : List ℕ) : Type 0 where
  full : chained places ≡ true → Fields places
  eight : chained (take 16 places) ≡ true → bare places ≡ true → Fields places

pub record MadeForm (e : Ending) (places : List ℕ) : Type 0 where
  pub ten : length places ≡ 20
  pub fields : Fields places
  pub within : end_at places 9 + length (ending_bytes e) ≤ 9223372036854775807

one_of : (a b : Bool) → (a || b) ≡ true → (a ≡ true) ⊎ (b ≡ true)
one_of true b h = inl refl
one_of false b h = inr h

pub made_form : (e : Ending) (places : List ℕ) → made e places ≡ true → MadeForm e places
unfolding made ten_fields limit
made_form e places h =
    let a = (and-eq-true_iff (ten_fields places) (leb (end_at places 9 + length (ending_bytes e)) limit)).0 h in
    let b = (and-eq-true_iff (eqb (length places) 20) (chained places || (chained (take 16 places) && bare places))).0 a.0 in
    record {
      ten = eqb-true _ _ b.0;
      fields =
          ⊎_elim full
          (λ c. let d = (and-eq-true_iff (chained (take 16 places)) (bare places)).0 c in eight d.0 d.1)
          (one_of (chained places) (chained (take 16 places) && bare places) b.1);
      within = leb-true _ _ a.1;
    }

pub form_made : {e : Ending} {places : List ℕ} → MadeForm e places → made e places ≡ true
unfolding made ten_fields limit
form_made {e} {places} m = rw (eq-eqb _ _ m.ten, le-leb _ _ m.within, and-true) (by m.fields)
  where
    by : Fields places → (chained places || (chained (take 16 places) && bare places)) ≡ true
    by (full c) = rw c
    by (eight c b) = rw (c, b, or-true)

-- ---- no field ends past the samples

module _ {e : Ending} {places : List ℕ} (m : MadeForm e places) where
  taken : length (take 16 places) ≡ 16
  taken = length-take-le 16 places (let n = m.ten in omega arith)

  -- the first eight are as they stand
  pub end_taken : (i : ℕ) → i < 8 → end_at (take 16 places) i ≡ end_at places i
  end_taken i l = end_is (take 16 places) i ∙ rw (get_or-take 16 places (2 * i) 0 (omega arith), get_or-take 16 places (2 * i + 1) 0 (omega arith)) (sym (end_is places i))

  -- where FORMAT and the samples are empty at INFO's end, they end there
  module _ (b : bare places ≡ true) where
    pub tail : Tail places m.ten
    tail = bare_is places m.ten b

    pub format_end : end_at places 8 ≡ end_at places 7
    format_end = end_is places 8 ∙ rw (tail.format, tail.none) (omega arith)

    pub samples_end : end_at places 9 ≡ end_at places 7
    samples_end = end_is places 9 ∙ rw (tail.samples, tail.empty) (omega arith)

  last : (i : ℕ) → i < 10 → end_at places i ≤ end_at places 9
  unfolding chained
  last i l = by m.fields (ℕ_discrete i 9)
    where
      early : chained (take 16 places) ≡ true → i < 8 → Dec (i ≡ 7) → end_at places i ≤ end_at places 7
      early c h (yes e) = rw e (le_refl _)
      early c h (no n) = le_of_lt (rw (← end_taken i h, ← end_taken 7 (omega arith)) (chain_rises _ (take 16 places) c i 7 (omega arith) (let t = taken in omega arith)))

      by : Fields places → Dec (i ≡ 9) → end_at places i ≤ end_at places 9
      by f (yes e) = rw e (le_refl _)
      by (full c) (no n) = le_of_lt (chain_rises _ places c i 9 (omega arith) (let k = m.ten in omega arith))
      by (eight c b) (no n) = under (ℕ_discrete i 8)
        where
          under : Dec (i ≡ 8) → end_at places i ≤ end_at places 9
          under (yes e) = rw (e, format_end b, samples_end b) (le_refl _)
          under (no k) = rw (samples_end b) (early c (omega arith) (ℕ_discrete i 7))

pub made_bounded : (e : Ending) (places : List ℕ) → made e places ≡ true → Bounded places
made_bounded e places h =
    let m = made_form e places h in
    record { ten = m.ten; ends = λ i l. let k = last m i l in let w = m.within in omega arith }

-- what `search` is given, with the test as the code has it
pub tested_bounded : (ending : DeclaredEnding) {b : Bool} (places : List ℕ) → b ≡ made (ending_of ending) places → b ≡ true → Bounded places
tested_bounded ending places e t = made_bounded (ending_of ending) places (sym e ∙ t)
