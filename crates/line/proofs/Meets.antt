-- Any reader that meets the demands answers as ours: outside by its number, a faulty line by its fault, any other by its only columns. Assumes nothing.
use Prim.Native.Nat.{ℕ, zero, suc, ◌+◌, ◌*◌, ◌<◌, ◌≤◌}
use mathlib.Core.Path.{◌≡◌, refl, sym, ap, ◌∙◌}
use mathlib.Core.Bool.{Bool, true, false}
use mathlib.Core.Logic.{⊎_elim}
use mathlib.Core.List.{List}
use native.Mathlib.Omega.{arith}
use native.Mathlib.Decide.{dec_lt}
use lib.ListN.{length, get_or, drop}
use lib.Seq.{get_or-drop, ext_get_or}
use lib.Dec.{ltb}
use borrow.Author.Tests.{ltb-true, ltb-false}
use Rattle.text.specs.Answer.{Answer, number_of, values_of}
use Rattle.record.specs.Ending.{Ending}
use Rattle.line.specs.Line.{read_answer}
use Rattle.line.specs.Demands.{MayEnd, Begins, Reader, Exact, Lies, TenPlaces, Stands, One, Faults, Moved, MovesOn, Meets, OneReader}
use Rattle.line.proofs.LineLaws.{read_end, read_beyond}
use Rattle.line.proofs.ShapeLaws.{begins_read}
use Rattle.line.proofs.Exact.{answer_is, alone_is, exact}
use Rattle.line.proofs.One.{one}
use Rattle.line.proofs.MovesOn.{moves_on, Way, ended, beyond, inside, way}
use Rattle.line.proofs.Faults.{Told, faulty, begun, told, faulty_answer, faults}

-- ---- ten places of the same columns

data Half (k : ℕ) : Type 0 where
  even : (i : ℕ) → k ≡ 2 * i → Half k
  odd : (i : ℕ) → k ≡ 2 * i + 1 → Half k

half : (k : ℕ) → Half k
half zero = even 0 refl
half (suc k) = by (half k)
  where
    by : Half k → Half (suc k)
    by (even i e) = odd i (omega arith)
    by (odd i e) = even (suc i) (omega arith)

-- place i of p is that of q
abbrev SameAt : List ℕ → List ℕ → ℕ → Type 0
SameAt p q i = Lies p i (get_or q (2 * i) 0) (get_or q (2 * i + 1) 0)

both_lie : {p q : List ℕ} {i a b : ℕ} → Lies p i a b → Lies q i a b → SameAt p q i
both_lie x y = record { starts = x.starts ∙ sym y.starts; sized = x.sized ∙ sym y.sized }

same_behind : (n : ℕ) (p q : List ℕ) → drop n p ≡ drop n q → (j : ℕ) → get_or p (n + j) 0 ≡ get_or q (n + j) 0
same_behind n p q e j = sym (get_or-drop n p j 0) ∙ ap (λ (l : List ℕ). get_or l j 0) e ∙ get_or-drop n q j 0

module _ {p q : List ℕ} {at : ℕ} {cs : List (List ℕ)} (n : MayEnd (length cs)) (x : TenPlaces p at cs) (y : TenPlaces q at cs) where
  bare_same : length cs ≡ 8 → (j : ℕ) → get_or p (16 + j) 0 ≡ get_or q (16 + j) 0
  bare_same h = same_behind 16 p q (x.bare h ∙ sym (y.bare h))

  same_format : SameAt p q 8
  same_format = ⊎_elim (λ h. record { starts = bare_same h 0; sized = bare_same h 1 }) (λ h. both_lie (x.format h) (y.format h)) n

  same_samples : SameAt p q 9
  same_samples = ⊎_elim (λ h. record { starts = bare_same h 2; sized = bare_same h 3 }) (λ h. both_lie (x.samples h) (y.samples h)) n

  same_at : (i : ℕ) → i < 10 → SameAt p q i
  same_at i l = by (dec_lt i 8) (dec_lt i 9)
    where
      by : Dec (i < 8) → Dec (i < 9) → SameAt p q i
      by (yes a) b = both_lie (x.eight i a) (y.eight i a)
      by (no a) (yes b) = let z : i ≡ 8 = omega arith in rw z same_format
      by (no a) (no b) = let z : i ≡ 9 = omega arith in rw z same_samples

  places_same : p ≡ q
  places_same = ext_get_or 0 p q (x.ten ∙ sym y.ten) (λ k l. by k (omega (arith, x.ten)) (half k))
    where
      by : (k : ℕ) → k < 20 → Half k → get_or p k 0 ≡ get_or q k 0
      by k l (even i e) = rw e (same_at i (omega arith)).starts
      by k l (odd i e) = rw e (same_at i (omega arith)).sized

-- answers that stand for a line have the same values
pub stands_same : {s : List ℕ} {at : ℕ} {a b : Answer} → Stands s at a → Stands s at b → values_of a ≡ values_of b
stands_same {at = at} x y =
    let q = x.only y.columns y.ending y.rest y.begin in
    let l : TenPlaces y.places at x.columns = rw q.0 at y.lie in
    let p : x.places ≡ y.places = places_same x.begin.shaped.count x.lie l in
    x.values ∙ rw (p, ← q.0, ← q.1) (sym y.values)

-- ---- ours meets them

pub meets : Meets read_answer
meets = record { exact = exact; one = one; faults = faults; moves_on = moves_on }

-- ---- and any other answers as ours

module _ (read : Reader) (g : Meets read) (s : List ℕ) (at : ℕ) where
  moves : Moved s at (read s at)
  unfolding MovesOn
  moves = g.moves_on s at

  stuck : length s ≤ at → (number_of (read s at) ≡ 1 → ⊥) → (number_of (read s at) ≡ 6 → ⊥) → ⊥
  stuck h a b = let x = moves.further a b in let y = moves.within b in omega arith

  outside_same : length s ≤ at → read s at ≡ read_answer s at
  outside_same h = by (way moves.goes)
    where
      by : Way s at (number_of (read s at)) moves.next → read s at ≡ read_answer s at
      by (ended e n p) = alone_is (read s at) moves n (λ z. omega arith) ∙ rw p (sym (read_end s at e))
      by (beyond l n p) = alone_is (read s at) moves n (λ z. omega arith) ∙ rw p (sym (read_beyond s at l))
      by (inside x) = absurd (⊎_elim (λ z. stuck h (λ a. omega arith) (λ a. omega arith)) (λ z. stuck h (λ a. omega arith) (λ a. omega arith)) x)

  module _ (h : at < length s) where
    zero_same : number_of (read_answer s at) ≡ 0 → number_of (read s at) ≡ 0 → read s at ≡ read_answer s at
    unfolding One
    zero_same z w = answer_is (read s at) w (stands_same (g.one s at w) (one s at z)) ∙ sym (answer_is (read_answer s at) z refl)

    begun_same : {cs : List (List ℕ)} {e : Ending} {rest : List ℕ} → Begins (drop at s) cs e rest → read s at ≡ read_answer s at
    unfolding Exact
    begun_same {cs} {e} {rest} b = by (way moves.goes)
      where
        by : Way s at (number_of (read s at)) moves.next → read s at ≡ read_answer s at
        by (ended e n p) = absurd (omega arith)
        by (beyond l n p) = absurd (omega arith)
        by (inside x) = ⊎_elim (zero_same (begins_read s at h b)) (λ r. absurd ((g.exact s at h).0 (record { two = r.0; five = r.1 }) cs e rest b)) x

    inside_same : Told s at → read s at ≡ read_answer s at
    unfolding Faults
    inside_same (faulty n next f) = (g.faults s at h n next).1 f ∙ sym (faulty_answer s at h f)
    inside_same (begun b) = begun_same b

  met_same : read s at ≡ read_answer s at
  met_same = by (ltb at (length s)) refl
    where
      by : (b : Bool) → ltb at (length s) ≡ b → read s at ≡ read_answer s at
      by true q = inside_same (ltb-true _ _ q) (told s at)
      by false q = outside_same (omega (arith, ltb-false at (length s) q))

pub one_reader : OneReader
unfolding OneReader
one_reader read other g k s at = met_same read g s at ∙ sym (met_same other k s at)
