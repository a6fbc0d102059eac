-- The width of so many bytes, and the smallest width: by the tests of the definitions, from the smallest width on. Assumes nothing.
use Prim.Native.Nat.{ℕ, ◌≤◌, ◌<◌}
use mathlib.Core.Path.{◌≡◌, refl, sym, ap, ◌∙◌}
use mathlib.Core.Logic.{◌↔◌}
use mathlib.Core.Bool.{Bool, true, false}
use mathlib.Core.List.{List, [], ◌∷◌}
use mathlib.Core.Option.{Option, some, none}
use native.Mathlib.Omega.{arith}
use lib.Dec.{eqb, leb}
use borrow.Author.Tests.{leb-true, leb-false, eqb-true}
use Rattle.text.specs.Pick.{pick}
use Rattle.allele.specs.declared.allele.Allele.{Allele}
use Rattle.bcf.specs.Layout.{size, largest, Lays}
use Rattle.bcf.specs.declared.width.Width.{Width}
use Rattle.bcf.specs.declared.width.Width.TheVariants.{W8, W16, W32}
use Rattle.bcf.specs.Reading.{width_by}
use Rattle.bcf.specs.Writing.{vector_of, most_of, width_for, smallest}
use Rattle.bcf.specs.Demands.{OneVector, HasVector, Least}
use Rattle.bcf.proofs.MostLaws.{at_most, most_at}
use Rattle.bcf.proofs.LayoutLaws.{one_vector}
use Rattle.bcf.proofs.VectorLaws.{vector_lays, lays_has}

-- ---- the width of so many bytes

pub width_by_lem : (w : Width) → width_by (size w) ≡ some w
unfolding width_by size
width_by_lem W8 = refl
width_by_lem W16 = refl
width_by_lem W32 = refl

pub by_width : (b : ℕ) (w : Width) → width_by b ≡ some w → b ≡ size w
unfolding width_by size
by_width b w = by (eqb b 1) refl (eqb b 2) refl (eqb b 4) refl
  where
    by : (s : Bool) → eqb b 1 ≡ s → (t : Bool) → eqb b 2 ≡ t → (u : Bool) → eqb b 4 ≡ u
        → pick s (some W8) (pick t (some W16) (pick u (some W32) none)) ≡ some w → b ≡ size w
    by true e t f u g h = let z : W8 ≡ w = cc in rw (← z) (eqb-true b 1 e)
    by false e true f u g h = let z : W16 ≡ w = cc in rw (← z) (eqb-true b 2 f)
    by false e false f true g h = let z : W32 ≡ w = cc in rw (← z) (eqb-true b 4 g)
    by false e false f false g h = absurd (let z : ◌≡◌ {A = ℕ} 0 1 = cc in omega arith)

-- there is none exactly where no width has so many
pub by_none : (b : ℕ) → (width_by b ≡ none) ↔ ((w : Width) → b ≡ size w → ⊥)
by_none b = (λ e w h. let s : width_by b ≡ some w = rw h (width_by_lem w) in let z : ◌≡◌ {A = ℕ} 0 1 = cc in omega arith, λ h. by h (width_by b) refl)
  where
    by : ((w : Width) → b ≡ size w → ⊥) → (o : Option Width) → width_by b ≡ o → width_by b ≡ none
    by h none e = e
    by h (some w) e = absurd (h w (by_width b w e))

-- and no two widths have as many
pub size_one : (u w : Width) → size u ≡ size w → u ≡ w
size_one u w e = let s : some u ≡ some w = sym (width_by_lem u) ∙ ap width_by e ∙ width_by_lem w in cc

-- ---- the smallest that holds a number

data For (x : ℕ) : Width → Type 0 where
  is_8 : x ≤ largest W8 → For x W8
  is_16 : largest W8 < x → x ≤ largest W16 → For x W16
  is_32 : largest W16 < x → For x W32

for_is : (x : ℕ) → For x (width_for x)
unfolding width_for
for_is x = by (leb x (largest W8)) refl (leb x (largest W16)) refl
  where
    by : (s : Bool) → leb x (largest W8) ≡ s → (t : Bool) → leb x (largest W16) ≡ t → For x (pick s W8 (pick t W16 W32))
    by true e t f = is_8 (leb-true x (largest W8) e)
    by false e true f = is_16 (leb-false x (largest W8) e) (leb-true x (largest W16) f)
    by false e false f = is_32 (leb-false x (largest W16) f)

for_holds : {x : ℕ} {w : Width} → For x w → x ≤ largest W32 → x ≤ largest w
for_holds (is_8 h) l = h
for_holds (is_16 h k) l = k
for_holds (is_32 h) l = l

for_least : {x : ℕ} {w : Width} → For x w → (u : Width) → x ≤ largest u → size w ≤ size u
unfolding size largest
for_least (is_8 h) W8 l = omega arith
for_least (is_8 h) W16 l = omega arith
for_least (is_8 h) W32 l = omega arith
for_least (is_16 h k) W8 l = absurd (omega arith)
for_least (is_16 h k) W16 l = omega arith
for_least (is_16 h k) W32 l = omega arith
for_least (is_32 h) W8 l = absurd (omega arith)
for_least (is_32 h) W16 l = absurd (omega arith)
for_least (is_32 h) W32 l = omega arith

pub for_largest : (w : Width) → width_for (largest w) ≡ w
unfolding width_for largest
for_largest W8 = refl
for_largest W16 = refl
for_largest W32 = refl

pub widest : (w : Width) → largest w ≤ largest W32
unfolding largest
widest W8 = omega arith
widest W16 = omega arith
widest W32 = omega arith

-- ---- the smallest that holds a list

pub smallest_holds : (as' : List Allele) → most_of as' ≤ largest W32 → most_of as' ≤ largest (smallest as')
unfolding smallest
smallest_holds as' h = for_holds (for_is (most_of as')) h

pub smallest_least : (as' : List Allele) (n : ℕ) → Least (smallest as') as' n
unfolding Least smallest
smallest_least as' n u v l = for_least (for_is (most_of as')) u (most_at (largest u) as' (lays_has l).small)

-- of one allele
pub least_one : (a : Allele) (n : ℕ) → Least (width_for a.number) (a ∷ []) n
unfolding Least
least_one a n u v l = for_least (for_is a.number) u ((lays_has l).small.each 0 (omega arith))

-- a list with a vector in some width is held by the widest, so it has one in the smallest
module _ {w : Width} {as' : List Allele} {n : ℕ} (h : HasVector w as' n) where
  pub has_most : most_of as' ≤ largest W32
  has_most = let m = most_at (largest w) as' h.small in let l = widest w in omega arith

  pub has_smallest : HasVector (smallest as') as' n
  has_smallest = record { some = h.some; sound = h.sound; small = at_most _ as' (smallest_holds as' has_most); few = h.few }

pub smallest_lays : {w : Width} {as' : List Allele} {n : ℕ} {v : List ℕ} → Lays w as' n v → Lays (smallest as') as' n (vector_of (smallest as') n as')
smallest_lays {as' = as'} {n} l = vector_lays (smallest as') as' n (has_smallest (lays_has l))

-- two that are the smallest are one, and so are the vectors
pub one_least : {u w : Width} {as' : List Allele} {n : ℕ} {x v : List ℕ} → Lays u as' n x → Least u as' n → Lays w as' n v → Least w as' n → (u ≡ w) × (x ≡ v)
unfolding Least OneVector
one_least {u} {w} {as'} {n} {x} {v} k s l t =
    let e : u ≡ w = size_one u w (omega (arith, s w v l, t u x k)) in
    (e, (one_vector w as' n x v (rw e at k) l).0)
