-- The widths' numbers, and codes and alleles, both ways, over any width. Assumes nothing.
use Prim.Native.Nat.{ℕ, ◌+◌, ◌-◌, ◌*◌, ◌/◌, ◌%◌, ◌^◌, ◌≤◌, ◌<◌}
use mathlib.Core.Path.{◌≡◌, refl}
use mathlib.Core.Bool.{Bool, true, false}
use native.Mathlib.Omega.{arith}
use native.Mathlib.Nat.{pow-le-pow_right}
use lib.Dec.{eqb, ltb}
use mir.Val.{bool_byte}
use borrow.Author.Tests.{le-ltb, eq-eqb, ne_eqb, ltb-true, ltb-false, eqb-true, eqb-false}
use Rattle.text.specs.Pick.{pick, one_if}
use Rattle.allele.specs.declared.allele.Allele.{Allele}
use Rattle.bcf.specs.Layout.{size, padding, largest, code_of, Codable}
use Rattle.bcf.specs.declared.width.Width.{Width}
use Rattle.bcf.specs.declared.width.Width.TheVariants.{W8, W16, W32}
use Rattle.bcf.specs.Reading.{negative, allele_by}

-- ---- a mark

pub byte_is : (b : Bool) → bool_byte b ≡ one_if b
byte_is true = refl
byte_is false = refl

-- ---- the widths

pub size_some : (w : Width) → 0 < size w
unfolding size
size_some W8 = omega arith
size_some W16 = omega arith
size_some W32 = omega arith

pub padding_is : (w : Width) → padding w ≡ negative w + 1
unfolding padding negative
padding_is W8 = refl
padding_is W16 = refl
padding_is W32 = refl

pub largest_is : (w : Width) → negative w ≡ 2 * (largest w + 2)
unfolding largest negative
largest_is W8 = refl
largest_is W16 = refl
largest_is W32 = refl

-- half of all values are negative
sign_bit : (w : Width) → 2 * negative w ≡ 256 ^ size w
unfolding size negative
sign_bit W8 = refl
sign_bit W16 = refl
sign_bit W32 = refl

pub negative_fits : (w : Width) → negative w + 1 < 256 ^ size w
negative_fits w = let n = largest_is w in let s = sign_bit w in omega arith

-- a wider entry holds more
pub wider_holds : (u w : Width) → size u ≤ size w → largest u ≤ largest w
wider_holds u w h =
    let p : 256 ^ size u ≤ 256 ^ size w = pow-le-pow_right (omega arith) h in
    let m = largest_is u in
    let n = largest_is w in
    let s = sign_bit u in
    let t = sign_bit w in
    omega arith

-- ---- an allele's code, and back

pub back : (w : Width) (a : Allele) → Codable w a → allele_by (code_of a) ≡ a
unfolding allele_by code_of
back w a g = go a.number a.missing a.phased g.sound
  where
    go : (x : ℕ) (m p : Bool) → (m ≡ true → x ≡ 0)
        → allele_by (code_of (record { number = x; missing = m; phased = p })) ≡ record { number = x; missing = m; phased = p }
    go x true true s = rw (s refl)
    go x true false s = rw (s refl)
    go x false true s =
        let n : (2 * (x + 1) + 1) / 2 - 1 ≡ x = omega arith in
        let b : (2 * (x + 1) + 1) % 2 ≡ 1 = omega arith in
        rw (n, le-ltb (2 * (x + 1) + 1) 2 (omega arith), eq-eqb ((2 * (x + 1) + 1) % 2) 1 b)
    go x false false s =
        let n : (2 * (x + 1) + 0) / 2 - 1 ≡ x = omega arith in
        let b : (2 * (x + 1) + 0) % 2 ≡ 0 = omega arith in
        rw (n, le-ltb (2 * (x + 1) + 0) 2 (omega arith), ne_eqb ((2 * (x + 1) + 0) % 2) 1 (λ e. omega arith))

-- a code is below twice what its number allows
pub code_below : (a : Allele) (most : ℕ) → a.number ≤ most → code_of a < 2 * (most + 2)
unfolding code_of
code_below a most h = go a.missing a.phased
  where
    go : (m p : Bool) → 2 * pick m 0 (a.number + 1) + one_if p < 2 * (most + 2)
    go true true = omega arith
    go true false = omega arith
    go false true = omega arith
    go false false = omega arith

-- so it is not negative
pub code_small : (w : Width) (a : Allele) → Codable w a → code_of a < negative w
code_small w a g = rw (largest_is w) (code_below a (largest w) g.small)

-- what a code stands for has that code
pub allele_codable : (w : Width) (c : ℕ) → c < negative w → Codable w (allele_by c)
unfolding allele_by
allele_codable w c h = record { sound = λ e. let k = ltb-true c 2 e in omega arith; small = let l = largest_is w in omega arith }

pub forth : (c : ℕ) → code_of (allele_by c) ≡ c
unfolding allele_by code_of
forth c = by (ltb c 2) refl (eqb (c % 2) 1) refl
  where
    by : (t : Bool) → ltb c 2 ≡ t → (u : Bool) → eqb (c % 2) 1 ≡ u → 2 * pick t 0 (c / 2 - 1 + 1) + one_if u ≡ c
    by true e true f = let h = ltb-true c 2 e in let k = eqb-true (c % 2) 1 f in omega arith
    by true e false f = let h = ltb-true c 2 e in let k : (c % 2 ≡ 1 → ⊥) = eqb-false (c % 2) 1 f in omega arith
    by false e true f = let h = ltb-false c 2 e in let k = eqb-true (c % 2) 1 f in omega arith
    by false e false f = let h = ltb-false c 2 e in let k : (c % 2 ≡ 1 → ⊥) = eqb-false (c % 2) 1 f in omega arith
