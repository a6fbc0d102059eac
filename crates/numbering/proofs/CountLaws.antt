-- The binomials as products over products, and their bound. Assumes nothing.
use Prim.Native.Nat.{ℕ, zero, suc, ◌+◌, ◌-◌, ◌*◌, ◌/◌, ◌^◌, ◌<◌, ◌≤◌, zero-le}
use mathlib.Core.Path.{◌≡◌, refl, sym, ap, ◌∙◌}
use native.Mathlib.Omega.{arith}
use native.Mathlib.Nat.{mul_assoc, mul_comm, add-mul, mul-add, zero-mul, le_refl, mul-le-mul, mul-div_cancel, mul-pos, pow-suc, pow-le-pow_right}
use native.Mathlib.Numerals.{add-one}
use Rattle.numbering.specs.Closed.{how_many}
use Rattle.numbering.proofs.OrderLaws.{count_none, count_empty, count_more}

-- k times k + 1 and so on, i factors
unfoldable pub rise : ℕ → ℕ → ℕ
rise zero k = 1
rise (suc i) k = rise i k * (k + i)

rise_front : (i k : ℕ) → rise (suc i) k ≡ k * rise i (suc k)
unfolding rise
rise_front zero k = omega arith
rise_front (suc i) k =
    let e : k + suc i ≡ suc k + i = omega arith in
    ap (λ (x : ℕ). x * (k + suc i)) (rise_front i k) ∙ mul_assoc k (rise i (suc k)) (k + suc i) ∙ rw e refl

-- the count times the product of 1 to p is the product of n to n + p - 1
count_product : (p n : ℕ) → how_many p n * rise p 1 ≡ rise p n
unfolding rise
count_product zero n = rw count_none refl
count_product (suc p) zero = rw (count_empty p) (zero-mul _ ∙ sym (rise_front p 0 ∙ zero-mul _))
count_product (suc p) (suc a) =
    let x = count_product (suc p) a in
    let y = count_product p (suc a) in
    let u : how_many p (suc a) * (rise p 1 * (1 + p)) ≡ rise p (suc a) * (1 + p) = sym (mul_assoc (how_many p (suc a)) (rise p 1) (1 + p)) ∙ ap (λ (z : ℕ). z * (1 + p)) y in
    let v : how_many (suc p) a * (rise p 1 * (1 + p)) ≡ a * rise p (suc a) = x ∙ rise_front p a in
    let w : rise p (suc a) * (suc a + p) ≡ rise p (suc a) * a + rise p (suc a) * (1 + p) = let e : suc a + p ≡ a + (1 + p) = omega arith in rw e (mul-add (rise p (suc a)) a (1 + p)) in
    let c = mul_comm a (rise p (suc a)) in
    rw (count_more p a) (add-mul (how_many (suc p) a) (how_many p (suc a)) (rise p 1 * (1 + p)) ∙ omega arith)

-- ---- no product passes 71 to the 8th, which is below 2 ^ 50

rise_power : (i k : ℕ) → k + i ≤ 72 → rise i k ≤ 71 ^ i
unfolding rise
rise_power zero k h = le_refl 1
rise_power (suc i) k h = rw pow-suc (mul-le-mul (rise_power i k (omega arith)) (omega arith))

pub rise_small : (i k : ℕ) → i ≤ 8 → k ≤ 64 → rise i k ≤ 645753531245761
rise_small i k h l =
    let a = rise_power i k (omega arith) in
    let b : 71 ^ i ≤ 71 ^ 8 = pow-le-pow_right (omega arith) h in
    omega arith

rise_one : (i k : ℕ) → 0 < k → 0 < rise i k
unfolding rise
rise_one zero k h = omega arith
rise_one (suc i) k h = mul-pos (rise_one i k h) (omega arith)

-- ---- the largest count

-- with more alleles, and with a higher ploidy, there are no fewer
wider : (p a d : ℕ) → how_many p a ≤ how_many p (a + d)
wider p a zero = let e : a + 0 ≡ a = omega arith in rw e (le_refl _)
wider zero a (suc d) = let x = count_none a in let y = count_none (a + suc d) in omega arith
wider (suc p) a (suc d) =
    let e : a + suc d ≡ suc (a + d) = omega arith in
    let x = wider (suc p) a d in
    let y = count_more p (a + d) in
    rw e (omega arith)

higher : (p d a : ℕ) → how_many p (suc a) ≤ how_many (p + d) (suc a)
higher p zero a = let e : p + 0 ≡ p = omega arith in rw e (le_refl _)
higher p (suc d) a =
    let e : p + suc d ≡ suc (p + d) = omega arith in
    let x = higher p d a in
    let y = count_more (p + d) a in
    rw e (omega arith)

pub largest : how_many 8 64 ≡ 10639125640
unfolding rise
largest = let e = count_product 8 64 in omega arith

pub count_small : (p n : ℕ) → p ≤ 8 → n ≤ 64 → how_many p n ≤ 10639125640
count_small p n h l =
    let e : n + (64 - n) ≡ 64 = omega arith in
    let f : p + (8 - p) ≡ 8 = omega arith in
    let x : how_many p n ≤ how_many p 64 = rw e at (wider p n (64 - n)) in
    let y : how_many p 64 ≤ how_many 8 64 = rw f at (higher p (8 - p) 63) in
    let z = largest in
    omega arith

-- ---- the loop

-- i factors of each product are taken
pub record Counting (p n over under i : ℕ) : Type 0 where
  pub within : i ≤ p
  pub above : over ≡ rise i n
  pub below : under ≡ rise i 1

pub count_first : {p n : ℕ} → Counting p n 1 1 0
unfolding rise
count_first = record { within = zero-le; above = refl; below = refl }

module _ {p n over under i : ℕ} (g : Counting p n over under i) where
  up : (x k : ℕ) → x ≡ rise i k → x * (k + i) ≡ rise (i + 1) k
  unfolding rise
  up x k e = rw (add-one, e) refl

  pub count_over : p ≤ 8 → n ≤ 64 → i < p → over * (n + i) < 2 ^ 64
  count_over a b h = let e = up over n g.above in let s = rise_small (i + 1) n (omega arith) b in omega arith

  pub count_under : p ≤ 8 → i < p → under * (1 + i) < 2 ^ 64
  count_under a h = let e = up under 1 g.below in let s = rise_small (i + 1) 1 (omega arith) (omega arith) in omega arith

  pub count_turn : i < p → Counting p n (over * (n + i)) (under * (1 + i)) (i + 1)
  count_turn h = record { within = omega arith; above = up over n g.above; below = up under 1 g.below }

  pub count_whole : 0 < under
  count_whole = let e = g.below in let o = rise_one i 1 (omega arith) in omega arith

  pub count_past : p ≤ i → over / under ≡ how_many p n
  count_past h =
      let w = g.within in
      let f : i ≡ p = omega arith in
      let a : over ≡ how_many p n * rise p 1 = g.above ∙ ap (λ (j : ℕ). rise j n) f ∙ sym (count_product p n) in
      let b : under ≡ rise p 1 = g.below ∙ ap (λ (j : ℕ). rise j 1) f in
      rw (a, b) (mul-div_cancel (how_many p n) (rise_one p 1 (omega arith)))

pub ruleset laws = (count_first, count_over, count_under, count_turn, count_whole, count_past)
