-- A number whose bits are the places of two bytes: what its lowest bit says, the number without it, and bits side by side. By induction
-- on the bytes. Assumes nothing.
use Prim.Native.Nat.{ℕ, zero, suc, ◌+◌, ◌-◌, ◌*◌, ◌/◌, ◌%◌, ◌^◌, ◌<◌, ◌≤◌, zero-le, suc-le-suc, min}
use mathlib.Core.Path.{◌≡◌, refl, sym, ap, ◌∙◌}
use mathlib.Core.Bool.{Bool, true, false, ◌||◌}
use mathlib.Core.Logic.{◌⊎◌, inl, inr}
use mathlib.Core.List.{List, [], ◌∷◌}
use native.Mathlib.Omega.{arith}
use native.Mathlib.Decide.{ℕ_discrete}
use native.Mathlib.Nat.{mul-one, one-mul, zero-mul, mul_assoc, mul_comm, pow-suc, suc-mul, le_refl}
use lib.ListN.{length, get_or, take, drop, length-drop}
use lib.Seq.{drop-drop, length-take-le, get_or-take, get_or-drop}
use lib.Dec.{eqb}
use lib.Bits.{bit_and, and_step}
use lib.Count.{count_trailing_zeros, trailing_le}
use lib.Pow.{pow-add, pow_pos}
use borrow.Author.Tests.{eq-eqb, ne_eqb, eqb-true, le-leb, lt-leb}
use Rattle.text.specs.Pick.{pick}
use Rattle.text.specs.Flags.{Neither, Each}
use Rattle.text.proofs.Lists.{here, drop_take}
use Rattle.masks.specs.Mask.{hit, mask_of, mask_at}
use Rattle.masks.proofs.BitLaws.{lowest, cleared}

-- ---- one byte

module _ (a b x w : ℕ) where
  pub hit_first : x ≡ a → w ≡ hit a b x * w
  unfolding hit
  hit_first e = rw (eq-eqb x a e) (sym (one-mul w))

  pub hit_second : (x ≡ a → ⊥) → x ≡ b → w ≡ hit a b x * w
  unfolding hit
  hit_second n e = rw (ne_eqb x a n, eq-eqb x b e) (sym (one-mul w))

  pub hit_none : (x ≡ a → ⊥) → (x ≡ b → ⊥) → 0 ≡ hit a b x * w
  unfolding hit
  hit_none n m = rw (ne_eqb x a n, ne_eqb x b m) (sym (zero-mul w))

module _ (a b x : ℕ) where
  pub hit_most : hit a b x ≤ 1
  unfolding hit
  hit_most = by (eqb x a || eqb x b)
    where
      by : (t : Bool) → pick t 1 0 ≤ 1
      by true = le_refl 1
      by false = zero-le

  hit_is : hit a b x ≡ 1 → (x ≡ a) ⊎ (x ≡ b)
  unfolding hit
  hit_is = by (eqb x a) (eqb x b) refl refl
    where
      by : (t u : Bool) → eqb x a ≡ t → eqb x b ≡ u → ◌≡◌ {A = ℕ} (pick (t || u) 1 0) 1 → (x ≡ a) ⊎ (x ≡ b)
      by true u e f h = inl (eqb-true x a e)
      by false true e f h = inr (eqb-true x b f)
      by false false e f h = absurd (omega arith)

  hit_one : (x ≡ a) ⊎ (x ≡ b) → hit a b x ≡ 1
  unfolding hit
  hit_one = by (ℕ_discrete x a)
    where
      by : Dec (x ≡ a) → (x ≡ a) ⊎ (x ≡ b) → ◌≡◌ {A = ℕ} (pick (eqb x a || eqb x b) 1 0) 1
      by (yes e) o = rw (eq-eqb x a e)
      by (no n) (inl e) = absurd (n e)
      by (no n) (inr e) = rw (ne_eqb x a n, eq-eqb x b e)

hit_neither : (a b : ℕ) (s : List ℕ) (k : ℕ) → hit a b (get_or s k 0) ≡ 0 → Neither a b s k
hit_neither a b s k z = record { no_first = λ e. omega (arith, hit_one a b (get_or s k 0) (inl e)); no_second = λ e. omega (arith, hit_one a b (get_or s k 0) (inr e)) }

pub zeros_fit : (m : ℕ) → count_trailing_zeros 64 m < 2 ^ 64
zeros_fit m = omega (arith, trailing_le 64 m)

-- ---- the mask of a place

module _ (a b : ℕ) (s : List ℕ) (at : ℕ) where
  pub mask_short : length s - at < 64 → 0 ≡ mask_at a b s at
  unfolding mask_at
  mask_short l = rw (lt-leb (at + 64) (length s) (omega arith))

  mask_whole : at + 64 ≤ length s → mask_at a b s at ≡ mask_of a b (take 64 (drop at s))
  unfolding mask_at
  mask_whole h = rw (le-leb (at + 64) (length s) h)

  pub mask_full : {r : ℕ} → 64 ≤ length s - at → r ≡ mask_of a b (take 64 (drop at s)) → r ≡ mask_at a b s at
  mask_full l e = e ∙ sym (mask_whole (omega arith))

-- ---- its lowest bit

pub twice_pow : (x n : ℕ) → 2 * (x * 2 ^ n) ≡ x * 2 ^ suc n
twice_pow x n = rw (pow-suc 2 n, ← mul_assoc x (2 ^ n) 2) (mul_comm 2 _)

-- the first hit of a text stands at n
record First (a b : ℕ) (t : List ℕ) (n : ℕ) : Type 0 where
  within : n < length t
  is : hit a b (get_or t n 0) ≡ 1
  before : (k : ℕ) → k < n → hit a b (get_or t k 0) ≡ 0
  value : mask_of a b t ≡ (1 + 2 * mask_of a b (drop (suc n) t)) * 2 ^ n

module _ (a b : ℕ) where
  first_hit : (t : List ℕ) → (mask_of a b t ≡ 0 → ⊥) → (n : ℕ) × First a b t n
  unfolding mask_of
  first_hit [] h = absurd (h refl)
  first_hit (x ∷ t) h = by (ℕ_discrete (hit a b x) 1) (first_hit t)
    where
      more : hit a b x ≡ 0 → (n : ℕ) × First a b t n → (n : ℕ) × First a b (x ∷ t) n
      more z (n, f) =
          (suc n, record { within = suc-le-suc f.within; is = f.is; before = before n f; value = (let v = f.value in let y = twice_pow (1 + 2 * mask_of a b (drop (suc n) t)) n in omega arith) })
        where
          before : (n : ℕ) → First a b t n → (k : ℕ) → k < suc n → hit a b (get_or (x ∷ t) k 0) ≡ 0
          before n f zero q = z
          before n f (suc k) q = f.before k (omega arith)

      by : Dec (hit a b x ≡ 1) → ((mask_of a b t ≡ 0 → ⊥) → (n : ℕ) × First a b t n) → (n : ℕ) × First a b (x ∷ t) n
      by (yes e) r = (zero, record { within = omega arith; is = e; before = λ k q. absurd (omega arith); value = rw (e, mul-one (1 + 2 * mask_of a b t)) })
      by (no n) r =
          let z : hit a b x ≡ 0 = omega (arith, hit_most a b x) in
          more z (r (λ y. h (omega arith)))

  -- no hit in a text whose mask is 0
  mask_none : (t : List ℕ) → mask_of a b t ≡ 0 → (k : ℕ) → k < length t → hit a b (get_or t k 0) ≡ 0
  unfolding mask_of
  mask_none [] h k p = absurd (omega arith)
  mask_none (x ∷ t) h zero p = omega arith
  mask_none (x ∷ t) h (suc k) p = mask_none t (omega arith) k (omega arith)

-- ---- the bits of the 64 bytes at i that stand at `from` or past it

pub record Left (a b : ℕ) (s : List ℕ) (i from m : ℕ) : Type 0 where
  pub begun : i ≤ from
  pub short : from ≤ i + 64
  pub fits : i + 64 ≤ length s
  pub value : m ≡ mask_of a b (take (i + 64 - from) (drop from s)) * 2 ^ (from - i)

pub left_first : {a b : ℕ} {s : List ℕ} {i m : ℕ} → i + 64 ≤ length s → m ≡ mask_at a b s i → Left a b s i i m
left_first {a} {b} {s} {i} h e =
    let x : i + 64 - i ≡ 64 = omega arith in
    let y : i - i ≡ 0 = omega arith in
    record { begun = le_refl i; short = omega arith; fits = h; value = rw (x, y) (e ∙ mask_whole a b s i h ∙ sym (mul-one _)) }

-- a byte of a part is one of the text
part_hit : (a b n : ℕ) (s : List ℕ) (from k : ℕ) → from ≤ k → k < from + n → hit a b (get_or (take n (drop from s)) (k - from) 0) ≡ hit a b (get_or s k 0)
part_hit a b n s from k p q =
    let z : from + (k - from) ≡ k = omega arith in
    rw (get_or-take n (drop from s) (k - from) 0 (omega arith), get_or-drop from s (k - from) 0, z)

quiet_part : (a b n : ℕ) (s : List ℕ) (from end : ℕ) → end ≤ from + n
    → ((k : ℕ) → k < end - from → hit a b (get_or (take n (drop from s)) k 0) ≡ 0) → Each (Neither a b) s from end
quiet_part a b n s from end l f k p q = hit_neither a b s k (sym (part_hit a b n s from k p (omega arith)) ∙ f (k - from) (omega arith))

zero_left : (x y : ℕ) → 0 < y → x * y ≡ 0 → x ≡ 0
zero_left zero y h e = refl
zero_left (suc x) y h e = absurd (omega (arith, suc-mul x y))

-- the part of the block from `from` on
abbrev part : List ℕ → ℕ → ℕ → List ℕ
part s i from = take (i + 64 - from) (drop from s)

length_part : {a b : ℕ} {s : List ℕ} {i from m : ℕ} → Left a b s i from m → length (part s i from) ≡ i + 64 - from
length_part {s = s} {i = i} {from = from} g =
    let h = g.begun in
    let w = g.fits in
    let d = length-drop from s in
    length-take-le (i + 64 - from) (drop from s) (omega arith)

-- none is left
pub left_none : {a b : ℕ} {s : List ℕ} {i from m : ℕ} → Left a b s i from m → m ≡ 0 → Each (Neither a b) s from (i + 64)
left_none {a} {b} {s} {i} {from} {m} g z =
    let h = g.short in
    let l = length_part g in
    let v = zero_left _ (2 ^ (from - i)) (pow_pos (from - i)) (sym g.value ∙ z) in
    quiet_part a b (i + 64 - from) s from (i + 64) (omega arith) (λ k p. mask_none a b (part s i from) v k (omega arith))

-- the lowest is the first a or b
pub record Lowest (a b : ℕ) (s : List ℕ) (i from m n : ℕ) : Type 0 where
  pub short : n < 64
  pub after : from ≤ i + n
  pub within : i + n < length s
  pub clear : Each (Neither a b) s from (i + n)
  pub is : (get_or s (i + n) 0 ≡ a) ⊎ (get_or s (i + n) 0 ≡ b)
  pub rest : Left a b s i (i + n + 1) (bit_and m (m - 1))

module _ {a b : ℕ} {s : List ℕ} {i from m n : ℕ} (g : Left a b s i from m) (e : n ≡ count_trailing_zeros 64 m) (k : ℕ) (f : First a b (part s i from) k) where
  abbrev more : ℕ
  more = mask_of a b (drop (suc k) (part s i from))

  low_value : m ≡ (1 + 2 * more) * 2 ^ (k + (from - i))
  low_value =
      g.value
      ∙ ap (λ (x : ℕ). x * 2 ^ (from - i)) f.value
      ∙ mul_assoc (1 + 2 * more) (2 ^ k) (2 ^ (from - i))
      ∙ ap (λ (x : ℕ). (1 + 2 * more) * x) (sym (pow-add 2 k (from - i)))

  low_place : n ≡ k + (from - i)
  low_place =
      let h = g.begun in
      let w = f.within in
      let y = length_part g in
      e ∙ ap (count_trailing_zeros 64) low_value ∙ lowest 64 more (k + (from - i)) (omega arith)

  low_further : more ≡ mask_of a b (take (i + 64 - (i + n + 1)) (drop (i + n + 1) s))
  low_further =
      let h = g.begun in
      let w = g.fits in
      let v = f.within in
      let y = length_part g in
      let p = low_place in
      let d = length-drop from s in
      let x : i + 64 - from - suc k ≡ i + 64 - (i + n + 1) = omega arith in
      let c : from + suc k ≡ i + n + 1 = omega arith in
      ap (mask_of a b) (drop_take (drop from s) (suc k) (i + 64 - from) (omega arith) (omega arith) ∙ rw (drop-drop (suc k) from s, x, c))

  low_others : Left a b s i (i + n + 1) (bit_and m (m - 1))
  low_others =
      let h = g.begun in
      let v = f.within in
      let y = length_part g in
      let p = low_place in
      let x : i + n + 1 - i ≡ suc (k + (from - i)) = omega arith in
      record {
        begun = omega arith;
        short = omega arith;
        fits = g.fits;
        value =
            ap (λ (x : ℕ). bit_and x (x - 1)) low_value
            ∙ cleared more (k + (from - i))
            ∙ mul_assoc 2 more (2 ^ (k + (from - i)))
            ∙ twice_pow more (k + (from - i))
            ∙ rw (x, ← low_further);
      }

  low_found : Lowest a b s i from m n
  low_found =
      let h = g.begun in
      let w = g.fits in
      let v = f.within in
      let y = length_part g in
      let p = low_place in
      let z : i + n - from ≡ k = omega arith in
      record {
        short = omega arith;
        after = omega arith;
        within = omega arith;
        clear = quiet_part a b (i + 64 - from) s from (i + n) (omega arith) (λ j r. f.before j (omega arith));
        is = hit_is a b _ (sym (part_hit a b (i + 64 - from) s from (i + n) (omega arith) (omega arith)) ∙ rw z f.is);
        rest = low_others;
      }

pub left_low : {a b : ℕ} {s : List ℕ} {i from m n : ℕ} → Left a b s i from m → (m ≡ 0 → ⊥) → n ≡ count_trailing_zeros 64 m → Lowest a b s i from m n
left_low {a} {b} {s} {i} {from} {m} {n} g z e =
    let r = first_hit a b (part s i from) (λ y. z (g.value ∙ ap (λ (x : ℕ). x * 2 ^ (from - i)) y ∙ zero-mul (2 ^ (from - i)))) in
    low_found g e r.0 r.1

-- ---- bits side by side

module _ (a b : ℕ) where
  mask_half : (x : ℕ) (t : List ℕ) → mask_of a b (x ∷ t) / 2 ≡ mask_of a b t
  unfolding mask_of
  mask_half x t = omega (arith, hit_most a b x)

  mask_odd : (x : ℕ) (t : List ℕ) → mask_of a b (x ∷ t) % 2 ≡ hit a b x
  unfolding mask_of
  mask_odd x t = omega (arith, hit_most a b x)

  both_odd : (n : ℕ) → min 1 n ≡ 0 → n ≡ 0
  both_odd zero e = refl
  both_odd (suc n) e = absurd (omega arith)

  beside : (x : ℕ) (t : List ℕ) → bit_and (mask_of a b (x ∷ t)) (mask_of a b (x ∷ t) / 2)
      ≡ bit_and (mask_of a b t) (mask_of a b t / 2) * 2 + min (hit a b x) (mask_of a b t % 2)
  beside x t = and_step (mask_of a b (x ∷ t)) (mask_of a b (x ∷ t) / 2) ∙ rw (mask_half x t, mask_odd x t)

  apart : (t : List ℕ) → bit_and (mask_of a b t) (mask_of a b t / 2) ≡ 0 → (k : ℕ) → suc k < length t → hit a b (get_or t k 0) ≡ 1 → hit a b (get_or t (suc k) 0) ≡ 0
  apart [] z k l e = absurd (omega arith)
  apart (x ∷ []) z k l e = absurd (omega arith)
  apart (x ∷ y ∷ t) z zero l e =
      let s = beside x (y ∷ t) in
      let q : min 1 (hit a b y) ≡ 0 = omega (arith, rw (e, mask_odd y t) at s) in
      both_odd (hit a b y) q
  apart (x ∷ y ∷ t) z (suc k) l e = let s = beside x (y ∷ t) in apart (y ∷ t) (omega arith) k (omega arith) e

-- past each a or b of the 64 bytes at i stands neither, up to the last
pub record Apart (a b : ℕ) (s : List ℕ) (i : ℕ) : Type 0 where
  pub next : (k : ℕ) → i ≤ k → k + 1 < i + 64 → (get_or s k 0 ≡ a) ⊎ (get_or s k 0 ≡ b) → Neither a b s (k + 1)

pub left_apart : {a b : ℕ} {s : List ℕ} {i m : ℕ} → i + 64 ≤ length s → m ≡ mask_at a b s i → bit_and m (m / 2) ≡ 0 → Apart a b s i
left_apart {a} {b} {s} {i} {m} h e z =
    let d = length-drop i s in
    let l = length-take-le 64 (drop i s) (omega arith) in
    let y = e ∙ mask_whole a b s i h in
    record {
      next = λ k p q w.
          (let x : k + 1 - i ≡ suc (k - i) = omega arith in
          hit_neither a b s (k + 1)
          (sym (part_hit a b 64 s i (k + 1) (omega arith) (omega arith))
          ∙ rw x (apart a b (take 64 (drop i s)) (rw (← y) z) (k - i) (omega arith) (part_hit a b 64 s i k p (omega arith) ∙ hit_one a b (get_or s k 0) w))));
    }

-- the lowest bit is the first byte's
pub left_even : {a b : ℕ} {s : List ℕ} {i m : ℕ} → i + 64 ≤ length s → m ≡ mask_at a b s i → (m % 2 ≡ 1 → ⊥) → Neither a b s i
left_even {a} {b} {s} {i} {m} h e n = hit_neither a b s i (by (ℕ_discrete (hit a b (get_or s i 0)) 1))
  where
    first : m % 2 ≡ hit a b (get_or s i 0)
    first = rw (e ∙ mask_whole a b s i h ∙ ap (λ (t : List ℕ). mask_of a b (take 64 t)) (here s i (omega arith))) (mask_odd a b (get_or s i 0) (take 63 (drop (i + 1) s)))

    by : Dec (hit a b (get_or s i 0) ≡ 1) → hit a b (get_or s i 0) ≡ 0
    by (yes y) = absurd (n (first ∙ y))
    by (no y) = omega (arith, hit_most a b (get_or s i 0))

pub ruleset laws = (hit_first, hit_second, hit_none, zeros_fit, mask_short, mask_full)
