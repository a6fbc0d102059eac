-- How a mask of 64 bytes is made: each byte keeps its weight or loses it, eight weights sum up to the mask of eight bytes, and eight such
-- masks are the bytes of the number. Assumes nothing.
use Prim.Native.Nat.{ℕ, suc, ◌+◌, ◌*◌, ◌^◌, ◌<◌, ◌≤◌}
use mathlib.Core.Path.{◌≡◌, refl, sym, ap, ◌∙◌}
use mathlib.Core.List.{List, [], ◌∷◌, ◌++◌}
use native.Mathlib.Omega.{arith}
use native.Mathlib.Decide.{ℕ_discrete}
use native.Mathlib.Nat.{add-zero, zero-add, mul-one, le_refl}
use lib.ListN.{length, get_or, take, drop, set, length-set, length-drop}
use lib.Seq.{get_or-set_same, get_or-set_other, take-add, drop-drop, length-take-le}
use Rattle.text.proofs.Lists.{onward}
use Rattle.masks.specs.Mask.{hit, mask_of}
use Rattle.masks.specs.Inner.{eight_of, sum_of, Light, Lights}
use Rattle.masks.proofs.MaskLaws.{hit_most, twice_pow}

-- ---- the masks of lists

module _ (a b : ℕ) where
  mask_nil : mask_of a b [] ≡ 0
  unfolding mask_of
  mask_nil = refl

  mask_append : (t u : List ℕ) → mask_of a b (t ++ u) ≡ mask_of a b t + mask_of a b u * 2 ^ length t
  unfolding mask_of
  mask_append [] u = sym (zero-add _ ∙ mul-one (mask_of a b u))
  mask_append (x ∷ t) u =
      let e = mask_append t u in
      let y = twice_pow (mask_of a b u) (length t) in
      omega arith

  mask_next : (s : List ℕ) (n i j : ℕ) → i < length s → i + 1 ≡ j → mask_of a b (take (suc n) (drop i s)) ≡ hit a b (get_or s i 0) + 2 * mask_of a b (take n (drop j s))
  unfolding mask_of
  mask_next s n i j h e = rw (onward s i j h e)

  -- eight bytes, and those past them
  mask_part : (s : List ℕ) (at i m : ℕ) → at + i + 8 + m ≤ length s
      → mask_of a b (take (8 + m) (drop (at + i) s)) ≡ mask_of a b (take 8 (drop (at + i) s)) + mask_of a b (take m (drop (at + (i + 8)) s)) * 256
  mask_part s at i m h =
      let d = length-drop (at + i) s in
      let l : length (take 8 (drop (at + i) s)) ≡ 8 = length-take-le 8 (drop (at + i) s) (omega arith) in
      let z : at + i + 8 ≡ at + (i + 8) = omega arith in
      ap (mask_of a b) (take-add 8 m (drop (at + i) s))
      ∙ mask_append (take 8 (drop (at + i) s)) (take m (drop 8 (drop (at + i) s)))
      ∙ rw (l, drop-drop 8 (at + i) s, z)

-- ---- the weights of the bytes

unfoldable pub weights : List ℕ
weights =
    1 ∷ 2 ∷ 4 ∷ 8 ∷ 16 ∷ 32 ∷ 64 ∷ 128 ∷ 1 ∷ 2 ∷ 4 ∷ 8 ∷ 16 ∷ 32 ∷ 64 ∷ 128 ∷ 1 ∷ 2 ∷ 4 ∷ 8 ∷ 16 ∷ 32 ∷ 64 ∷ 128 ∷ 1 ∷ 2 ∷ 4 ∷ 8 ∷ 16 ∷ 32 ∷ 64 ∷ 128
    ∷ 1 ∷ 2 ∷ 4 ∷ 8 ∷ 16 ∷ 32 ∷ 64 ∷ 128 ∷ 1 ∷ 2 ∷ 4 ∷ 8 ∷ 16 ∷ 32 ∷ 64 ∷ 128 ∷ 1 ∷ 2 ∷ 4 ∷ 8 ∷ 16 ∷ 32 ∷ 64 ∷ 128 ∷ 1 ∷ 2 ∷ 4 ∷ 8 ∷ 16 ∷ 32 ∷ 64 ∷ 128
    ∷ []

-- those of the first l bytes are kept where they are hits, and the others stand as they were
pub record Weighing (a b : ℕ) (s : List ℕ) (at : ℕ) (t : List ℕ) (l : ℕ) : Type 0 where
  pub short : l ≤ 64
  pub fits : at + 64 ≤ length s
  pub size : length t ≡ 64
  pub done : (j : ℕ) → j < l → get_or t j 0 ≡ hit a b (get_or s (at + j) 0) * get_or weights j 0
  pub left : (j : ℕ) → l ≤ j → get_or t j 0 ≡ get_or weights j 0

pub weigh_first : {a b : ℕ} {s : List ℕ} {at : ℕ} → at + 64 ≤ length s
    → Weighing a b s at (1 ∷ 2 ∷ 4 ∷ 8 ∷ 16 ∷ 32 ∷ 64 ∷ 128 ∷ 1 ∷ 2 ∷ 4 ∷ 8 ∷ 16 ∷ 32 ∷ 64 ∷ 128 ∷ 1 ∷ 2 ∷ 4 ∷ 8 ∷ 16 ∷ 32 ∷ 64 ∷ 128 ∷ 1 ∷ 2 ∷ 4 ∷ 8 ∷ 16 ∷ 32 ∷ 64 ∷ 128 ∷ 1 ∷ 2 ∷ 4 ∷ 8 ∷ 16 ∷ 32 ∷ 64 ∷ 128 ∷ 1 ∷ 2 ∷ 4 ∷ 8 ∷ 16 ∷ 32 ∷ 64 ∷ 128 ∷ 1 ∷ 2 ∷ 4 ∷ 8 ∷ 16 ∷ 32 ∷ 64 ∷ 128 ∷ 1 ∷ 2 ∷ 4 ∷ 8 ∷ 16 ∷ 32 ∷ 64 ∷ 128 ∷ []) 0
unfolding weights
weigh_first h = record { short = omega arith; fits = h; size = refl; done = λ j l. absurd (omega arith); left = λ j l. refl }

pub weigh_turn : {a b : ℕ} {s : List ℕ} {at : ℕ} {t : List ℕ} {l r : ℕ} → Weighing a b s at t l → l < 64 → r ≡ hit a b (get_or s (at + l) 0) * get_or t l 0
    → Weighing a b s at (set t l r) (l + 1)
weigh_turn {a} {b} {s} {at} {t} {l} {r} g h e =
    record {
      short = omega arith;
      fits = g.fits;
      size = length-set t l r ∙ g.size;
      done = λ j p. by j p (ℕ_discrete j l);
      left = λ j p. get_or-set_other t l j r 0 (λ z. omega arith) ∙ g.left j (omega arith);
    }
  where
    by : (j : ℕ) → j < l + 1 → Dec (j ≡ l) → get_or (set t l r) j 0 ≡ hit a b (get_or s (at + j) 0) * get_or weights j 0
    by j p (yes z) = rw z (get_or-set_same t l r 0 (let n = g.size in omega arith) ∙ e ∙ rw (g.left l (le_refl l)))
    by j p (no z) = get_or-set_other t l j r 0 z ∙ g.done j (omega arith)

-- ---- eight of them

record Octet (i : ℕ) : Type 0 where
  w0 : get_or weights i 0 ≡ 1
  w1 : get_or weights (i + 1) 0 ≡ 2
  w2 : get_or weights (i + 2) 0 ≡ 4
  w3 : get_or weights (i + 3) 0 ≡ 8
  w4 : get_or weights (i + 4) 0 ≡ 16
  w5 : get_or weights (i + 5) 0 ≡ 32
  w6 : get_or weights (i + 6) 0 ≡ 64
  w7 : get_or weights (i + 7) 0 ≡ 128

module _ {a b : ℕ} {s : List ℕ} {at : ℕ} {t : List ℕ} {l : ℕ} (g : Weighing a b s at t l) (p : 64 ≤ l) where
  each : (j : ℕ) {w : ℕ} → j < 64 → get_or weights j 0 ≡ w → get_or t j 0 ≡ hit a b (get_or s (at + j) 0) * w
  each j h e = rw (← e) (g.done j (omega arith))

  light : (i : ℕ) → i + 8 ≤ 64 → Octet i → Light t i
  light i h o =
      record {
        fits = (let n = g.size in omega arith);
        most0 = (let e = each i (omega arith) o.w0 in let z = hit_most a b (get_or s (at + i) 0) in omega arith);
        most1 = (let e = each (i + 1) (omega arith) o.w1 in let z = hit_most a b (get_or s (at + (i + 1)) 0) in omega arith);
        most2 = (let e = each (i + 2) (omega arith) o.w2 in let z = hit_most a b (get_or s (at + (i + 2)) 0) in omega arith);
        most3 = (let e = each (i + 3) (omega arith) o.w3 in let z = hit_most a b (get_or s (at + (i + 3)) 0) in omega arith);
        most4 = (let e = each (i + 4) (omega arith) o.w4 in let z = hit_most a b (get_or s (at + (i + 4)) 0) in omega arith);
        most5 = (let e = each (i + 5) (omega arith) o.w5 in let z = hit_most a b (get_or s (at + (i + 5)) 0) in omega arith);
        most6 = (let e = each (i + 6) (omega arith) o.w6 in let z = hit_most a b (get_or s (at + (i + 6)) 0) in omega arith);
        most7 = (let e = each (i + 7) (omega arith) o.w7 in let z = hit_most a b (get_or s (at + (i + 7)) 0) in omega arith);
      }

  eight_mask : (i : ℕ) → i + 8 ≤ 64 → Octet i → eight_of t i ≡ mask_of a b (take 8 (drop (at + i) s))
  unfolding eight_of
  eight_mask i h o =
      let f = g.fits in
      let e0 = each i (omega arith) o.w0 in
      let e1 = each (i + 1) (omega arith) o.w1 in
      let e2 = each (i + 2) (omega arith) o.w2 in
      let e3 = each (i + 3) (omega arith) o.w3 in
      let e4 = each (i + 4) (omega arith) o.w4 in
      let e5 = each (i + 5) (omega arith) o.w5 in
      let e6 = each (i + 6) (omega arith) o.w6 in
      let e7 = each (i + 7) (omega arith) o.w7 in
      let m0 = mask_next a b s 7 (at + i) (at + (i + 1)) (omega arith) (omega arith) in
      let m1 = mask_next a b s 6 (at + (i + 1)) (at + (i + 2)) (omega arith) (omega arith) in
      let m2 = mask_next a b s 5 (at + (i + 2)) (at + (i + 3)) (omega arith) (omega arith) in
      let m3 = mask_next a b s 4 (at + (i + 3)) (at + (i + 4)) (omega arith) (omega arith) in
      let m4 = mask_next a b s 3 (at + (i + 4)) (at + (i + 5)) (omega arith) (omega arith) in
      let m5 = mask_next a b s 2 (at + (i + 5)) (at + (i + 6)) (omega arith) (omega arith) in
      let m6 = mask_next a b s 1 (at + (i + 6)) (at + (i + 7)) (omega arith) (omega arith) in
      let m7 = mask_next a b s 0 (at + (i + 7)) (at + (i + 8)) (omega arith) (omega arith) in
      let z = mask_nil a b in
      omega arith

octet0 : Octet 0
unfolding weights
octet0 = record { w0 = refl; w1 = refl; w2 = refl; w3 = refl; w4 = refl; w5 = refl; w6 = refl; w7 = refl }

octet8 : Octet 8
unfolding weights
octet8 = record { w0 = refl; w1 = refl; w2 = refl; w3 = refl; w4 = refl; w5 = refl; w6 = refl; w7 = refl }

octet16 : Octet 16
unfolding weights
octet16 = record { w0 = refl; w1 = refl; w2 = refl; w3 = refl; w4 = refl; w5 = refl; w6 = refl; w7 = refl }

octet24 : Octet 24
unfolding weights
octet24 = record { w0 = refl; w1 = refl; w2 = refl; w3 = refl; w4 = refl; w5 = refl; w6 = refl; w7 = refl }

octet32 : Octet 32
unfolding weights
octet32 = record { w0 = refl; w1 = refl; w2 = refl; w3 = refl; w4 = refl; w5 = refl; w6 = refl; w7 = refl }

octet40 : Octet 40
unfolding weights
octet40 = record { w0 = refl; w1 = refl; w2 = refl; w3 = refl; w4 = refl; w5 = refl; w6 = refl; w7 = refl }

octet48 : Octet 48
unfolding weights
octet48 = record { w0 = refl; w1 = refl; w2 = refl; w3 = refl; w4 = refl; w5 = refl; w6 = refl; w7 = refl }

octet56 : Octet 56
unfolding weights
octet56 = record { w0 = refl; w1 = refl; w2 = refl; w3 = refl; w4 = refl; w5 = refl; w6 = refl; w7 = refl }

-- ---- all 64

module _ {a b : ℕ} {s : List ℕ} {at : ℕ} {t : List ℕ} {l : ℕ} (g : Weighing a b s at t l) (p : 64 ≤ l) where
  pub weigh_light : Lights t
  weigh_light =
      record {
        first = light g p 0 (omega arith) octet0;
        second = light g p 8 (omega arith) octet8;
        third = light g p 16 (omega arith) octet16;
        fourth = light g p 24 (omega arith) octet24;
        fifth = light g p 32 (omega arith) octet32;
        sixth = light g p 40 (omega arith) octet40;
        seventh = light g p 48 (omega arith) octet48;
        eighth = light g p 56 (omega arith) octet56;
      }

  pub weigh_past : {r : ℕ} → r ≡ sum_of t → r ≡ mask_of a b (take 64 (drop at s))
  unfolding sum_of
  weigh_past e =
      let f = g.fits in
      let e0 = eight_mask g p 0 (omega arith) octet0 in
      let e1 = eight_mask g p 8 (omega arith) octet8 in
      let e2 = eight_mask g p 16 (omega arith) octet16 in
      let e3 = eight_mask g p 24 (omega arith) octet24 in
      let e4 = eight_mask g p 32 (omega arith) octet32 in
      let e5 = eight_mask g p 40 (omega arith) octet40 in
      let e6 = eight_mask g p 48 (omega arith) octet48 in
      let e7 = eight_mask g p 56 (omega arith) octet56 in
      let m0 = mask_part a b s at 0 56 (omega arith) in
      let m1 = mask_part a b s at 8 48 (omega arith) in
      let m2 = mask_part a b s at 16 40 (omega arith) in
      let m3 = mask_part a b s at 24 32 (omega arith) in
      let m4 = mask_part a b s at 32 24 (omega arith) in
      let m5 = mask_part a b s at 40 16 (omega arith) in
      let m6 = mask_part a b s at 48 8 (omega arith) in
      let z = ap (λ (k : ℕ). mask_of a b (take 64 (drop k s))) (add-zero at) in
      omega arith

pub eight_is : (t : List ℕ) (i : ℕ) {r : ℕ} → r ≡ get_or t i 0 + get_or t (i + 1) 0 + get_or t (i + 2) 0 + get_or t (i + 3) 0 + get_or t (i + 4) 0 + get_or t (i + 5) 0 + get_or t (i + 6) 0 + get_or t (i + 7) 0
    → r ≡ eight_of t i
unfolding eight_of
eight_is t i e = e

pub ruleset laws = (weigh_first, weigh_turn, weigh_light, weigh_past, eight_is)
