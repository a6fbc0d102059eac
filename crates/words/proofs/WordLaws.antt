-- Eight bytes as one number: no step on it carries from one byte to the next, so each byte is marked by itself, and the lowest mark tells how
-- many bytes stand before it. Assumes nothing.
use Prim.Native.Nat.{ℕ, zero, suc, ◌+◌, ◌-◌, ◌*◌, ◌/◌, ◌^◌, ◌<◌, ◌≤◌}
use mathlib.Core.Path.{◌≡◌, refl, ◌∙◌}
use mathlib.Core.List.{List, [], ◌∷◌}
use native.Mathlib.Omega.{arith}
use native.Mathlib.Decide.{ℕ_discrete}
use lib.ListN.{length, get_or}
use lib.Dec.{eqb}
use lib.Bits.{bit_and, bit_or, bit_xor, xor_block, and_block, or_block, xor_lt, or_lt, and_le_r, and_mask, and_comm, and_shifted, xor_self, xor_add_and, and_le_l}
use lib.Count.{count_trailing_zeros, trailing_le}
use borrow.Author.Tests.{eq-eqb, ne_eqb}
use Rattle.std.specs.Int.{from_le_bytes, w64}
use Rattle.text.specs.Pick.{pick}
use Rattle.text.proofs.FlagLaws.{or_left, or_right}
use Rattle.text.proofs.BitLaws.{zeros_odd, zeros_more}
use Rattle.pieces.specs.Inner.{quiet_length}
use Rattle.pieces.proofs.BlockLaws.{quiet_cons, quiet_none_left}
use Rattle.words.specs.Word.{word_of, marks_of}

-- each element is below 256
abbrev Bytes : List ℕ → Type 0
Bytes l = (k : ℕ) → get_or l k 0 < 256

-- ---- the number

-- the number that std makes of eight
word_is : (l : List ℕ) → length l ≡ 8 → from_le_bytes w64 l ≡ word_of l
unfolding word_of
word_is (a ∷ b ∷ c ∷ d ∷ e ∷ f ∷ g ∷ h ∷ []) n = omega arith
word_is [] n = absurd (omega arith)
word_is (a ∷ []) n = absurd (omega arith)
word_is (a ∷ b ∷ []) n = absurd (omega arith)
word_is (a ∷ b ∷ c ∷ []) n = absurd (omega arith)
word_is (a ∷ b ∷ c ∷ d ∷ []) n = absurd (omega arith)
word_is (a ∷ b ∷ c ∷ d ∷ e ∷ []) n = absurd (omega arith)
word_is (a ∷ b ∷ c ∷ d ∷ e ∷ f ∷ []) n = absurd (omega arith)
word_is (a ∷ b ∷ c ∷ d ∷ e ∷ f ∷ g ∷ []) n = absurd (omega arith)
word_is (a ∷ b ∷ c ∷ d ∷ e ∷ f ∷ g ∷ h ∷ i ∷ l) n = absurd (omega arith)

-- ---- one byte

-- x and b differ in some bit where they differ
xor_some : {x b : ℕ} → bit_xor x b ≡ 0 → x ≡ b
xor_some {x} {b} e = omega (arith, xor_add_and x b, and_le_l x b, and_le_r x b)

-- the highest bit of a byte tells whether x is b
one_mark : (x b : ℕ) → x < 256 → b < 256
    → bit_and (255 - bit_or (bit_and (bit_xor x b) 127 + 127) (bit_xor x b)) 128 ≡ pick (eqb x b) 128 0
one_mark x b h l = by (ℕ_discrete x b)
  where
    -- set where y is not 0
    high : (y : ℕ) → y < 256 → (y ≡ 0 → ⊥) → 128 ≤ bit_or (bit_and y 127 + 127) y
    high y h n = omega (arith, and_mask y 7, or_left (bit_and y 127 + 127) y, or_right (bit_and y 127 + 127) y)

    none : (o : ℕ) → 128 ≤ o → bit_and (255 - o) 128 ≡ 0
    none o h = and_comm (255 - o) 128 ∙ and_shifted 1 7 (255 - o) (omega arith)

    by : Dec (x ≡ b) → bit_and (255 - bit_or (bit_and (bit_xor x b) 127 + 127) (bit_xor x b)) 128 ≡ pick (eqb x b) 128 0
    by (yes e) = rw (eq-eqb x b e, e, xor_self b)
    by (no n) = rw (ne_eqb x b n) (none _ (high (bit_xor x b) (xor_lt 8 x b h l) (λ z. n (xor_some z))))

-- ---- the marks

-- the steps that mark the bytes of l, with words whose bytes are each b, 127, 255 and 128
record Marked (b : ℕ) (l : List ℕ) (v low full top : ℕ) : Type 0 where
  below : bit_or (bit_and (bit_xor (word_of l) v) low + low) (bit_xor (word_of l) v) ≤ full
  is : bit_and (full - bit_or (bit_and (bit_xor (word_of l) v) low + low) (bit_xor (word_of l) v)) top ≡ marks_of b l

mark_none : (b : ℕ) → Marked b [] 0 0 0 0
unfolding word_of marks_of
mark_none b = record { below = omega arith; is = refl }

mark_more : {b x v low full top : ℕ} {l : List ℕ} → x < 256 → b < 256 → Marked b l v low full top
    → Marked b (x ∷ l) (v * 256 + b) (low * 256 + 127) (full * 256 + 255) (top * 256 + 128)
unfolding word_of marks_of
mark_more {b} {x} {v} {low} {full} {top} {l} h k m =
    record {
      below = rw high (omega (arith, m.below, short));
      is =
          rw (high, less)
          (and_block 8 (full - bit_or (bit_and u low + low) u) top (255 - bit_or (a + 127) y) 128 (omega arith) (omega arith)
          ∙ rw (m.is, one_mark x b h k));
    }
  where
    u : ℕ
    u = bit_xor (word_of l) v

    y : ℕ
    y = bit_xor x b

    a : ℕ
    a = bit_and y 127

    short : bit_or (a + 127) y < 256
    short = or_lt 8 (a + 127) y (omega (arith, and_le_r y 127)) (xor_lt 8 x b h k)

    high : bit_or (bit_and (bit_xor (word_of l * 256 + x) (v * 256 + b)) (low * 256 + 127) + (low * 256 + 127)) (bit_xor (word_of l * 256 + x) (v * 256 + b))
        ≡ bit_or (bit_and u low + low) u * 256 + bit_or (a + 127) y
    high =
        let e : bit_and u low * 256 + a + (low * 256 + 127) ≡ (bit_and u low + low) * 256 + (a + 127) = omega arith in
        rw (xor_block 8 (word_of l) v x b h k, and_block 8 u low y 127 (xor_lt 8 x b h k) (omega arith), e)
        (or_block 8 (bit_and u low + low) u (a + 127) y (omega (arith, and_le_r y 127)) (xor_lt 8 x b h k))

    less : full * 256 + 255 - (bit_or (bit_and u low + low) u * 256 + bit_or (a + 127) y) ≡ (full - bit_or (bit_and u low + low) u) * 256 + (255 - bit_or (a + 127) y)
    less = omega (arith, m.below, short)

-- a word whose bytes are each x
each : ℕ → ℕ → ℕ
each x zero = 0
each x (suc n) = each x n * 256 + x

mark_all : (b : ℕ) (l : List ℕ) → b < 256 → Bytes l → Marked b l (each b (length l)) (each 127 (length l)) (each 255 (length l)) (each 128 (length l))
unfolding each
mark_all b [] h f = mark_none b
mark_all b (x ∷ l) h f = mark_more (f 0) h (mark_all b l h (λ k. f (suc k)))

pub low_fits : (w : ℕ) → bit_and w 9187201950435737471 + 9187201950435737471 < 2 ^ 64
low_fits w = omega (arith, and_le_r w 9187201950435737471)

pub marks_made : (l : List ℕ) (b : ℕ) {w v : ℕ} → length l ≡ 8 → Bytes l → b < 256 → w ≡ from_le_bytes w64 l → v ≡ b
    → bit_and (18446744073709551615 - bit_or (bit_and (bit_xor w (v * 72340172838076673)) 9187201950435737471 + 9187201950435737471) (bit_xor w (v * 72340172838076673))) 9259542123273814144
    ≡ marks_of b l
unfolding each
marks_made l b n h f e u =
    let z : b * 72340172838076673 ≡ each b 8 = omega arith in
    let m = rw n at (mark_all b l f h) in
    rw (u, z, e, word_is l n) m.is

-- ---- the lowest mark

-- in a byte that is b it is the eighth bit, and else it stands past the byte
pub zeros_byte : (b : ℕ) (l : List ℕ) → count_trailing_zeros (8 * length l) (marks_of b l) / 8 ≡ quiet_length b b l
unfolding marks_of count_trailing_zeros
zeros_byte b [] = rw quiet_none_left
zeros_byte b (x ∷ l) = by (ℕ_discrete x b) (zeros_byte b l)
  where
    e : 8 * suc (length l) ≡ 8 + 8 * length l
    e = omega arith

    by : Dec (x ≡ b) → count_trailing_zeros (8 * length l) (marks_of b l) / 8 ≡ quiet_length b b l
        → count_trailing_zeros (8 * suc (length l)) (marks_of b l * 256 + pick (eqb x b) 128 0) / 8 ≡ quiet_length b b (x ∷ l)
    by (yes q) r =
        let f : 8 + 8 * length l ≡ 7 + suc (8 * length l) = omega arith in
        let g : marks_of b l * 256 + 128 ≡ (marks_of b l * 2 + 1) * 2 ^ 7 = omega arith in
        rw (e, f, quiet_cons, eq-eqb x b q, g, zeros_more 7 (suc (8 * length l)) (marks_of b l * 2 + 1), zeros_odd)
    by (no n) r =
        let g : marks_of b l * 256 + 0 ≡ marks_of b l * 2 ^ 8 = omega arith in
        rw (e, quiet_cons, ne_eqb x b n, g, zeros_more 8 (8 * length l) (marks_of b l)) (omega arith)

pub zeros_fit : (m : ℕ) → count_trailing_zeros 64 m / 8 < 2 ^ 64
zeros_fit m = omega (arith, trailing_le 64 m)

pub ruleset laws = (low_fits, zeros_fit)
