-- Flags gathered by `|` over a block of bytes: none is set exactly where each byte passed is as asked. Assumes nothing.
use Prim.Native.Nat.{ℕ, ◌+◌, ◌<◌, ◌≤◌}
use mathlib.Core.Path.{◌≡◌, refl}
use mathlib.Core.Bool.{Bool, true, false}
use mathlib.Core.List.{List}
use native.Mathlib.Omega.{arith}
use native.Mathlib.Decide.{ℕ_discrete, dec_le}
use lib.ListN.{length, get_or}
use lib.Dec.{eqb, ltb}
use lib.Bits.{bit_or, or_add_and, and_le_r, and_le_l, or_lt}
use borrow.Author.Tests.{eqb-true, eqb-false, ltb-true, ltb-false}
use Rattle.text.specs.Flags.{OneIf, Neither, Plain, Each, TellsOf}

-- ---- `|` of numbers

pub or_left : (a b : ℕ) → a ≤ bit_or a b
or_left a b = omega (arith, or_add_and a b, and_le_r a b)

pub or_right : (a b : ℕ) → b ≤ bit_or a b
or_right a b = omega (arith, or_add_and a b, and_le_l a b)

pub or_none : (a b : ℕ) → a ≡ 0 → b ≡ 0 → bit_or a b ≡ 0
or_none a b p q = omega (arith, or_add_and a b)

-- ---- one byte

pub one_same : {b c : ℕ} → b ≡ c → OneIf b c 1
one_same e = record { same = λ e. refl; other = λ n. absurd (n e) }

pub one_other : {b c : ℕ} → (b ≡ c → ⊥) → OneIf b c 0
one_other n = record { same = λ e. absurd (n e); other = λ n. refl }

pub one_none : {b c r : ℕ} → OneIf b c r → r ≡ 0 → b ≡ c → ⊥
one_none o z e = omega (arith, o.same e)

-- ---- the bytes passed

-- of the n bytes from `at` on the first i are as asked exactly where the flags h are at most `most`
pub record GatheredOf (n : ℕ) (P : List ℕ → ℕ → Type 0) (s : List ℕ) (at i most h : ℕ) : Type 0 where
  pub short : i ≤ n
  pub fits : at + n ≤ length s
  pub all : h ≤ most → Each P s at (at + i)
  pub none : Each P s at (at + i) → h ≤ most

-- of 64 bytes
abbrev pub Gathered : (List ℕ → ℕ → Type 0) → List ℕ → ℕ → ℕ → ℕ → ℕ → Type 0
Gathered P s at i most h = GatheredOf 64 P s at i most h

pub each_over : (P : List ℕ → ℕ → Type 0) (s : List ℕ) {a b c : ℕ} → Each P s a b → Each P s b c → Each P s a c
each_over P s {a} {b} f g k h l = elim (dec_le b k) [ yes m ↦ g k m l | no m ↦ f k h (omega arith) ]

each_more : (P : List ℕ → ℕ → Type 0) (s : List ℕ) (at i : ℕ) → Each P s at (at + i) → P s (at + i) → Each P s at (at + (i + 1))
each_more P s at i f p k h l = by (ℕ_discrete k (at + i))
  where
    by : Dec (k ≡ at + i) → P s k
    by (yes e) = rw e p
    by (no n) = f k h (omega arith)

-- none before the first
pub start_flags : {P : List ℕ → ℕ → Type 0} {s : List ℕ} {n at most : ℕ} → at + n ≤ length s → GatheredOf n P s at 0 most 0
start_flags f = record { short = omega arith; fits = f; all = λ z k h l. absurd (omega arith); none = λ z. omega arith }

module _ {P : List ℕ → ℕ → Type 0} {s : List ℕ} {n at i most h : ℕ} (g : GatheredOf n P s at i most h) where
  pub more_flags : {r : ℕ} → i < n → (r ≤ most → (h ≤ most) × P s (at + i)) → (h ≤ most → P s (at + i) → r ≤ most) → GatheredOf n P s at (i + 1) most r
  more_flags l f b =
      record {
        short = omega arith;
        fits = g.fits;
        all = λ z. each_more P s at i (g.all (f z).0) (f z).1;
        none = λ e. b (g.none (λ k p q. e k p (omega arith))) (e (at + i) (omega arith) (omega arith));
      }

  past_flags : n ≤ i → (r : Bool) → (r ≡ true → h ≤ most) → (r ≡ false → most < h) → TellsOf n P s at r
  past_flags l r f m =
      let w = g.short in
      let z : i ≡ n = omega arith in
      record {
        yes = λ e. rw z at (g.all (f e));
        no = λ e a. absurd (omega (arith, m e, g.none (rw z a)));
      }

pub zero_past : {P : List ℕ → ℕ → Type 0} {s : List ℕ} {n at i h : ℕ} → GatheredOf n P s at i 0 h → n ≤ i → TellsOf n P s at (eqb h 0)
zero_past {h = h} g l = past_flags g l (eqb h 0) (λ e. omega (arith, eqb-true h 0 e)) (λ e. (let n = eqb-false h 0 e in omega arith))

-- ---- neither of two bytes

pub neither_turn : {a b : ℕ} {s : List ℕ} {n at i h p q : ℕ} → GatheredOf n (Neither a b) s at i 0 h → i < n → OneIf (get_or s (at + i) 0) a p → OneIf (get_or s (at + i) 0) b q
    → GatheredOf n (Neither a b) s at (i + 1) 0 (bit_or (bit_or h p) q)
neither_turn {h = h} {p = p} {q = q} g l o u =
    let a = or_left (bit_or h p) q in
    let b = or_right (bit_or h p) q in
    let c = or_left h p in
    let d = or_right h p in
    more_flags g l (λ z. (omega arith, record { no_first = one_none o (omega arith); no_second = one_none u (omega arith) }))
    (λ z y. (let e : bit_or h p ≡ 0 = or_none h p (omega arith) (o.other y.no_first) in let f = or_none (bit_or h p) q e (u.other y.no_second) in omega arith))

-- ---- bytes below 80 hex

pub plain_turn : {s : List ℕ} {n at i h : ℕ} → GatheredOf n Plain s at i 127 h → i < n → GatheredOf n Plain s at (i + 1) 127 (bit_or h (get_or s (at + i) 0))
plain_turn {s = s} {at = at} {i = i} {h = h} g l =
    let a = or_left h (get_or s (at + i) 0) in
    let b = or_right h (get_or s (at + i) 0) in
    more_flags g l (λ z. (omega arith, record { small = omega arith })) (λ z y. (let w = or_lt 7 h (get_or s (at + i) 0) (omega arith) y.small in omega arith))

pub plain_past : {s : List ℕ} {n at i h : ℕ} → GatheredOf n Plain s at i 127 h → n ≤ i → TellsOf n Plain s at (ltb h 128)
plain_past {h = h} g l = past_flags g l (ltb h 128) (λ e. omega (arith, ltb-true h 128 e)) (λ e. omega (arith, ltb-false h 128 e))

pub ruleset laws = (one_same, one_other, start_flags, neither_turn, plain_turn, zero_past, plain_past)
