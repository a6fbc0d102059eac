-- Printing the shortest decimal: one walk finds how many digits there are and the power of the first, and they are written from the first to the last. Assumes nothing.
use Prim.Native.Nat.{ℕ, suc, ◌+◌, ◌-◌, ◌*◌, ◌/◌, ◌%◌, ◌^◌, ◌≤◌, ◌<◌, zero-le}
use mathlib.Core.Path.{◌≡◌, refl, sym, ap, ◌∙◌}
use mathlib.Core.List.{List, ◌∷◌}
use native.Mathlib.Omega.{arith}
use native.Mathlib.Nat.{pow-suc, pow-le-pow_right, mul_assoc, mul-le-mul_left, mod-lt, div-add-mod', div-lt_iff_lt-mul}
use native.Mathlib.Numerals.{add-one}
use mir.Syntax.{w64}
use mir.Val.{Fits}
use lib.ListN.{length, set, length-set}
use lib.Seq.{sets}
use lib.Dec.{lit<}
use Rattle.std.specs.Prelude.{Ok, Err}
use Rattle.text.specs.Over.{over, Writes}
use Rattle.text.specs.declared.copy.NoRoom.{NoRoom}
use Rattle.text.proofs.Lists.{sets_over}
use Rattle.text.proofs.CopyLaws.{copy_short, copy_done}
use Rattle.decimal.specs.Shortest.{shortest}
use Rattle.decimal.specs.Inner.{Sizes}
use Rattle.decimal.specs.declared.print.Size.{Size}
use Rattle.decimal.proofs.Shortest.{length_one, length_more, length_some, below_power, last_digits, first_digit, shortest_last}

-- ---- how many digits, and the power of the first

-- k digits are passed, power is what the last of them counts, and m is left
pub record Sizing (n k power m : ℕ) : Type 0 where
  pub few : k + m ≤ n + 1
  pub same : k + length (shortest m) ≡ length (shortest n) + 1
  pub tens : power * 10 ≡ 10 ^ k
  pub under : power * m ≤ n

pub size_first : {n : ℕ} → Sizing n 1 1 n
size_first = record { few = omega arith; same = omega arith; tens = refl; under = omega arith }

module _ {n k power m : ℕ} (g : Sizing n k power m) where
  tenth : power * 10 * (m / 10) ≤ n
  tenth =
      let h : 10 * (m / 10) ≤ m = omega arith in
      let a = mul_assoc power 10 (m / 10) in
      let b = mul-le-mul_left power h in
      let u = g.under in
      omega arith

  pub size_fits : 10 ≤ m → n < 2 ^ 64 → Fits w64 (power * 10)
  size_fits h l = let b = mul-le-mul_left power h in let u = g.under in omega arith

  pub size_turn : 10 ≤ m → Sizing n (k + 1) (power * 10) (m / 10)
  size_turn h =
      let e = length_more m h in
      record {
        few = omega arith;
        same = omega arith;
        tens = rw (add-one, pow-suc, ← g.tens);
        under = tenth;
      }

  pub size_past : m < 10 → Sizes n (record { len = k; power = power })
  size_past h = let e = length_one m h in record { count = omega arith; power = g.tens }

-- ---- the digits, from the first to the last

-- one digit of the rest and k more are still to be written over l, from i on
pub record Putting (n power rest i : ℕ) (l₀ l : List ℕ) : Type 0 where
  pub more : ℕ
  pub is : power ≡ 10 ^ more
  pub below : rest < 10 ^ suc more
  pub len : length l ≡ length l₀
  pub whole : i + suc more ≡ length (shortest n)
  pub fits : length (shortest n) ≤ length l₀
  pub same : sets l i (last_digits (suc more) rest) ≡ sets l₀ 0 (shortest n)

power_some : (k : ℕ) → 1 ≤ 10 ^ k
power_some k = pow-le-pow_right (lit< tt) {i = 0} zero-le

pub put_some : {n : ℕ} {s : Size} → Sizes n s → 1 ≤ s.len
put_some {n} z = let o = length_some n in let c = z.count in omega arith

pub put_first : {n : ℕ} {s : Size} {l : List ℕ} → Sizes n s → s.len ≤ length l → Putting n s.power n 0 l l
put_first {n} {s} {l} z h =
    let e : length (shortest n) ≡ suc (length (shortest n) - 1) = let o = length_some n in omega arith in
    let t = rw (z.count, e, pow-suc) at z.power in
    record {
      more = length (shortest n) - 1;
      is = omega arith;
      below = rw (← e) (below_power n);
      len = refl;
      whole = omega arith;
      fits = let c = z.count in omega arith;
      same = ap (sets l 0) (sym (shortest_last n ∙ ap (λ (k : ℕ). last_digits k n) e));
    }

module _ {n power rest i : ℕ} {l₀ l : List ℕ} (g : Putting n power rest i l₀ l) where
  pub put_within : {s : Size} → Sizes n s → i < s.len → i < length l
  put_within z h = let c = z.count in let w = g.fits in let e = g.len in omega arith

  pub put_power : 0 < power
  put_power = let e = g.is in let o = power_some g.more in omega arith

  pub put_digit : rest / power ≤ 9
  put_digit =
      let p = put_power in
      let b = rw (pow-suc, ← g.is) at g.below in
      let d = (div-lt_iff_lt-mul {k = power} {x = rest} {y = 10} p).1 (omega arith) in
      omega arith

  module _ {s : Size} (z : Sizes n s) where
    pub put_turn : {d : ℕ} → i < s.len - 1 → d ≡ 48 + rest / power → Putting n (power / 10) (rest % power) (i + 1) l₀ (set l i d)
    put_turn {d} h e =
        let c = z.count in
        let w = g.whole in
        let q : g.more ≡ suc (g.more - 1) = omega arith in
        let j = g.more - 1 in
        let x : power ≡ 10 ^ suc j = g.is ∙ ap (λ (k : ℕ). 10 ^ k) q in
        let y = rw pow-suc at x in
        let p = put_power in
        let f = first_digit (suc j) (rest / power) (rest % power) (let b = put_digit in omega arith) (rw (← x) (mod-lt rest p)) in
        let v : last_digits (suc (suc j)) rest ≡ (48 + rest / power) ∷ last_digits (suc j) (rest % power) = rw (← x, div-add-mod' rest power) at f in
        record {
          more = j;
          is = omega arith;
          below = rw (← x) (mod-lt rest p);
          len = simp length-set g.len;
          whole = omega arith;
          fits = g.fits;
          same = rw (e, add-one) (rw (q, v) at g.same);
        }

    module _ (h : s.len - 1 ≤ i) (k : i ≤ s.len - 1) where
      lasts : g.more ≡ 0
      lasts = let c = z.count in let w = g.whole in omega arith

      pub put_small : rest ≤ 9
      put_small = let b = rw lasts at g.below in omega arith

      pub put_last : {d : ℕ} → d ≡ 48 + rest → set l (s.len - 1) d ≡ over (shortest n) l₀
      unfolding last_digits
      put_last e =
          let m : rest % 10 ≡ rest = let b = put_small in omega arith in
          let j : s.len - 1 ≡ i = omega arith in
          rw (e, j) ((rw (lasts, m) at g.same) ∙ sets_over (shortest n) l₀ g.fits)

-- ---- where there is room, and where not

module _ {n : ℕ} {s : Size} (z : Sizes n s) {l : List ℕ} where
  pub print_short : {no : NoRoom} → length l < s.len → Writes (shortest n) l (Err no) l
  print_short h = copy_short (let c = z.count in omega arith)

  pub print_done : {l' : List ℕ} → s.len ≤ length l → l' ≡ over (shortest n) l → Writes (shortest n) l (Ok s.len) l'
  print_done h e = copy_done (let c = z.count in omega arith) z.count e

pub ruleset laws = (size_first, size_fits, size_turn, size_past, put_some, put_first, put_within, put_power, put_digit, put_turn, put_small, put_last, print_short, print_done)
