-- The flags of a block of 64 bytes, and blocks one behind the other: none is set exactly where each byte is as asked. Assumes nothing.
use Prim.Native.Nat.{ℕ, ◌+◌, ◌-◌, ◌<◌, ◌≤◌}
use mathlib.Core.Path.{◌≡◌, refl}
use mathlib.Core.Bool.{Bool, true}
use mathlib.Core.List.{List}
use native.Mathlib.Omega.{arith}
use native.Mathlib.Decide.{ℕ_discrete}
use lib.ListN.{length, get_or}
use lib.Bits.{bit_or, or_lt}
use Rattle.std.proofs.lemmas.Nat.{pow_pos}
use lib.Dec.{eqb, ltb}
use borrow.Author.Tests.{eqb-true, eqb-false, ltb-true, ltb-false}
use Rattle.text.specs.Flags.{Plain, Tells}
use Rattle.text.proofs.FlagLaws.{each_over, or_left, or_right}
use Rattle.line.specs.Scan.{FlagsOf, Gathers, Runs, InBlock, Passes}

-- ---- the flags of a block

module _ {T : ℕ → ℕ → Type 0} {at : ℕ} where
  pub gather_first : Gathers T at (at + 0) 0
  gather_first = record { each = λ k p q. absurd (omega arith); few = λ j f. pow_pos j }

  pub gather_turn : (i : ℕ) {h r : ℕ} → Gathers T at (at + i) h → T (at + i) r → Gathers T at (at + (i + 1)) (bit_or h r)
  gather_turn i {h} {r} g t =
      record {
        each = λ k p q. by k p q (ℕ_discrete k (at + i));
        few = λ j f. or_lt j h r (g.few j (λ k x p q. f k x p (omega arith))) (f (at + i) r (omega arith) (omega arith) t);
      }
    where
      by : (k : ℕ) → at ≤ k → k < at + (i + 1) → Dec (k ≡ at + i) → (x : ℕ) × (T k x × (x ≤ bit_or h r))
      by k p q (yes e) = rw e (r, (t, or_right h r))
      by k p q (no n) = let x = g.each k p (omega arith) in (x.0, (x.1.0, (let l = or_left h r in let m = x.1.1 in omega arith)))

  module _ {h : ℕ} (g : Gathers T at (at + 64) h) where
    pub flags_told : {P : List ℕ → ℕ → Type 0} {s : List ℕ} → ((k r : ℕ) → T k r → FlagsOf P s k r) → Tells P s at (eqb h 0)
    flags_told f =
        record {
          yes = λ e k p q. (let x = g.each k p q in let z = eqb-true h 0 e in let l = x.1.1 in (f k x.0 x.1.0).yes (omega arith));
          no = λ e a. (let n = eqb-false h 0 e in let l = g.few 0 (λ k r p q t. (let z = (f k r t).no (a k p q) in omega arith)) in n (omega arith));
        }

    pub plain_told : {s : List ℕ} → ((k r : ℕ) → T k r → r ≡ get_or s k 0) → Tells Plain s at (ltb h 128)
    plain_told f =
        record {
          yes = λ e k p q. (let x = g.each k p q in let z = ltb-true h 128 e in let l = x.1.1 in let y = f k x.0 x.1.0 in record { small = omega arith });
          no = λ e a. (let n = ltb-false h 128 e in let l = g.few 7 (λ k r p q t. (let z = f k r t in let y = (a k p q).small in omega arith)) in absurd (omega arith));
        }

-- ---- runs of blocks

pub run_turn : {T : ℕ → Bool → Type 0} {s : List ℕ} {at i : ℕ} {r : Bool} → Passes T s at i → 64 ≤ length s - i → T i r → r ≡ true → Passes T s at (i + 64)
run_turn {T} {s} {at} {i} g l t e =
    let w = g.after in
    let v = g.within in
    record {
      after = omega arith;
      within = omega arith;
      each = each_over (λ s k. InBlock T k) s g.each (λ k p q. record { block = i; after = p; before = q; passes = rw e at t });
    }

pub run_told : {T : ℕ → Bool → Type 0} {P : List ℕ → ℕ → Type 0} {s : List ℕ} {at end : ℕ} → Passes T s at end → ((i : ℕ) → T i true → Tells P s i true) → Runs P s at end
run_told g f =
    record {
      after = g.after;
      within = g.within;
      each = λ k p q. (let b = g.each k p q in (f b.block b.passes).yes refl k b.after b.before);
    }
