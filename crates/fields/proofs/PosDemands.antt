-- The bytes that begin a decimal are those that begin a POS text: a decimal worth 0 has only to go on with a `1`. So the decimal's
-- first fault is that of POS, and for a text worth 0 it is its end. Assumes nothing.
use Prim.Native.Nat.{ℕ, zero, suc, ◌<◌}
use mathlib.Core.Path.{◌≡◌, refl, sym, ap, ◌∙◌}
use mathlib.Core.Bool.{Bool, true, false, and-eq-true_iff}
use mathlib.Core.List.{List, [], ◌∷◌, ◌++◌, append_assoc, append-nil}
use mathlib.Core.Option.{Option, some, none}
use native.Mathlib.Omega.{arith}
use native.Mathlib.Nat.{le_refl}
use lib.ListN.{length, length-append}
use lib.Seq.{take-length}
use Rattle.text.specs.Answer.{Answer, says}
use Rattle.text.specs.Same.{same}
use Rattle.text.proofs.SameLaws.{same_is, same_other}
use Rattle.decimal.specs.Decimal.{is_digit, all_digits, value_of, fault_of}
use Rattle.decimal.specs.Demands.{Digits, Decimal, bare, signed, Readable, Begun, FaultAt, FirstFault}
use Rattle.decimal.proofs.Digits.{digit_yes, digits_snoc, worth_snoc}
use Rattle.decimal.proofs.Value.{value_decimal, decimal_value}
use Rattle.decimal.proofs.FirstFault.{decimal_fault}
use Rattle.decimal.proofs.Blame.{fault_one}
use Rattle.fields.specs.Pos.{pos_answer}
use Rattle.fields.specs.Demands.{Positioned, nowhere, somewhere, MeetsPos, OnePos}
use Rattle.fields.proofs.PosLaws.{digit_value, zero_value, pos_zero, pos_some, pos_bad, pos_naught}

-- ---- what begins a POS text

digits_one : {s : List ℕ} → Digits s 0 → Digits (s ++ 49 ∷ []) 1
digits_one {s} g =
    record {
      one = simp length-append (omega arith);
      digits = rw (digits_snoc s 49) ((and-eq-true_iff (all_digits s) (is_digit 49)).1 (g.digits, digit_yes 49 (omega arith) (omega arith)));
      value = rw (worth_snoc s 49, g.value);
    }

decimal_one : {t : List ℕ} → Decimal t 0 → Decimal (t ++ 49 ∷ []) 1
decimal_one (bare g h) = bare (digits_one g) (omega arith)
decimal_one (signed g h) = signed (digits_one g) (omega arith)

decimal_begun : (t : List ℕ) (n : ℕ) → Decimal t n → Begun Positioned t
decimal_begun t zero d = record { rest = 49 ∷ []; read = somewhere (decimal_one d) (omega arith) }
decimal_begun t (suc n) d = record { rest = []; read = rw append-nil (somewhere d (omega arith)) }

begun_pos : (t : List ℕ) → Begun (Readable Decimal) t → Begun Positioned t
begun_pos t g =
    let b = decimal_begun (t ++ g.rest) g.read.value g.read.is in
    record { rest = g.rest ++ b.rest; read = rw append_assoc at b.read }

-- and none other does
pos_decimal : {t : List ℕ} → Positioned t → Readable Decimal t
pos_decimal nowhere = record { value = 0; is = value_decimal (48 ∷ []) 0 zero_value }
pos_decimal (somewhere {n = n} d h) = record { value = n; is = d }

begun_decimal : (t : List ℕ) → Begun Positioned t → Begun (Readable Decimal) t
begun_decimal t g = record { rest = g.rest; read = pos_decimal g.read }

-- ---- the place of the first fault

-- for every text, where the decimal has it
pub pos_fault : (t : List ℕ) → FaultAt Positioned t (fault_of t)
pos_fault t =
    let f = decimal_fault t in
    record { within = f.within; before = begun_pos _ f.before; there = λ h g. f.there h (begun_decimal _ g) }

-- that of a decimal is its end
decimal_end : (t : List ℕ) (n : ℕ) → Decimal t n → length t ≡ fault_of t
decimal_end t n d =
    fault_one {can = Positioned}
    (record { within = le_refl _; before = rw take-length (decimal_begun t n d); there = λ h. absurd (omega arith) }) (pos_fault t)

-- ---- each answer, with what the text then is

data Told (t : List ℕ) : Answer → Type 0 where
  none_told : t ≡ 48 ∷ [] → Told t (says 0 [])
  value_told : {n : ℕ} → Decimal t n → 0 < n → Told t (says 0 (n ∷ []))
  fault_told : (Positioned t → ⊥) → Told t (says 21 (fault_of t ∷ []))

-- a text worth 0 can be POS only if it is `0`
naught_not : {t : List ℕ} → value_of t ≡ some 0 → (t ≡ 48 ∷ [] → ⊥) → Positioned t → ⊥
naught_not e h nowhere = h refl
naught_not {t} e h (somewhere {n = n} d l) = let z : n ≡ 0 = cc (decimal_value t d) in omega arith

none_not : {t : List ℕ} → value_of t ≡ none → Positioned t → ⊥
none_not {t} e p = let g = pos_decimal p in let z : ◌≡◌ {A = ℕ} 0 1 = cc (decimal_value t g.is) in omega arith

told : (t : List ℕ) → Told t (pos_answer t)
told t = by (same t (48 ∷ [])) refl (value_of t) refl
  where
    by : (b : Bool) → same t (48 ∷ []) ≡ b → (o : Option ℕ) → value_of t ≡ o → Told t (pos_answer t)
    by true q o e = let z = same_is t (48 ∷ []) q in rw (ap pos_answer z ∙ pos_zero) (none_told z)
    by false q none e = rw (pos_bad t e) (fault_told (none_not e))
    by false q (some zero) e =
        let h = same_other t (48 ∷ []) q in
        rw (pos_naught t e h, decimal_end t 0 (value_decimal t 0 e)) (fault_told (naught_not e h))
    by false q (some (suc n)) e = rw (pos_some t (suc n) e (omega arith)) (value_told (value_decimal t (suc n) e) (omega arith))

module _ {t : List ℕ} where
  is_none : {a : Answer} → Told t a → a ≡ says 0 [] → t ≡ 48 ∷ []
  is_none (none_told z) e = z
  is_none (value_told d h) e = cc
  is_none (fault_told p) e = cc

  is_value : {a : Answer} {n : ℕ} → Told t a → a ≡ says 0 (n ∷ []) → Decimal t n × (0 < n)
  is_value (none_told z) e = let w : ◌≡◌ {A = ℕ} 0 1 = cc in absurd (omega arith)
  is_value {n = n} (value_told {n = m} d h) e = let w : m ≡ n = cc in (rw w at d, omega arith)
  is_value (fault_told p) e = let w : ◌≡◌ {A = ℕ} 0 1 = cc in absurd (omega arith)

  is_fault : {a : Answer} {k : ℕ} → Told t a → a ≡ says 21 (k ∷ []) → (Positioned t → ⊥) × FaultAt Positioned t k
  is_fault (none_told z) e = let w : ◌≡◌ {A = ℕ} 0 1 = cc in absurd (omega arith)
  is_fault (value_told d h) e = let w : ◌≡◌ {A = ℕ} 0 1 = cc in absurd (omega arith)
  is_fault {k = k} (fault_told p) e = let w : fault_of t ≡ k = cc in (p, rw w at (pos_fault t))

  fault_is : {a : Answer} {k : ℕ} → Told t a → (Positioned t → ⊥) → FaultAt Positioned t k → a ≡ says 21 (k ∷ [])
  fault_is (none_told z) p f = absurd (p (rw z nowhere))
  fault_is (value_told d h) p f = absurd (p (somewhere d h))
  fault_is (fault_told q) p f = rw (fault_one (pos_fault t) f)

-- ---- what is asked of a reader of POS is met, and leaves one

pub meets_pos : MeetsPos pos_answer
meets_pos =
    record {
      none = λ t. (is_none (told t), λ z. ap pos_answer z ∙ pos_zero);
      values = λ t n. (is_value (told t), λ g. pos_some t n (decimal_value t g.0) g.1);
      faults = λ t k. (is_fault (told t), λ g. fault_is (told t) g.0 g.1);
    }

pub one_pos : OnePos
unfolding OnePos
one_pos read other p q t = by (told t)
  where
    by : {a : Answer} → Told t a → read t ≡ other t
    by (none_told z) = (p.none t).1 z ∙ sym ((q.none t).1 z)
    by (value_told {n} d h) = (p.values t n).1 (d, h) ∙ sym ((q.values t n).1 (d, h))
    by (fault_told g) = let f = pos_fault t in (p.faults t (fault_of t)).1 (g, f) ∙ sym ((q.faults t (fault_of t)).1 (g, f))

-- ---- a reader that it refuses

-- one that blames the first byte of `1a`: a `1` begins a position
pub blames_start : (read : List ℕ → Answer) → read (49 ∷ 97 ∷ []) ≡ says 21 (0 ∷ []) → FirstFault Positioned 21 read → ⊥
blames_start read e claim =
    ((claim (49 ∷ 97 ∷ []) 0).0 e).1.there (omega arith) (decimal_begun (49 ∷ []) 1 (value_decimal (49 ∷ []) 1 (digit_value 1 (omega arith))))
