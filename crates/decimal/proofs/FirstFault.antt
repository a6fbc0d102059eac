-- The place that the rule of three cases gives is that of the first fault: digits before it that are not too much go on with
-- nothing or a zero, and a byte at which the rule stops is in every text that begins so. Assumes nothing.
use Prim.Native.Nat.{ℕ, zero, suc, ◌+◌, ◌≤◌, ◌<◌}
use mathlib.Core.Path.{◌≡◌, refl, sym, ◌∙◌}
use mathlib.Core.Bool.{Bool, true, false, not, ◌||◌, and-eq-true_iff, false≢true}
use mathlib.Core.List.{List, [], ◌∷◌, ◌++◌, append_assoc, append-nil}
use native.Mathlib.Omega.{arith}
use native.Mathlib.Decide.{ℕ_discrete}
use native.Mathlib.Nat.{le_refl}
use native.Mathlib.Numerals.{add-one}
use lib.ListN.{length, get_or, take}
use lib.Seq.{length-take-le, take-suc}
use lib.Dec.{ltb}
use borrow.Author.Tests.{ltb-true, ltb-false, eq-eqb, ne_eqb}
use Rattle.text.specs.Pick.{pick}
use Rattle.text.proofs.Lists.{by_snoc}
use Rattle.decimal.specs.Decimal.{is_digit, all_digits, worth, digits_value, value_of, stops_at, first_place, digits_fault, fault_of, digits_answer, decimal_answer}
use Rattle.decimal.specs.Demands.{Alone, Decimal, bare, signed, ReadsDecimals, Readable, Begun, FaultAt, Meets, OneReader}
use Rattle.decimal.proofs.Digits.{digit_range, digits_cons, digits_snoc, worth_snoc}
use Rattle.decimal.proofs.Value.{digits_are}
use Rattle.decimal.proofs.Demands.{reads_decimals, reads_alone}
use Rattle.decimal.proofs.FaultLaws.{fault_within}
use Rattle.decimal.proofs.Blame.{value_meets, meets_one}

-- ---- the first place

-- a test holds at the place found, and at none before it
record FirstAt (test : ℕ → Bool) (i end k : ℕ) : Type 0 where
  there : k < end → test k ≡ true
  before : (j : ℕ) → i ≤ j → j < k → test j ≡ false

first_at : (test : ℕ → Bool) (i n : ℕ) → FirstAt test i (i + n) (first_place test i n)
unfolding first_place
first_at test i zero = record { there = λ h. absurd (omega arith); before = λ j p q. absurd (omega arith) }
first_at test i (suc n) = by (test i) refl (first_at test (i + 1) n)
  where
    by : (t : Bool) → test i ≡ t → FirstAt test (i + 1) (i + 1 + n) (first_place test (i + 1) n) → FirstAt test i (i + suc n) (pick t i (first_place test (i + 1) n))
    by true e g = record { there = λ h. e; before = λ j p q. absurd (omega arith) }
    by false e g =
        record {
          there = λ h. g.there (omega arith);
          before = λ j p q. elim (ℕ_discrete j i) [ yes z ↦ rw z e | no z ↦ g.before j (omega arith) q ];
        }

fault_first : (s : List ℕ) → FirstAt (stops_at s) 0 (length s) (digits_fault s)
unfolding digits_fault
fault_first s = let z : 0 + length s ≡ length s = omega arith in rw z at (first_at (stops_at s) 0 (length s))

-- ---- where the rule does not stop, and where it does

-- a digit, with which the digits are not too much
record Good (s : List ℕ) (j : ℕ) : Type 0 where
  digit : is_digit (get_or s j 0) ≡ true
  small : worth (take (j + 1) s) ≤ 18446744073709551615

stops_good : (s : List ℕ) (j : ℕ) → stops_at s j ≡ false → Good s j
unfolding stops_at
stops_good s j e = by (is_digit (get_or s j 0)) (ltb 18446744073709551615 (worth (take (j + 1) s))) refl refl e
  where
    by : (x y : Bool) → is_digit (get_or s j 0) ≡ x → ltb 18446744073709551615 (worth (take (j + 1) s)) ≡ y → (not x || y) ≡ false → Good s j
    by true true d w e = absurd (false≢true (sym e))
    by true false d w e = record { digit = d; small = ltb-false _ _ w }
    by false y d w e = absurd (false≢true (sym e))

good_not : (s : List ℕ) (j : ℕ) → stops_at s j ≡ true → Good s j → ⊥
unfolding stops_at
good_not s j e g = by (ltb 18446744073709551615 (worth (take (j + 1) s))) refl (rw g.digit at e)
  where
    by : (y : Bool) → ltb 18446744073709551615 (worth (take (j + 1) s)) ≡ y → y ≡ true → ⊥
    by true w e = let l = ltb-true 18446744073709551615 (worth (take (j + 1) s)) w in let m = g.small in omega arith
    by false w e = false≢true e

-- ---- a front of digits

digits_front : (t u : List ℕ) → all_digits (t ++ u) ≡ true → all_digits t ≡ true
unfolding all_digits
digits_front [] u e = refl
digits_front (b ∷ t) u e =
    let g = (and-eq-true_iff (is_digit b) (all_digits (t ++ u))).0 e in
    (and-eq-true_iff (is_digit b) (all_digits t)).1 (g.0, digits_front t u g.1)

worth_front : (t u : List ℕ) → worth t ≤ worth (t ++ u)
worth_front t =
    by_snoc (λ (u : List ℕ). worth t ≤ worth (t ++ u)) (rw append-nil (le_refl _))
    (λ u d h. rw (← append_assoc t u (d ∷ []), worth_snoc (t ++ u) d) (omega arith))

-- the digits before k, where the rule stops at none of them
record Front (s : List ℕ) (k : ℕ) : Type 0 where
  digits : all_digits (take k s) ≡ true
  small : worth (take k s) ≤ 18446744073709551615

front : (s : List ℕ) (k : ℕ) → k ≤ length s → ((j : ℕ) → j < k → stops_at s j ≡ false) → Front s k
unfolding all_digits worth
front s zero h n = record { digits = refl; small = omega arith }
front s (suc k) h n =
    let g = stops_good s k (n k (omega arith)) in
    let f = front s k (omega arith) (λ j l. n j (omega arith)) in
    let m = g.small in
    record {
      digits = rw (take-suc s k 0 h, digits_snoc) ((and-eq-true_iff (all_digits (take k s)) (is_digit (get_or s k 0))).1 (f.digits, g.digit));
      small = rw add-one at m;
    }

-- a text of digits that is not too much is good at each of its bytes
alone_good : (s : List ℕ) (k n : ℕ) (u : List ℕ) → k < length s → Alone (take (k + 1) s ++ u) n → Good s k
alone_good s k n u h g =
    let a = digits_front (take (k + 1) s) u g.0.digits in
    let w = worth_front (take (k + 1) s) u in
    let v = g.0.value in
    let l = g.1 in
    record {
      digit = ((and-eq-true_iff (all_digits (take k s)) (is_digit (get_or s k 0))).0 (sym (digits_snoc (take k s) (get_or s k 0)) ∙ (rw (add-one, take-suc s k 0 h) at a))).1;
      small = omega arith;
    }

-- ---- digits alone

zero_alone : Alone (48 ∷ []) 0
unfolding digits_value is_digit
zero_alone = digits_are (48 ∷ []) 0 refl

digits_begun : (s : List ℕ) (k : ℕ) → k ≤ length s → Front s k → Begun (Readable Alone) (take k s)
digits_begun s zero h f = record { rest = 48 ∷ []; read = record { value = 0; is = zero_alone } }
digits_begun s (suc k) h f =
    let l = length-take-le (suc k) s h in
    record {
      rest = [];
      read = rw append-nil (record { value = worth (take (suc k) s); is = (record { one = omega arith; digits = f.digits; value = refl }, f.small) });
    }

pub digits_fault_lem : (s : List ℕ) → FaultAt (Readable Alone) s (digits_fault s)
digits_fault_lem s =
    let g = fault_first s in
    let w = fault_within s in
    record {
      within = w;
      before = digits_begun s (digits_fault s) w (front s (digits_fault s) w (λ j l. g.before j (omega arith) l));
      there = λ h b. good_not s (digits_fault s) (g.there h) (alone_good s (digits_fault s) b.read.value b.rest h b.read.is);
    }

-- ---- with a sign

decimal_alone : {t : List ℕ} {n : ℕ} → Decimal t n → (b : ℕ) (s : List ℕ) → t ≡ b ∷ s → (b ≡ 43 → ⊥) → Alone t n
decimal_alone (bare g h) b s e n = (g, h)
decimal_alone (signed g h) b s e n = absurd (n cc)

sign_alone : {t : List ℕ} {n : ℕ} → Decimal t n → (s : List ℕ) → t ≡ 43 ∷ s → Alone s n
sign_alone (bare g h) s e =
    let r = digit_range 43 (digits_cons 43 s (rw e at g.digits)).0 in
    absurd (omega arith)
sign_alone (signed {s = u} g h) s e = let z : u ≡ s = cc in (rw z at g, h)

bare_begun : (t : List ℕ) → Begun (Readable Alone) t → Begun (Readable Decimal) t
bare_begun t g = let d = g.read.is in record { rest = g.rest; read = record { value = g.read.value; is = bare d.0 d.1 } }

begun_bare : (b : ℕ) (t : List ℕ) → (b ≡ 43 → ⊥) → Begun (Readable Decimal) (b ∷ t) → Begun (Readable Alone) (b ∷ t)
begun_bare b t n g = record { rest = g.rest; read = record { value = g.read.value; is = decimal_alone g.read.is b (t ++ g.rest) refl n } }

sign_begun : (t : List ℕ) → Begun (Readable Alone) t → Begun (Readable Decimal) (43 ∷ t)
sign_begun t g = let d = g.read.is in record { rest = g.rest; read = record { value = g.read.value; is = signed d.0 d.1 } }

begun_sign : (t : List ℕ) → Begun (Readable Decimal) (43 ∷ t) → Begun (Readable Alone) t
begun_sign t g = record { rest = g.rest; read = record { value = g.read.value; is = sign_alone g.read.is (t ++ g.rest) refl } }

pub decimal_fault : (t : List ℕ) → FaultAt (Readable Decimal) t (fault_of t)
unfolding fault_of digits_fault
decimal_fault [] = record { within = omega arith; before = bare_begun [] (digits_fault_lem []).before; there = λ h. absurd (omega arith) }
decimal_fault (b ∷ s) = by (ℕ_discrete b 43)
  where
    k : ℕ
    k = digits_fault s

    further : 1 + k ≡ suc k
    further = omega arith

    signs : FaultAt (Readable Decimal) (43 ∷ s) (1 + k)
    signs =
        let f = digits_fault_lem s in
        let z : suc k + 1 ≡ suc (k + 1) = omega arith in
        rw further
        (record {
          within = omega (arith, f.within);
          before = sign_begun (take k s) f.before;
          there = λ h g. f.there (omega arith) (begun_sign (take (k + 1) s) (rw z at g));
        })

    by : Dec (b ≡ 43) → FaultAt (Readable Decimal) (b ∷ s) (fault_of (b ∷ s))
    by (yes e) = rw (eq-eqb b 43 e) (rw e signs)
    by (no e) =
        let f = digits_fault_lem (b ∷ s) in
        let j : ℕ = digits_fault (b ∷ s) in
        rw (ne_eqb b 43 e)
        (record {
          within = f.within;
          before = bare_begun (take j (b ∷ s)) f.before;
          there = λ h g. f.there h (let z = add-one j in rw z (begun_bare b (take j s) e (rw z at g)));
        })

-- ---- what is then asked of a reader is met, and leaves one

pub meets : Meets Decimal decimal_answer
unfolding decimal_answer ReadsDecimals
meets = value_meets {reads = Decimal} value_of fault_of reads_decimals decimal_fault

pub meets_alone : Meets Alone digits_answer
unfolding digits_answer
meets_alone = value_meets {reads = Alone} digits_value digits_fault reads_alone digits_fault_lem

pub one_reader : OneReader Decimal
unfolding OneReader ReadsDecimals
one_reader = meets_one {reads = Decimal} value_of fault_of reads_decimals decimal_fault

pub one_alone : OneReader Alone
unfolding OneReader
one_alone = meets_one {reads = Alone} digits_value digits_fault reads_alone digits_fault_lem
