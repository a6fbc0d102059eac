-- Characters passed: one by one, or many bytes below 80 hex at once; and the check's loop over them. Assumes nothing.
use Prim.Native.Nat.{ℕ, zero, suc, ◌+◌, ◌-◌, ◌≤◌, ◌<◌}
use mathlib.Core.Path.{◌≡◌, refl, sym, ap, ◌∙◌}
use mathlib.Core.Bool.{Bool, true}
use mathlib.Core.List.{List}
use native.Mathlib.Omega.{arith}
use native.Mathlib.Nat.{add-zero}
use lib.ListN.{length, get_or, take, drop, drop_of_length-le}
use Rattle.std.specs.Prelude.{Ok, Err}
use Rattle.text.specs.Flags.{Plain, Each, TellsOf}
use Rattle.text.specs.Utf8.{chars_from, chars_of, there, is_utf8, utf8_answer}
use Rattle.text.specs.Inner.{CharAt, Passes}
use Rattle.text.specs.Paper.{utf8_paper}
use Rattle.text.specs.declared.utf8.NotUtf8.{NotUtf8}
use Rattle.text.proofs.CharLaws.{at_alone, there_before, char_next, char_none}

-- ---- characters passed

pub pass_none : {s : List ℕ} {at : ℕ} → at ≤ length s → Passes s at at
pass_none h = record { reached = h; same = refl }

pub pass_start : {s : List ℕ} {at : ℕ} → at + 68 ≤ length s → Passes s at (at + 0)
pass_start {s} {at} h = rw (add-zero at) (pass_none (omega arith))

pub pass_on : {s : List ℕ} {a b c : ℕ} → Passes s a b → Passes s b c → Passes s a c
pass_on p q = record { reached = q.reached; same = q.same ∙ p.same }

-- one character
pass_char : {s : List ℕ} {i n : ℕ} → i < length s → CharAt s i n → (n ≡ 0 → ⊥) → Passes s i (i + n)
unfolding is_utf8
pass_char {s} {i} {n} h g z =
    record { reached = g.fits; same = sym (there_before (take n (drop i s)) _) ∙ ap there (sym (char_next h g z)) }

pub run_turn : {s : List ℕ} {at n m : ℕ} → Passes s at (at + n) → at + 68 ≤ length s → n < 64 → CharAt s (at + n) m → (m ≡ 0 → ⊥) → Passes s at (at + (n + m))
run_turn {s} {at} {n} {m} p f h g z =
    let q : at + n + m ≡ at + (n + m) = omega arith in
    pass_on p (rw q at (pass_char (omega arith) g z))

-- bytes below 80 hex
plain_passes : {s : List ℕ} (n at : ℕ) → at + n ≤ length s → Each Plain s at (at + n) → Passes s at (at + n)
plain_passes {s} zero at h e = rw (add-zero at) (pass_none (omega arith))
plain_passes {s} (suc n) at h e =
    let q : at + 1 + n ≡ at + suc n = omega arith in
    let l : at < length s = omega arith in
    let c = at_alone l (e at (omega arith) (omega arith)).small in
    pass_on (pass_char l c (λ z. omega arith)) (rw q at (plain_passes n (at + 1) (omega arith) (λ k a b. e k (omega arith) (omega arith))))

-- a text of such bytes is UTF-8
pub plain_utf8 : (t : List ℕ) → ((k : ℕ) → k < length t → get_or t k 0 < 128) → is_utf8 t ≡ true
unfolding is_utf8 there chars_of chars_from
plain_utf8 t f =
    let p = plain_passes {s = t} (length t) 0 (omega arith) (λ k a b. record { small = f k (omega arith) }) in
    sym p.same ∙ rw (drop_of_length-le t {i = 0 + length t} (omega arith))

pub block_plain : {s : List ℕ} {at : ℕ} {r : Bool} → at + 68 ≤ length s → TellsOf 64 Plain s at r → r ≡ true → Passes s at (at + 64)
block_plain {at = at} f t e = plain_passes 64 at (omega arith) (t.yes e)

pub eight_plain : {s : List ℕ} {at i : ℕ} {r : Bool} → Passes s at i → 8 ≤ length s - i → TellsOf 8 Plain s i r → r ≡ true → Passes s at (i + 8)
eight_plain {s} {i = i} p f t e = pass_on p (plain_passes 8 i (let w = p.reached in omega arith) (t.yes e))

-- ---- the check's loop

module _ {s : List ℕ} {i n : ℕ} (c : Passes s 0 i) (h : i < length s) (g : CharAt s i n) where
  pub check_turn : (n ≡ 0 → ⊥) → Passes s 0 (i + n)
  check_turn z = pass_on c (pass_char h g z)

  pub check_stop : {no : NotUtf8} → n ≡ 0 → utf8_paper (Err no) ≡ utf8_answer s
  unfolding utf8_paper utf8_answer is_utf8 there
  check_stop z = rw (← c.same, char_none h g z)

pub check_past : {s : List ℕ} {i : ℕ} {u : Unit} → Passes s 0 i → length s ≤ i → utf8_paper (Ok u) ≡ utf8_answer s
unfolding utf8_paper utf8_answer is_utf8 there chars_of chars_from
check_past {s} c h = rw (← c.same, drop_of_length-le s h)

pub ruleset laws = (pass_none, pass_start, pass_on, run_turn, block_plain, eight_plain, check_turn, check_stop, check_past)
