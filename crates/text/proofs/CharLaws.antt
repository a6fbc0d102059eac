-- A text character by character: the first, and then those of the rest. Assumes nothing.
use Prim.Native.Nat.{ℕ, zero, suc, ◌+◌, ◌-◌, ◌≤◌, ◌<◌}
use mathlib.Core.Path.{◌≡◌, refl, sym, ap, ◌∙◌}
use mathlib.Core.Bool.{Bool, true, false, ◌&&◌, ◌||◌, and-eq-true_iff}
use mathlib.Core.List.{List, [], ◌∷◌, ◌++◌}
use mathlib.Core.Option.{Option, some, none}
use native.Mathlib.Omega.{arith}
use native.Mathlib.Numerals.{unary_clauses}
use native.Mathlib.Decide.{ℕ_discrete}
use lib.ListN.{length, get_or, take, drop, length-drop, length-take, get_or-eq_default}
use lib.Dec.{leb, eqb}
use lib.Seq.{take_at, drop-drop, get_or-drop}
use borrow.Author.Tests.{eqb-true, leb-true, lt-leb}
use Rattle.std.specs.Prelude.{Ok, Err}
use Rattle.text.specs.Pick.{pick, within}
use Rattle.text.specs.Answer.{says}
use Rattle.text.specs.Utf8.{Row, row, table, Lead, lead, lead_in, lead_of, further, second, follows, is_char, size_by, char_size, before, chars_from, chars_of, there, is_utf8, utf8_answer}
use Rattle.text.specs.Inner.{CharAt}
use Rattle.text.specs.Paper.{utf8_paper}
use Rattle.text.specs.declared.utf8.NotUtf8.{NotUtf8}
use Rattle.text.proofs.Lists.{here}
use Rattle.text.proofs.Utf8Laws.{under, alone, size_cut, size_second, size_third, size_fourth}

-- ---- what holds of every row holds of what a first byte asks for

all_rows : (Lead → Bool) → List Row → Bool
all_rows p [] = true
all_rows p (row low high l h n ∷ rows) = p (lead n l h) && all_rows p rows

in_rows : (p : Lead → Bool) (a : ℕ) (rows : List Row) → p (lead 0 0 0) ≡ true → all_rows p rows ≡ true → p (lead_in a rows) ≡ true
unfolding lead_in all_rows
in_rows p a [] z e = z
in_rows p a (row low high l h n ∷ rows) z e = by (within low high a) ((and-eq-true_iff _ _).0 e).0 (in_rows p a rows z ((and-eq-true_iff (p (lead n l h)) _).0 e).1)
  where
    by : (t : Bool) → p (lead n l h) ≡ true → p (lead_in a rows) ≡ true → p (pick t (lead n l h) (lead_in a rows)) ≡ true
    by true y m = y
    by false y m = m

-- at most four bytes, and a second byte of 80 hex or more
sober : Lead → Bool
sober (lead n l h) = leb n 4 && (leb n 1 || leb 0x80 l)

lead_sober : (a : ℕ) → sober (lead_of a) ≡ true
unfolding lead_of table all_rows sober
lead_sober a = in_rows sober a table refl refl

sober_small : (n l h : ℕ) → sober (lead n l h) ≡ true → n ≤ 4
unfolding sober
sober_small n l h o = leb-true n 4 ((and-eq-true_iff _ _).0 o).0

sober_low : (n l h : ℕ) → sober (lead n l h) ≡ true → 2 ≤ n → 0x80 ≤ l
unfolding sober
sober_low n l h o p = leb-true 0x80 l (rw (lt-leb n 1 p) at ((and-eq-true_iff (leb n 4) _).0 o).1)

-- ---- the size of the first character

follows_size : (m l h : ℕ) (s : List ℕ) → follows (lead m l h) s ≡ true → suc (length s) ≡ m
unfolding follows
follows_size m l h s e = eqb-true _ _ ((and-eq-true_iff _ _).0 e).0

-- what a size that is not 0 says: it is what the first byte asks for, and the bytes after the first follow
pub record Sized (d : Lead) (s : List ℕ) (n : ℕ) : Type 0 where
  pub fits : n ≤ suc (length s)
  pub follow : follows d (take (n - 1) s) ≡ true
  pub small : n ≤ 4

sized : (d : Lead) (s : List ℕ) (n : ℕ) → sober d ≡ true → size_by d s ≡ n → (n ≡ 0 → ⊥) → Sized d s n
unfolding size_by
sized (lead m l h) s n o e z = by (follows (lead m l h) (take (m - 1) s)) refl e
  where
    by : (t : Bool) → follows (lead m l h) (take (m - 1) s) ≡ t → pick t m 0 ≡ n → Sized (lead m l h) s n
    by true f e =
        let k = follows_size m l h (take (m - 1) s) f in
        let j = length-take (m - 1) s in
        let i = sober_small m l h o in
        record { fits = omega arith; follow = rw (← e) f; small = omega arith }
    by false f e = absurd (z (sym e))

size_sized : (a : ℕ) (s : List ℕ) → (char_size (a ∷ s) ≡ 0 → ⊥) → Sized (lead_of a) s (char_size (a ∷ s))
unfolding char_size
size_sized a s z = sized (lead_of a) s (char_size (a ∷ s)) (lead_sober a) refl z

pub size_fits : (t : List ℕ) → char_size t ≤ length t
unfolding char_size
size_fits [] = omega arith
size_fits (a ∷ s) = by (ℕ_discrete (char_size (a ∷ s)) 0)
  where
    by : Dec (char_size (a ∷ s) ≡ 0) → char_size (a ∷ s) ≤ suc (length s)
    by (yes e) = omega arith
    by (no n) = (size_sized a s n).fits

pub size_small : (t : List ℕ) → char_size t ≤ 4
unfolding char_size
size_small [] = omega arith
size_small (a ∷ s) = by (ℕ_discrete (char_size (a ∷ s)) 0)
  where
    by : Dec (char_size (a ∷ s) ≡ 0) → char_size (a ∷ s) ≤ 4
    by (yes e) = omega arith
    by (no n) = (size_sized a s n).small

-- the first bytes of a text, as many as its first character's size, are a character
pub size_char : (t : List ℕ) → (char_size t ≡ 0 → ⊥) → is_char (take (char_size t) t) ≡ true
unfolding char_size is_char
size_char [] z = absurd (z refl)
size_char (a ∷ s) z = by (char_size (a ∷ s)) z (size_sized a s z).follow
  where
    by : (n : ℕ) → (n ≡ 0 → ⊥) → follows (lead_of a) (take (n - 1) s) ≡ true → is_char (take n (a ∷ s)) ≡ true
    by zero z f = absurd (z refl)
    by (suc n) z f = simp unary_clauses at f

-- a text that begins with a character has that character's size
pub char_size_lem : (c s : List ℕ) → is_char c ≡ true → char_size (c ++ s) ≡ length c
unfolding is_char char_size size_by
char_size_lem [] s e = cc
char_size_lem (a ∷ r) s e = by (lead_of a) e
  where
    by : (d : Lead) → follows d r ≡ true → size_by d (r ++ s) ≡ suc (length r)
    by (lead m l h) f =
        let k = follows_size m l h r f in
        let j : length r ≡ m - 1 = omega arith in
        rw (take_at r s (m - 1) j, f) (sym k)

-- ---- the size by four bytes

-- a byte that is not there may be taken for 0, which stands in no character behind the first byte
padded : (d : Lead) (s : List ℕ) → sober d ≡ true → size_by d s ≡ size_by d (get_or s 0 0 ∷ get_or s 1 0 ∷ get_or s 2 0 ∷ [])
unfolding size_by follows second further
padded (lead zero l h) s o = refl
padded (lead (suc zero) l h) s o = refl
padded (lead (suc (suc n)) l h) [] o =
    let p = sober_low (suc (suc n)) l h o (omega arith) in
    size_cut (suc (suc n)) l h [] (omega arith) ∙ sym (size_second (suc (suc n)) l h 0 (0 ∷ 0 ∷ []) (omega arith) (under l h 0 (omega arith)))
padded (lead (suc (suc zero)) l h) (b ∷ s) o = refl
padded (lead (suc (suc (suc n))) l h) (b ∷ []) o =
    size_cut (suc (suc (suc n))) l h (b ∷ []) (omega arith) ∙ sym (size_third (suc (suc (suc n))) l h b 0 (0 ∷ []) (omega arith) refl)
padded (lead (suc (suc (suc zero))) l h) (b ∷ c ∷ s) o = refl
padded (lead (suc (suc (suc (suc zero)))) l h) (b ∷ c ∷ []) o = size_cut 4 l h (b ∷ c ∷ []) (omega arith) ∙ sym (size_fourth l h b c 0 [] refl)
padded (lead (suc (suc (suc (suc zero)))) l h) (b ∷ c ∷ d ∷ s) o = refl
padded (lead (suc (suc (suc (suc (suc n))))) l h) (b ∷ c ∷ s) o = absurd (let m = sober_small _ l h o in omega arith)

-- ---- the bytes of a character

pub alone_char : (b : ℕ) → b < 0x80 → is_char (b ∷ []) ≡ true
unfolding is_char follows second
alone_char b h = rw (alone h)

-- a character that begins with a byte below 80 hex is that byte
pub char_alone : (b : ℕ) (s : List ℕ) → b < 0x80 → is_char (b ∷ s) ≡ true → s ≡ []
unfolding is_char
char_alone b [] h e = refl
char_alone b (c ∷ s) h e = absurd (let k = follows_size 1 0 0 (c ∷ s) (rw (alone h) at e) in omega arith)

-- no byte is below 80 hex
pub data High : List ℕ → Type 0 where
  nothing : High []
  more : {b : ℕ} {s : List ℕ} → 0x80 ≤ b → High s → High (b ∷ s)

within_low : (low high b : ℕ) → within low high b ≡ true → low ≤ b
within_low low high b e = leb-true low b ((and-eq-true_iff _ _).0 e).0

further_high : (s : List ℕ) → further s ≡ true → High s
unfolding further
further_high [] e = nothing
further_high (b ∷ s) e =
    let p = (and-eq-true_iff (within 0x80 0xbf b) (further s)).0 e in
    more (within_low 0x80 0xbf b p.0) (further_high s p.1)

second_high : (d : Lead) (s : List ℕ) → sober d ≡ true → follows d s ≡ true → High s
unfolding follows second
second_high (lead n l h) [] o e = nothing
second_high (lead n l h) (b ∷ s) o e =
    let k = follows_size n l h (b ∷ s) e in
    let p = (and-eq-true_iff (within l h b) (further s)).0 ((and-eq-true_iff (eqb (suc (length (b ∷ s))) n) _).0 e).1 in
    let r = sober_low n l h o (omega arith) in
    let w = within_low l h b p.0 in
    let z : 0x80 ≤ b = omega arith in
    more z (further_high s p.1)

-- after its first byte a character has none below 80 hex
pub tail_high : (a : ℕ) (s : List ℕ) → is_char (a ∷ s) ≡ true → High s
unfolding is_char
tail_high a s e = second_high (lead_of a) s (lead_sober a) e

-- ---- the characters of a text

pub chars_passed : (k : ℕ) (t : List ℕ) → chars_from k t ≡ chars_of (drop k t)
unfolding chars_of chars_from
chars_passed zero t = refl
chars_passed (suc k) [] = refl
chars_passed (suc k) (a ∷ s) = chars_passed k s

pub chars_stop : (t : List ℕ) → 0 < length t → char_size t ≡ 0 → chars_of t ≡ none
unfolding chars_of chars_from
chars_stop [] h e = absurd (omega arith)
chars_stop (a ∷ s) h e = rw (e, chars_from)

pub chars_next : (t : List ℕ) (n : ℕ) → char_size t ≡ n → (n ≡ 0 → ⊥) → chars_of t ≡ before (take n t) (chars_of (drop n t))
unfolding chars_of chars_from char_size
chars_next [] n e z = absurd (z (sym e))
chars_next (a ∷ s) zero e z = absurd (z refl)
chars_next (a ∷ s) (suc n) e z = rw (e, chars_from) (ap (before (a ∷ take n s)) (chars_passed n s))

pub there_before : (c : List ℕ) (o : Option (List (List ℕ))) → there (before c o) ≡ there o
unfolding there before
there_before c none = refl
there_before c (some cs) = refl

-- ---- a character at a place

pub char_at : {s : List ℕ} {at r : ℕ} → at < length s → r ≡ char_size (drop at s) → CharAt s at r
char_at {s} {at} h e =
    let f = size_fits (drop at s) in
    let d = length-drop at s in
    let m = size_small (drop at s) in
    record { size = e; fits = omega arith; small = omega arith }

pub byte_none : (s : List ℕ) {at : ℕ} (k : ℕ) → at < length s → length s - at ≤ k → 0 ≡ get_or s (at + k) 0
byte_none s k h p = sym (get_or-eq_default s 0 (omega arith))

pub at_alone : {s : List ℕ} {at : ℕ} → at < length s → get_or s at 0 < 0x80 → CharAt s at 1
at_alone {s} {at} h p = char_at h (rw (here s at h) (sym (char_size_lem (get_or s at 0 ∷ []) (drop (at + 1) s) (alone_char _ p))))

pub at_four : {s : List ℕ} {at b c d r : ℕ} → at < length s → b ≡ get_or s (at + 1) 0 → c ≡ get_or s (at + 2) 0 → d ≡ get_or s (at + 3) 0
    → r ≡ char_size (get_or s at 0 ∷ b ∷ c ∷ d ∷ []) → CharAt s at r
unfolding char_size
at_four {s} {at} h e f g k =
    let p = padded (lead_of (get_or s at 0)) (drop (at + 1) s) (lead_sober (get_or s at 0)) in
    let i : at + 1 + 0 ≡ at + 1 = omega arith in
    let j : at + 1 + 1 ≡ at + 2 = omega arith in
    let l : at + 1 + 2 ≡ at + 3 = omega arith in
    char_at h (rw (here s at h) (k ∙ rw (e, f, g) (sym (simp (get_or-drop, i, j, l) at p))))

pub at_within : {s : List ℕ} {at r : ℕ} → at + 4 ≤ length s → r ≡ char_size (get_or s at 0 ∷ get_or s (at + 1) 0 ∷ get_or s (at + 2) 0 ∷ get_or s (at + 3) 0 ∷ [])
    → CharAt s at r
at_within h k = at_four (omega arith) refl refl refl k

module _ {s : List ℕ} {i n : ℕ} (h : i < length s) (g : CharAt s i n) where
  pub char_next : (n ≡ 0 → ⊥) → chars_of (drop i s) ≡ before (take n (drop i s)) (chars_of (drop (i + n) s))
  char_next z = chars_next (drop i s) n (sym g.size) z ∙ ap (λ (t : List ℕ). before (take n (drop i s)) (chars_of t)) (drop-drop n i s)

  pub char_none : n ≡ 0 → chars_of (drop i s) ≡ none
  char_none z = chars_stop (drop i s) (let d = length-drop i s in omega arith) (sym g.size ∙ z)

-- what each verdict tells
pub told_text : (t : List ℕ) {u : Unit} → utf8_paper (Ok u) ≡ utf8_answer t → is_utf8 t ≡ true
unfolding utf8_paper utf8_answer
told_text t e = by (is_utf8 t) e
  where
    by : (b : Bool) → says 0 [] ≡ pick b (says 0 []) (says 5 []) → b ≡ true
    by true e = refl
    by false e = cc

pub told_broken : (t : List ℕ) {no : NotUtf8} → utf8_paper (Err no) ≡ utf8_answer t → is_utf8 t ≡ false
unfolding utf8_paper utf8_answer
told_broken t e = by (is_utf8 t) e
  where
    by : (b : Bool) → says 5 [] ≡ pick b (says 0 []) (says 5 []) → b ≡ false
    by true e = cc
    by false e = refl

pub ruleset laws = (byte_none, at_alone, at_four, at_within)
