-- Characters one list after the other, and cut between two of them: list by list. Assumes nothing.
use Prim.Native.Nat.{ℕ, zero, suc, ◌+◌, ◌-◌, ◌≤◌}
use mathlib.Core.Path.{◌≡◌, refl, sym, ap, ◌∙◌}
use mathlib.Core.Bool.{true, false, and-eq-true_iff}
use mathlib.Core.List.{List, [], ◌∷◌, ◌++◌, append_assoc, append_cancel_left, flatten}
use native.Mathlib.Omega.{arith}
use native.Mathlib.Decide.{dec_le}
use lib.ListN.{length, take, drop, length-append, take-append-drop}
use lib.Seq.{take-add}
use Rattle.text.specs.Utf8.{table, lead_in, lead_of, further, second, follows, is_char, all_chars, size_by, char_size, before, chars_from, chars_of, there, is_utf8}
use Rattle.text.specs.Demands.{Characters}

pub flatten_append : (xs ys : List (List ℕ)) → flatten (xs ++ ys) ≡ flatten xs ++ flatten ys
unfolding flatten
flatten_append [] ys = refl
flatten_append (x ∷ xs) ys = ap (λ (t : List ℕ). x ++ t) (flatten_append xs ys) ∙ sym (append_assoc x (flatten xs) (flatten ys))

all_append : (xs ys : List (List ℕ)) → all_chars xs ≡ true → all_chars ys ≡ true → all_chars (xs ++ ys) ≡ true
unfolding all_chars
all_append [] ys p q = q
all_append (x ∷ xs) ys p q = let b = (and-eq-true_iff (is_char x) (all_chars xs)).0 p in rw (b.0, all_append xs ys b.1 q)

all_parts : (n : ℕ) (xs : List (List ℕ)) → all_chars xs ≡ true → (all_chars (take n xs) ≡ true) × (all_chars (drop n xs) ≡ true)
unfolding all_chars
all_parts zero xs p = (refl, p)
all_parts (suc n) [] p = (refl, refl)
all_parts (suc n) (x ∷ xs) p =
    let b = (and-eq-true_iff (is_char x) (all_chars xs)).0 p in
    let q = all_parts n xs b.1 in
    (rw b.0 q.0, q.1)

-- the empty text has no character
pub no_characters : Characters [] []
unfolding all_chars flatten
no_characters = record { each = refl; whole = refl }

-- those of two texts are those of both together
pub both_are : {s t : List ℕ} {xs ys : List (List ℕ)} → Characters s xs → Characters t ys → Characters (s ++ t) (xs ++ ys)
both_are {xs = xs} {ys = ys} p q =
    record { each = all_append xs ys p.each q.each; whole = flatten_append xs ys ∙ rw (p.whole, q.whole) }

-- and where the first so many of them are the first text, the others are the second
pub parts_are : (s : List ℕ) {t : List ℕ} {xs : List (List ℕ)} (n : ℕ) → Characters (s ++ t) xs → flatten (take n xs) ≡ s
    → Characters s (take n xs) × Characters t (drop n xs)
parts_are s {t} {xs} n p e =
    let w : s ++ flatten (drop n xs) ≡ s ++ t = rw (← e, ← flatten_append (take n xs) (drop n xs), take-append-drop n xs, e) p.whole in
    let a = all_parts n xs p.each in
    (record { each = a.0; whole = e }, record { each = a.1; whole = append_cancel_left s _ _ w })

-- the first n of them are the first m, and then those between
between_are : (xs : List (List ℕ)) (m n : ℕ) → m ≤ n → flatten (take n xs) ≡ flatten (take m xs) ++ flatten (take (n - m) (drop m xs))
between_are xs m n l =
    let k : m + (n - m) ≡ n = omega arith in
    ap (λ (z : ℕ). flatten (take z xs)) (sym k) ∙ ap flatten (take-add m (n - m) xs) ∙ flatten_append (take m xs) _

is_nil : (t : List ℕ) → length t ≡ 0 → [] ≡ t
is_nil [] e = refl
is_nil (b ∷ t) e = absurd (omega arith)

-- so what stands between two places that lie between characters is the characters between them
pub between_is : (s t : List ℕ) (xs : List (List ℕ)) (n m : ℕ) → flatten (take n xs) ≡ s → flatten (take m xs) ≡ s ++ t
    → flatten (take (m - n) (drop n xs)) ≡ t
unfolding flatten
between_is s t xs n m e f = by (dec_le n m)
  where
    by : Dec (n ≤ m) → flatten (take (m - n) (drop n xs)) ≡ t
    by (yes l) = append_cancel_left s _ _ (rw e at (sym (between_are xs n m l) ∙ f))
    by (no l) =
        let k : m - n ≡ 0 = omega arith in
        let w = ap length (rw (e, f) at (between_are xs m n (omega arith))) in
        rw k (is_nil t (omega (arith, simp length-append at w)))

-- ---- a character of two bytes, and the first of them alone

pub two_bytes : is_utf8 (0xc3 ∷ 0xa9 ∷ []) ≡ true
unfolding is_utf8 there chars_of chars_from before char_size size_by lead_of lead_in table follows second further
two_bytes = refl

pub first_byte : is_utf8 (0xc3 ∷ []) ≡ false
unfolding is_utf8 there chars_of chars_from before char_size size_by lead_of lead_in table follows second further
first_byte = refl
