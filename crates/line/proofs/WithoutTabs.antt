-- Column by column: where a character ends with each column, its characters come first, and then those of the others. Assumes nothing.
use Prim.Native.Nat.{ℕ, zero, suc, ◌+◌, ◌-◌, ◌<◌, ◌≤◌, suc-le-suc}
use mathlib.Core.Path.{◌≡◌, refl, sym, ◌∙◌}
use mathlib.Core.Bool.{true, false, and-eq-true_iff}
use mathlib.Core.List.{List, [], ◌∷◌, ◌++◌, append_assoc, append-nil, flatten}
use native.Mathlib.Omega.{arith}
use lib.ListN.{length, take, drop, replicate}
use lib.Seq.{take-length, take-nil, drop-nil, take-append-add}
use Rattle.text.specs.Utf8.{is_utf8}
use Rattle.text.specs.Demands.{Characters}
use Rattle.text.proofs.TextLaws.{flatten_append, no_characters, both_are, parts_are, between_is, two_bytes, first_byte}
use Rattle.text.proofs.Demands.{text_is, is_text, nil_text, byte_text, append_text}
use Rattle.pieces.specs.Pieces.{joined}
use Rattle.pieces.proofs.PieceLaws.{joined_none}
use Rattle.line.specs.Line.{all_utf8}
use Rattle.line.specs.Demands.{untabbed, Uncrossed, WithoutTabs}
use Rattle.line.proofs.ColumnLaws.{same_bool, utf8_joined}

-- the columns with the first n tabs out
without : ℕ → List (List ℕ) → List ℕ
without n cs = flatten (take n cs) ++ joined 9 (drop n cs)

-- the characters of that text, none of them across one of these tabs
record Whole (n : ℕ) (cs ks : List (List ℕ)) : Type 0 where
  are : Characters (without n cs) ks
  each : (i : ℕ) → i < length cs → i ≤ n → (m : ℕ) × (flatten (take m ks) ≡ flatten (take i cs))

-- ---- from the columns to the text

-- a column's characters go before those of the others
whole_more : {n : ℕ} {c : List ℕ} {cs xs ks : List (List ℕ)} → Characters c xs → Whole n cs ks → Whole (suc n) (c ∷ cs) (xs ++ ks)
unfolding without flatten
whole_more {n} {c} {cs} {xs} {ks} p w = record { are = rw (append_assoc c (flatten (take n cs)) _) (both_are p w.are); each = by }
  where
    by : (i : ℕ) → i < suc (length cs) → i ≤ suc n → (m : ℕ) × (flatten (take m (xs ++ ks)) ≡ flatten (take i (c ∷ cs)))
    by zero l h = (0, refl)
    by (suc i) l h =
        let r = w.each i (omega arith) (omega arith) in
        (length xs + r.0, rw (take-append-add xs ks r.0, flatten_append xs (take r.0 ks), p.whole, r.1))

whole : (n : ℕ) (cs : List (List ℕ)) → all_utf8 cs ≡ true → (ks : List (List ℕ)) × Whole n cs ks
unfolding without flatten all_utf8
whole zero cs u =
    let t = text_is (joined 9 cs) (utf8_joined cs ∙ u) in
    (t.chars, record { are = t.are; each = λ i l h. (let z : i ≡ 0 = omega arith in (0, rw z)) })
whole (suc n) [] u = ([], record { are = rw joined_none no_characters; each = λ i l. absurd (omega arith) })
whole (suc n) (c ∷ cs) u =
    let p = (and-eq-true_iff (is_utf8 c) (all_utf8 cs)).0 u in
    let t = text_is c p.0 in
    let w = whole n cs p.1 in
    (t.chars ++ w.0, whole_more t.are w.1)

-- ---- and back

-- the characters behind the first column's are those of the others
whole_rest : {n : ℕ} {c : List ℕ} {cs ks : List (List ℕ)} → Whole (suc n) (c ∷ cs) ks → (m : ℕ) → flatten (take m ks) ≡ c
    → Characters c (take m ks) × Whole n cs (drop m ks)
unfolding without flatten
whole_rest {n} {c} {cs} {ks} w m e = let p = parts_are c m (rw append_assoc at w.are) e in (p.0, record { are = p.1; each = by })
  where
    by : (i : ℕ) → i < length cs → i ≤ n → (j : ℕ) × (flatten (take j (drop m ks)) ≡ flatten (take i cs))
    by i l h = let r = w.each (suc i) (suc-le-suc l) (suc-le-suc h) in (r.0 - m, between_is c (flatten (take i cs)) ks m r.0 e r.1)

-- the first column ends with a character: at the first tab, or at the text's end
first_ends : (n : ℕ) (c : List ℕ) (cs : List (List ℕ)) {ks : List (List ℕ)} → Whole (suc n) (c ∷ cs) ks → (m : ℕ) × (flatten (take m ks) ≡ c)
unfolding without flatten
first_ends n c [] {ks} w =
    let e : (c ++ flatten (take n [])) ++ joined 9 (drop n []) ≡ c = rw (take-nil {A = List ℕ} n, drop-nil {A = List ℕ} n, joined_none) (append-nil _ ∙ append-nil c) in
    (length ks, rw (take-length ks) (w.are.whole ∙ e))
first_ends n c (d ∷ cs) w = let r = w.each 1 (omega arith) (omega arith) in (r.0, r.1 ∙ append-nil c)

whole_utf8 : (n : ℕ) (cs ks : List (List ℕ)) → Whole n cs ks → all_utf8 cs ≡ true
unfolding without flatten all_utf8
whole_utf8 zero cs ks w = sym (utf8_joined cs) ∙ is_text (joined 9 cs) (record { chars = ks; are = w.are })
whole_utf8 (suc n) [] ks w = refl
whole_utf8 (suc n) (c ∷ cs) ks w =
    let m = first_ends n c cs w in
    let r = whole_rest w m.0 m.1 in
    rw (is_text c (record { chars = take m.0 ks; are = r.0 })) (whole_utf8 n cs (drop m.0 ks) r.1)

-- ---- the first nine

pub without_tabs : WithoutTabs
unfolding WithoutTabs untabbed without
without_tabs cs = (
  λ u. (let w = whole 9 cs u in record { chars = w.0; are = w.1.are; each = w.1.each }),
  λ x. whole_utf8 9 cs x.chars (record { are = x.are; each = x.each }),
)

-- so where each column is UTF-8, the text with those tabs out is
pub columns_untabbed : (cs : List (List ℕ)) → all_utf8 cs ≡ true → is_utf8 (untabbed cs) ≡ true
unfolding WithoutTabs
columns_untabbed cs u = let x = (without_tabs cs).0 u in is_text (untabbed cs) (record { chars = x.chars; are = x.are })

-- and where no character of it stands across one of them, the two are equal
pub uncrossed_same : (cs : List (List ℕ)) → (is_utf8 (untabbed cs) ≡ true → Uncrossed cs) → is_utf8 (untabbed cs) ≡ all_utf8 cs
unfolding WithoutTabs
uncrossed_same cs h = same_bool (is_utf8 (untabbed cs)) (all_utf8 cs) (λ u. (without_tabs cs).1 (h u)) (columns_untabbed cs)

-- ---- where they part

-- a character broken by the first tab, and six columns "1"
pub broken : List (List ℕ)
broken = (0xc3 ∷ []) ∷ (0xa9 ∷ []) ∷ replicate 6 (49 ∷ [])

-- not all columns are UTF-8, and the text with the tabs out is
pub broken_parts : (all_utf8 broken ≡ false) × (is_utf8 (untabbed broken) ≡ true)
unfolding broken all_utf8 untabbed flatten
broken_parts = (rw first_byte, rw joined_none (append_text (0xc3 ∷ 0xa9 ∷ []) (replicate 6 49) two_bytes (ones 6)))
  where
    ones : (n : ℕ) → is_utf8 (replicate n 49) ≡ true
    ones zero = nil_text
    ones (suc n) = append_text (49 ∷ []) (replicate n 49) (byte_text 49 (omega arith)) (ones n)
