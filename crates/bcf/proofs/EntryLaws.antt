-- Entries and their bytes, the lowest first, both ways, over any width. Assumes nothing.
use Prim.Native.Nat.{ℕ, zero, suc, ◌+◌, ◌*◌, ◌/◌, ◌%◌, ◌^◌, ◌<◌}
use mathlib.Core.Path.{◌≡◌, refl, sym, ap, ◌∙◌, subst}
use mathlib.Core.List.{List, [], ◌∷◌, ◌++◌, append_assoc}
use native.Mathlib.Omega.{arith}
use native.Mathlib.Nat.{pow-succ', suc-mul, zero-mul, le_of_suc-le-suc, mul-div_cancel}
use lib.ListN.{length, get_or, take, drop, length-append, length-drop, take-append-drop}
use lib.Seq.{take_at, drop_at, length-take-le}
use Rattle.bcf.specs.Layout.{size, little_of, bytes_of}
use Rattle.bcf.specs.declared.width.Width.{Width}
use Rattle.bcf.specs.Reading.{number_by, entries_from, entries_in}
use Rattle.bcf.specs.Demands.{Bytes, Whole}
use Rattle.bcf.proofs.CodeLaws.{size_some}

-- ---- one number

pub little_length : (k c : ℕ) → length (little_of k c) ≡ k
unfolding little_of
little_length zero c = refl
little_length (suc k) c = ap suc (little_length k (c / 256))

little_number : (k c : ℕ) → c < 256 ^ k → number_by (little_of k c) ≡ c
unfolding little_of number_by
little_number zero c h = omega arith
little_number (suc k) c h =
    let p = pow-succ' 256 k in
    let r = little_number k (c / 256) (omega arith) in
    omega arith

bytes_tail : {b : ℕ} {s : List ℕ} → Bytes (b ∷ s) → Bytes s
bytes_tail g = record { each = λ i h. g.each (suc i) (omega arith) }

number_little : (s : List ℕ) → Bytes s → little_of (length s) (number_by s) ≡ s
unfolding little_of number_by
number_little [] g = refl
number_little (b ∷ s) g =
    let h : b < 256 = g.each 0 (omega arith) in
    let m : (b + 256 * number_by s) % 256 ≡ b = omega arith in
    let d : (b + 256 * number_by s) / 256 ≡ number_by s = omega arith in
    rw (m, d, number_little s (bytes_tail g))

-- ---- entries

-- each fits its width
pub data Fit (w : Width) : List ℕ → Type 0 where
  none : Fit w []
  more : {e : ℕ} {es : List ℕ} → e < 256 ^ size w → Fit w es → Fit w (e ∷ es)

pub bytes_length : (w : Width) (es : List ℕ) → length (bytes_of w es) ≡ length es * size w
unfolding bytes_of
bytes_length w [] = omega arith
bytes_length w (e ∷ es) =
    let a = little_length (size w) e in
    let b = bytes_length w es in
    let z = suc-mul (length es) (size w) in
    length-append (little_of (size w) e) (bytes_of w es) ∙ omega arith

pub bytes_append : (w : Width) (es fs : List ℕ) → bytes_of w (es ++ fs) ≡ bytes_of w es ++ bytes_of w fs
unfolding bytes_of
bytes_append w [] fs = refl
bytes_append w (e ∷ es) fs = rw (bytes_append w es fs) (sym (append_assoc (little_of (size w) e) (bytes_of w es) (bytes_of w fs)))

entries_back : (w : Width) (es : List ℕ) → Fit w es → entries_from (size w) (length es) (bytes_of w es) ≡ es
unfolding bytes_of entries_from
entries_back w [] f = refl
entries_back w (e ∷ es) (more h f) =
    rw
    (take_at (little_of (size w) e) (bytes_of w es) (size w) (little_length (size w) e), drop_at (little_of (size w) e) (bytes_of w es) (size w) (little_length (size w) e), little_number (size w) e h, entries_back w es f)

pub count_is : (w : Width) (n : ℕ) → n * size w / size w ≡ n
count_is w n = mul-div_cancel n (size_some w)

-- the entries of bytes that some were written as are these
pub entries_are : (w : Width) (es : List ℕ) → Fit w es → entries_in w (bytes_of w es) ≡ es
unfolding entries_in
entries_are w es f = rw (bytes_length w es, count_is w (length es)) (entries_back w es f)

-- ---- bytes

bytes_drop : (k : ℕ) (v : List ℕ) → Bytes v → Bytes (drop k v)
bytes_drop zero v g = g
bytes_drop (suc k) [] g = g
bytes_drop (suc k) (b ∷ v) g = bytes_drop k v (bytes_tail g)

bytes_take : (k : ℕ) (v : List ℕ) → Bytes v → Bytes (take k v)
bytes_take zero v g = record { each = λ i h. absurd (omega arith) }
bytes_take (suc k) [] g = g
bytes_take (suc k) (b ∷ v) g = record { each = at (bytes_take k v (bytes_tail g)) }
  where
    at : Bytes (take k v) → (i : ℕ) → i < length (b ∷ take k v) → get_or (b ∷ take k v) i 0 < 256
    at r zero l = g.each 0 (omega arith)
    at r (suc i) l = r.each i (le_of_suc-le-suc l)

entries_forth : (w : Width) (n : ℕ) (v : List ℕ) → Bytes v → length v ≡ n * size w → bytes_of w (entries_from (size w) n v) ≡ v
unfolding bytes_of entries_from
entries_forth w zero [] g e = refl
entries_forth w zero (b ∷ v) g e = absurd (let z = zero-mul (size w) in omega arith)
entries_forth w (suc n) v g e =
    let z = suc-mul n (size w) in
    let d = length-drop (size w) v in
    let t : length (take (size w) v) ≡ size w = length-take-le (size w) v (omega arith) in
    let h = number_little (take (size w) v) (bytes_take (size w) v g) in
    rw (entries_forth w n (drop (size w) v) (bytes_drop (size w) v g) (omega arith))
    (ap (λ (s : List ℕ). s ++ drop (size w) v) (subst (λ (k : ℕ). little_of k (number_by (take (size w) v)) ≡ take (size w) v) t h) ∙ take-append-drop (size w) v)

pub whole : Whole
unfolding Whole entries_in
whole w n v g e = rw (e, count_is w n) (entries_forth w n v g e)
