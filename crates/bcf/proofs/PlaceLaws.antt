-- An entry's bytes in a vector, over any width: the entry with an index begins at so many times the size; the lowest byte is written first,
-- and the others as an entry of one byte less. Then, for each width, that its bytes are these. Assumes nothing.
use Prim.Native.Nat.{ℕ, zero, suc, ◌+◌, ◌*◌, ◌/◌, ◌%◌, ◌^◌, ◌≤◌, ◌<◌}
use mathlib.Core.Path.{◌≡◌, refl, sym, ap, ◌∙◌}
use mathlib.Core.List.{List, [], ◌∷◌, ◌++◌}
use native.Mathlib.Omega.{arith}
use native.Mathlib.Nat.{zero-add, suc-add, zero-mul, suc-mul, mul_assoc, pow-succ', div-one, div-div-eq-div-mul, le-div_iff_mul-le, div-lt_iff_lt-mul}
use native.Mathlib.Numerals.{add-one}
use mir.Syntax as M
use mir.Val.{Fits}
use lib.ListN.{length, get_or, take, drop, set, length-drop}
use lib.Seq.{drop-drop}
use Rattle.text.specs.Over.{over_at}
use Rattle.text.proofs.Lists.{onward, length_over_at, over_at_one, over_at_append}
use Rattle.bcf.specs.Layout.{size, little_of, bytes_of}
use Rattle.bcf.specs.Reading.{number_by, entries_from, entries_in}
use Rattle.bcf.specs.declared.width.Width.{Width}
use Rattle.bcf.specs.declared.width.Width.TheVariants.{W8, W16, W32}
use Rattle.bcf.proofs.CodeLaws.{size_some}
use Rattle.bcf.proofs.EntryLaws.{little_length}

-- ---- room

-- what an index, or a count of entries, is to the number of whole entries in n bytes, its bytes are to n
module _ (w : Width) (i n : ℕ) where
  pub room_in_lem : i ≤ n / size w → i * size w ≤ n
  room_in_lem = (le-div_iff_mul-le (size_some w)).0

  pub no_room : n / size w < i → n < i * size w
  no_room = (div-lt_iff_lt-mul (size_some w)).0

  room_for : i < n / size w → i * size w + size w ≤ n
  room_for h = let r : suc i * size w ≤ n = (le-div_iff_mul-le (size_some w)).0 h in let z = suc-mul i (size w) in omega arith

-- ---- reading

pub entries_length : (w : Width) (v : List ℕ) → length (entries_in w v) ≡ length v / size w
unfolding entries_in entries_from
entries_length w v = go (size w) (length v / size w) v
  where
    go : (k n : ℕ) (v : List ℕ) → length (entries_from k n v) ≡ n
    go k zero v = refl
    go k (suc n) v = ap suc (go k n (drop k v))

pub entry_there : (w : Width) (v : List ℕ) {n i : ℕ} → n ≡ length v / size w → i < n → i < length (entries_in w v)
entry_there w v e h = let l = entries_length w v in omega arith

from_is : (k n i : ℕ) (v : List ℕ) → i < n → get_or (entries_from k n v) i 0 ≡ number_by (take k (drop (i * k) v))
unfolding entries_from
from_is k zero i v h = absurd (omega arith)
from_is k (suc n) zero v h = rw (zero-mul k)
from_is k (suc n) (suc i) v h =
    let e : suc i * k ≡ k + i * k = suc-mul i k ∙ omega arith in
    from_is k n i (drop k v) (omega arith) ∙ ap (λ (s : List ℕ). number_by (take k s)) (drop-drop (i * k) k v) ∙ rw e

module _ (w : Width) (v : List ℕ) (i : ℕ) (h : i < length v / size w) where
  entry_is : get_or (entries_in w v) i 0 ≡ number_by (take (size w) (drop (i * size w) v))
  unfolding entries_in
  entry_is = from_is (size w) (length v / size w) i v h

  module _ (e : w ≡ W8) where
    pub within_8 : i < length v
    unfolding size
    within_8 = let k = rw e at h in omega arith

    pub entry_8 : {x : ℕ} → x ≡ get_or v i 0 → x ≡ get_or (entries_in w v) i 0
    unfolding size number_by
    entry_8 {x} f =
        let t : i * 1 ≡ i = omega arith in
        f ∙ sym (entry_is ∙ (rw (e, t, onward v i (i + 1) within_8 refl) (omega arith)))

  module _ (e : w ≡ W16) where
    pub within_16 : 2 * i + 2 ≤ length v
    unfolding size
    within_16 = let k = rw e at h in omega arith

    pub fits_16 : length v * 1 < 2 ^ 63 → Fits M.w64 (2 * i)
    fits_16 b = let k = within_16 in record { fits = omega arith }

    pub entry_16 : {x : ℕ} → x ≡ number_by (take 2 (drop (2 * i) v)) → x ≡ get_or (entries_in w v) i 0
    unfolding size
    entry_16 {x} f = let t : i * 2 ≡ 2 * i = omega arith in f ∙ sym (entry_is ∙ rw (e, t))

  module _ (e : w ≡ W32) where
    pub within_32 : 4 * i + 4 ≤ length v
    unfolding size
    within_32 = let k = rw e at h in omega arith

    pub fits_32 : length v * 1 < 2 ^ 63 → Fits M.w64 (4 * i)
    fits_32 b = let k = within_32 in record { fits = omega arith }

    pub entry_32 : {x : ℕ} → x ≡ number_by (take 4 (drop (4 * i) v)) → x ≡ get_or (entries_in w v) i 0
    unfolding size
    entry_32 {x} f = let t : i * 4 ≡ 4 * i = omega arith in f ∙ sym (entry_is ∙ rw (e, t))

-- two numbers, the low one first
number_append : (a : ℕ) (s : List ℕ) (b : ℕ) → a ≤ length s → number_by (take (a + b) s) ≡ number_by (take a s) + 256 ^ a * number_by (take b (drop a s))
unfolding number_by
number_append zero s b h = rw (zero-add b) (omega arith)
number_append (suc a) [] b h = absurd (omega arith)
number_append (suc a) (x ∷ s) b h =
    let p = pow-succ' 256 a in
    let e = number_append a s b (omega arith) in
    let q = mul_assoc 256 (256 ^ a) (number_by (take b (drop a s))) in
    rw (suc-add a b, p) (omega arith)

module _ (v : List ℕ) (i : ℕ) where
  pub two : {x y : ℕ} → i + 2 ≤ length v → x ≡ get_or v i 0 → y ≡ get_or v (i + 1) 0 → x + 256 * y ≡ number_by (take 2 (drop i v))
  unfolding number_by
  two h e f = rw (onward v i (i + 1) (omega arith) refl, onward v (i + 1) (i + 2) (omega arith) (omega arith), ← e, ← f) (omega arith)

  pub four : {x y : ℕ} → i + 4 ≤ length v → x ≡ number_by (take 2 (drop i v)) → y ≡ number_by (take 2 (drop (i + 2) v)) → x + 65536 * y ≡ number_by (take 4 (drop i v))
  four h e f =
      let d = length-drop i v in
      rw (e, f) (sym (number_append 2 (drop i v) 2 (omega arith) ∙ rw (drop-drop 2 i v)))

-- ---- writing

-- so many bytes, and then those of what is left
little_append : (a b c : ℕ) → little_of (a + b) c ≡ little_of a c ++ little_of b (c / 256 ^ a)
unfolding little_of
little_append zero b c = rw (zero-add b, div-one c)
little_append (suc a) b c =
    rw (suc-add a b, little_append a b (c / 256), div-div-eq-div-mul c 256 (256 ^ a), ← pow-succ' 256 a)

-- laid over a list they leave its length, and what follows them is laid behind them
module _ (k c at : ℕ) (l : List ℕ) (h : at + k ≤ length l) where
  little_fits : at + length (little_of k c) ≤ length l
  little_fits = let e = little_length k c in omega arith

  little_keeps : length (over_at at (little_of k c) l) ≡ length l
  little_keeps = length_over_at at (little_of k c) l little_fits

  little_then : (vs : List ℕ) → over_at at (little_of k c ++ vs) l ≡ over_at (at + k) vs (over_at at (little_of k c) l)
  little_then vs = over_at_append at (little_of k c) vs l little_fits ∙ rw (little_length k c)

module _ (c : ℕ) (l : List ℕ) (at : ℕ) where
  pub put_one : {x : ℕ} → at < length l → x ≡ c % 256 → set l at x ≡ over_at at (little_of 1 c) l
  unfolding little_of
  put_one h e = rw e (sym (over_at_one l at (c % 256) h))

  module _ (a b : ℕ) {l₁ : List ℕ} (h : at + (a + b) ≤ length l) (e : l₁ ≡ over_at at (little_of a c) l) where
    still : length l₁ ≡ length l
    still = ap length e ∙ little_keeps a c at l (omega arith)

    behind : {l₂ : List ℕ} → l₂ ≡ over_at (at + a) (little_of b (c / 256 ^ a)) l₁ → l₂ ≡ over_at at (little_of (a + b) c) l
    behind f = rw (little_append a b c) (f ∙ rw e (sym (little_then a c at l (omega arith) (little_of b (c / 256 ^ a)))))

  module _ {l₁ : List ℕ} (h : at + 2 ≤ length l) (e : l₁ ≡ over_at at (little_of 1 c) l) where
    pub room_second : at + 1 < length l₁
    room_second = let s = still 1 1 h e in omega arith

    pub put_second : {l₂ : List ℕ} → l₂ ≡ over_at (at + 1) (little_of 1 (c / 256)) l₁ → l₂ ≡ over_at at (little_of 2 c) l
    put_second = behind 1 1 h e

  module _ {l₁ : List ℕ} (h : at + 4 ≤ length l) (e : l₁ ≡ over_at at (little_of 2 c) l) where
    pub room_fourth : at + 2 + 2 ≤ length l₁
    room_fourth = let s = still 2 2 h e in omega arith

    pub put_fourth : {l₂ : List ℕ} → l₂ ≡ over_at (at + 2) (little_of 2 (c / 65536)) l₁ → l₂ ≡ over_at at (little_of 4 c) l
    put_fourth = behind 2 2 h e

-- an entry, then the others behind it
module _ (w : Width) (c : ℕ) (es l : List ℕ) (i : ℕ) (h : i < length l / size w) {l' : List ℕ} (e : l' ≡ over_at (i * size w) (little_of (size w) c) l) where
  pub put_length : length l' ≡ length l
  put_length = ap length e ∙ little_keeps (size w) c (i * size w) l (room_for w i (length l) h)

  pub put_on : over_at (i * size w) (bytes_of w (c ∷ es)) l ≡ over_at ((i + 1) * size w) (bytes_of w es) l'
  unfolding bytes_of
  put_on =
      let t : i * size w + size w ≡ (i + 1) * size w = (let z = suc-mul i (size w) in rw add-one (omega arith)) in
      little_then (size w) c (i * size w) l (room_for w i (length l) h) (bytes_of w es) ∙ rw (t, ← e)

module _ (w : Width) (l : List ℕ) (c i : ℕ) {l' : List ℕ} where
  pub lain_8 : w ≡ W8 → l' ≡ over_at i (little_of 1 c) l → l' ≡ over_at (i * size w) (little_of (size w) c) l
  unfolding size
  lain_8 e f = let t : i * 1 ≡ i = omega arith in f ∙ rw (e, t)

  pub lain_16 : w ≡ W16 → l' ≡ over_at (2 * i) (little_of 2 c) l → l' ≡ over_at (i * size w) (little_of (size w) c) l
  unfolding size
  lain_16 e f = let t : i * 2 ≡ 2 * i = omega arith in f ∙ rw (e, t)

  pub lain_32 : w ≡ W32 → l' ≡ over_at (4 * i) (little_of 4 c) l → l' ≡ over_at (i * size w) (little_of (size w) c) l
  unfolding size
  lain_32 e f = let t : i * 4 ≡ 4 * i = omega arith in f ∙ rw (e, t)

pub ruleset laws = (within_8, entry_8, within_16, fits_16, entry_16, within_32, fits_32, entry_32, two, four, put_one, room_second, put_second, room_fourth, put_fourth, lain_8, lain_16, lain_32)
