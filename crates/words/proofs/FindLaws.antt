-- The first of one byte: a word without a mark is passed, and else its lowest mark is the place. Assumes nothing.
use Prim.Native.Nat.{ℕ, suc, ◌+◌, ◌-◌, ◌/◌, ◌<◌, ◌≤◌}
use mathlib.Core.Path.{◌≡◌, refl, sym, ap, ◌∙◌}
use mathlib.Core.List.{List, [], ◌∷◌, ◌++◌}
use native.Mathlib.Omega.{arith}
use native.Mathlib.Decide.{ℕ_discrete, dec_le}
use native.Mathlib.Nat.{zero-add}
use lib.ListN.{length, take, drop, length-drop, length-take, take-append-drop}
use lib.Seq.{length-take-le, drop-drop, take-add, take_at}
use lib.Count.{count_trailing_zeros, trailing_le}
use borrow.Author.Tests.{eq-eqb, ne_eqb}
use Rattle.pieces.specs.Inner.{near_end, quiet_length, Seeking}
use Rattle.pieces.proofs.BlockLaws.{quiet_cons, seek_start}
use Rattle.pieces.proofs.EitherLaws.{near_short, near_long, seek_past, seek_rest}
use Rattle.words.specs.Word.{marks_of}
use Rattle.words.proofs.WordLaws.{zeros_byte}

-- ---- a text that starts with the bytes

past_none : (b : ℕ) (l s : List ℕ) → marks_of b l ≡ 0 → quiet_length b b (l ++ s) ≡ length l + quiet_length b b s
unfolding marks_of
past_none b [] s h = sym (zero-add _)
past_none b (x ∷ l) s h = by (ℕ_discrete x b) (past_none b l s)
  where
    by : Dec (x ≡ b) → (marks_of b l ≡ 0 → quiet_length b b (l ++ s) ≡ length l + quiet_length b b s) → quiet_length b b (x ∷ l ++ s) ≡ suc (length l) + quiet_length b b s
    by (yes e) r = absurd (omega (arith, rw (eq-eqb x b e) at h))
    by (no n) r = rw (quiet_cons, ne_eqb x b n) (omega (arith, r (omega (arith, rw (ne_eqb x b n) at h))))

at_some : (b : ℕ) (l s : List ℕ) → (marks_of b l ≡ 0 → ⊥) → quiet_length b b (l ++ s) ≡ quiet_length b b l
unfolding marks_of
at_some b [] s h = absurd (h refl)
at_some b (x ∷ l) s h = by (ℕ_discrete x b) (at_some b l s)
  where
    by : Dec (x ≡ b) → ((marks_of b l ≡ 0 → ⊥) → quiet_length b b (l ++ s) ≡ quiet_length b b l) → quiet_length b b (x ∷ l ++ s) ≡ quiet_length b b (x ∷ l)
    by (yes e) r = rw (quiet_cons b b x (l ++ s), quiet_cons b b x l, eq-eqb x b e)
    by (no n) r = rw (quiet_cons b b x (l ++ s), quiet_cons b b x l, ne_eqb x b n, r (λ z. h (rw (z, ne_eqb x b n))))

-- ---- the loop over words

pub find_beyond : (b : ℕ) (s : List ℕ) (from : ℕ) → length s < from → from ≡ from + quiet_length b b (drop from s)
find_beyond b s from h = seek_past seek_start (omega arith)

-- the first b from i on is the first from `from` on
pub record Nearing (b : ℕ) (s : List ℕ) (from near i : ℕ) : Type 0 where
  pub short : i ≤ near
  pub fits : near ≤ length s
  pub seeks : Seeking b b s from i

pub near_first : {b : ℕ} {s : List ℕ} {from near : ℕ} → from ≤ length s → near ≡ near_end from (length s) → Nearing b s from near from
near_first {s = s} {from = from} h e =
    elim (dec_le 32 (length s - from)) [
      | yes l ↦ let k = near_long from (length s) l in record { short = omega arith; fits = omega arith; seeks = seek_start }
      | no l ↦ let k = near_short from (length s) (omega arith) in record { short = omega arith; fits = omega arith; seeks = seek_start }
    ]

module _ {b : ℕ} {s : List ℕ} {from near i : ℕ} (g : Nearing b s from near i) where
  -- the next eight bytes, and those behind them
  module _ {w : List ℕ} {m : ℕ} (n : ℕ) (c : w ≡ take 8 (take (near - i) (drop i s))) (r : n + 8 ≡ length (take (near - i) (drop i s))) (e : m ≡ marks_of b w) where
    pub word_fits : i + 8 ≤ near
    word_fits = let l = length-take (near - i) (drop i s) in omega arith

    word_is : w ≡ take 8 (drop i s)
    word_is =
        let d = length-drop i s in
        let f = word_fits in
        let k = g.fits in
        let z : 8 + (near - i - 8) ≡ near - i = omega arith in
        c ∙ ap (λ (j : ℕ). take 8 (take j (drop i s))) (sym z)
        ∙ ap (take 8) (take-add 8 (near - i - 8) (drop i s))
        ∙ take_at (take 8 (drop i s)) _ 8 (length-take-le 8 (drop i s) (omega arith))

    split_word : drop i s ≡ w ++ drop (i + 8) s
    split_word = rw (word_is, ← drop-drop 8 i s) (sym (take-append-drop 8 (drop i s)))

    word_length : length w ≡ 8
    word_length =
        let d = length-drop i s in
        let f = word_fits in
        let k = g.fits in
        rw word_is (length-take-le 8 (drop i s) (omega arith))

    pub word_none : m ≡ 0 → Nearing b s from near (i + 8)
    word_none z =
        let q = past_none b w (drop (i + 8) s) (sym e ∙ z) in
        let l = word_length in
        record { short = word_fits; fits = g.fits; seeks = record { same = omega (arith, g.seeks.same, ap (quiet_length b b) split_word) } }

    pub word_within : {k : ℕ} → k ≡ count_trailing_zeros 64 m / 8 → i + k ≤ length s
    word_within f = let l = word_fits in let k = g.fits in omega (arith, trailing_le 64 m)

    pub word_some : {k : ℕ} → (m ≡ 0 → ⊥) → k ≡ count_trailing_zeros 64 m / 8 → i + k ≡ from + quiet_length b b (drop from s)
    word_some z f =
        let q = at_some b w (drop (i + 8) s) (λ y. z (e ∙ y)) in
        let k = rw (word_length, ← e) at (zeros_byte b w) in
        omega (arith, g.seeks.same, ap (quiet_length b b) split_word)

  pub near_past : {r : ℕ} → r ≡ i + quiet_length b b (drop i s) → r ≡ from + quiet_length b b (drop from s)
  near_past e = seek_rest g.seeks e

pub ruleset laws = (find_beyond, near_first)
