-- The first of two bytes: each way through the search, and what its place tells a caller. Assumes nothing.
use Prim.Native.Nat.{ℕ, ◌+◌, ◌-◌, ◌<◌, ◌≤◌, max}
use mathlib.Core.Path.{◌≡◌, refl, ◌∙◌}
use mathlib.Core.Bool.{Bool, true, false}
use mathlib.Core.List.{List}
use native.Mathlib.Omega.{arith}
use lib.ListN.{length, get_or, drop, drop_of_length-le}
use lib.Seq.{drop-drop}
use lib.Dec.{eqb}
use native.Mathlib.Decide.{dec_le, dec_lt}
use borrow.Author.Tests.{lt-ltb, le-ltb, eq-eqb, ne_eqb, eqb-true}
use Rattle.text.proofs.Lists.{here}
use Rattle.pieces.specs.Inner.{near_end, Quiet, quiet_length, Seeking}
use Rattle.pieces.proofs.BlockLaws.{quiet_cons, quiet_none_left, quiet_past, quiet_to, seek_start}

-- ---- the near end

module _ (from n : ℕ) where
  pub near_short : n - from < 32 → n ≡ near_end from n
  unfolding near_end
  near_short h = rw (lt-ltb _ _ h)

  pub near_long : 32 ≤ n - from → from + 32 ≡ near_end from n
  unfolding near_end
  near_long h = rw (le-ltb _ _ h)

-- a place before it is one of the text
pub near_within : (from n : ℕ) {near i : ℕ} → near ≡ near_end from n → i < near → i < n
near_within from n e l =
    elim (dec_lt (n - from) 32) [
      | yes h ↦ let k = near_short from n h in omega arith
      | no h ↦ let k = near_long from n (omega arith) in omega arith
    ]

-- nor does it lie before the place
near_after : (from n : ℕ) {near : ℕ} → from ≤ n → near ≡ near_end from n → from ≤ near
near_after from n h e =
    elim (dec_lt (n - from) 32) [
      | yes l ↦ let k = near_short from n l in omega arith
      | no l ↦ let k = near_long from n (omega arith) in omega arith
    ]

pub ruleset near_laws = (near_short, near_long)

-- ---- each way through the search

module _ {a b : ℕ} {s : List ℕ} {from i : ℕ} (g : Seeking a b s from i) where
  pub seek_first : i < length s → get_or s i 0 ≡ a → i ≡ from + quiet_length a b (drop from s)
  seek_first h e = omega (arith, rw (here s i h, quiet_cons, eq-eqb _ _ e) at g.same)

  pub seek_second : i < length s → (get_or s i 0 ≡ a → ⊥) → get_or s i 0 ≡ b → i ≡ from + quiet_length a b (drop from s)
  seek_second h n e = omega (arith, rw (here s i h, quiet_cons, ne_eqb _ _ n, eq-eqb _ _ e) at g.same)

  pub seek_turn : i < length s → (get_or s i 0 ≡ a → ⊥) → (get_or s i 0 ≡ b → ⊥) → Seeking a b s from (i + 1)
  seek_turn h n m = record { same = omega (arith, rw (here s i h, quiet_cons, ne_eqb _ _ n, ne_eqb _ _ m) at g.same) }

  pub seek_past : length s ≤ i → i ≡ from + quiet_length a b (drop from s)
  seek_past h = omega (arith, rw (drop_of_length-le s h, quiet_none_left) at g.same)

  -- the rest of the search, from i on
  pub seek_rest : {r : ℕ} → r ≡ i + quiet_length a b (drop i s) → r ≡ from + quiet_length a b (drop from s)
  seek_rest e = e ∙ g.same

-- the loop from a place `near` on, up to the text's end where that is further
pub seek_end : {a b : ℕ} {s : List ℕ} {from near i r : ℕ} → Seeking a b s from near → Seeking a b s from i → near ≤ i → length s ≤ i
    → (near ≤ length s → i ≤ length s) → r ≡ max near (length s) → r ≡ from + quiet_length a b (drop from s)
seek_end {s = s} {near = near} {i = i} {r = r} f g h l m e =
    elim (dec_le near (length s)) [
      | yes k ↦ let j = m k in let z : r ≡ i = omega arith in z ∙ seek_past g l
      | no k ↦ let z : r ≡ near = omega arith in z ∙ seek_past f (omega arith)
    ]

-- the loop over the first bytes, and then the rest of the search
pub seek_near : {a b : ℕ} {s : List ℕ} {from near i r : ℕ} → from ≤ length s → near ≡ near_end from (length s) → Seeking a b s from i → near ≤ i
    → (from ≤ near → i ≤ near) → r ≡ near + quiet_length a b (drop near s) → r ≡ from + quiet_length a b (drop from s)
seek_near {s = s} {from = from} {near = near} {i = i} h e g l m f =
    let w = m (near_after from (length s) h e) in
    let z : near ≡ i = omega arith in
    seek_rest g (rw z at f)

-- ---- for callers

module _ (a b : ℕ) (s : List ℕ) (from : ℕ) {r : ℕ} (h : from ≤ length s) (e : r ≡ from + quiet_length a b (drop from s)) where
  -- neither stands before the place
  pub either_quiet : Quiet a b s from r
  either_quiet = quiet_to h (omega arith) (omega arith)

  pub either_within : r ≤ length s
  either_within = either_quiet.within

  -- at a place of the text one of the two stands
  pub either_second : r < length s → (get_or s r 0 ≡ a → ⊥) → get_or s r 0 ≡ b
  either_second l n = by (eqb (get_or s r 0) b) refl
    where
      none : quiet_length a b (drop r s) ≡ 0
      none =
          let p = quiet_past a b (drop from s) (quiet_length a b (drop from s)) (omega arith) in
          rw (e, ← drop-drop (quiet_length a b (drop from s)) from s, p) (omega arith)

      by : (t : Bool) → eqb (get_or s r 0) b ≡ t → get_or s r 0 ≡ b
      by true f = eqb-true _ _ f
      by false f = absurd (omega (arith, rw (here s r l, quiet_cons, ne_eqb _ _ n, f) at none))

pub ruleset laws = (seek_start, seek_first, seek_second, seek_turn, seek_past, seek_rest, near_within, seek_end, seek_near)
