-- Telling value by value: the values left to put lie over what stands, behind their count. Assumes nothing.
use Prim.Native.Nat.{ℕ, ◌+◌, ◌<◌, ◌≤◌}
use mathlib.Core.Path.{◌≡◌, refl, ap, ◌∙◌}
use mathlib.Core.List.{List, ◌∷◌}
use native.Mathlib.Omega.{arith}
use native.Mathlib.Numerals.{add-one}
use lib.ListN.{length, get_or, drop, set, length-set, drop_of_length-le}
use lib.Seq.{sets, drop-cons}
use Rattle.text.specs.Answer.{says}
use Rattle.text.proofs.Lists.{sets_over}
use Rattle.exports.specs.Told.{Tells}

-- i values of vs are put behind the first element, and l stands where l₀ stood
pub record Putting (vs l₀ l : List ℕ) (i : ℕ) : Type 0 where
  pub len : length l ≡ length l₀
  pub fits : length vs < length l₀
  pub within : i ≤ length vs
  pub same : sets l (i + 1) (drop i vs) ≡ sets l₀ 1 vs

pub put_first : (vs l : List ℕ) (n : ℕ) → length vs < length l → Putting vs (set l 0 n) (set l 0 n) 0
put_first vs l n h = record { len = refl; fits = simp length-set h; within = omega arith; same = refl }

pub put_turn : {vs l₀ l : List ℕ} {i v : ℕ} → Putting vs l₀ l i → i < length vs → v ≡ get_or vs i 0 → Putting vs l₀ (set l (i + 1) v) (i + 1)
put_turn {vs} {l₀} {l} {i} {v} g h e =
    record {
      len = simp length-set g.len;
      fits = g.fits;
      within = omega arith;
      same = rw (e, add-one (i + 1), add-one i) (rw (drop-cons vs i 0 h, add-one i) at g.same);
    }

pub put_past : {vs l l' : List ℕ} {i n number : ℕ} → Putting vs (set l 0 n) l' i → length vs ≤ i → n ≡ length vs → Tells (says number vs) l number l'
put_past {vs} {l} {l'} {i} {n} g h e =
    let m : length vs < length l = simp length-set at g.fits in
    record {
      number = refl;
      values = (rw (drop_of_length-le vs h) at g.same) ∙ ap (λ (a : ℕ). sets (set l 0 a) 1 vs) e ∙ sets_over (length vs ∷ vs) l (omega arith);
    }

pub ruleset laws = (put_first, put_turn, put_past)
