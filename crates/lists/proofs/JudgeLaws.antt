-- The judges of one entry: each way through the code is the definition at its tests. Assumes nothing.
use Prim.Native.Nat.{ℕ, suc, ◌-◌, ◌<◌, ◌≤◌}
use mathlib.Core.Path.{◌≡◌, refl, sym, ap, ◌∙◌}
use mathlib.Core.Bool.{Bool, true, false, and-false}
use mathlib.Core.List.{List, [], ◌∷◌}
use native.Mathlib.Omega.{arith}
use lib.ListN.{length, get_or, take, drop}
use borrow.Author.Tests.{eq-eqb, ne_eqb}
use Rattle.std.specs.Prelude.{Result, Ok, Err}
use Rattle.text.specs.Space.{space_answer}
use Rattle.text.specs.Paper.{space_paper}
use Rattle.text.specs.declared.utf8.NotUtf8.{NotUtf8}
use Rattle.text.proofs.ByteLaws.{last_take, ends_none, ends_at}
use Rattle.text.proofs.FoundLaws.{found_broken, found_held, found_free}
use Rattle.lists.specs.Judge.{inside_fine, symbol_fine, fine, chars_answer, entry_answer}
use Rattle.lists.specs.Paper.{verdict_paper}
use Rattle.lists.specs.declared.write.Kind.{Kind}
use Rattle.lists.specs.declared.write.Fault.TheVariants as F

-- ---- symbols

last_tail : (b : ℕ) (t : List ℕ) → 0 < length t → get_or (b ∷ t) (length (b ∷ t) - 1) 0 ≡ get_or t (length t - 1) 0
last_tail b t h = let n : suc (length t) - 1 ≡ suc (length t - 1) = omega arith in ap (λ (k : ℕ). get_or (b ∷ t) k 0) n

-- no byte, or one, as `<` alone
pub symbol_short : (t : List ℕ) → length t < 2 → true ≡ symbol_fine t
unfolding symbol_fine
symbol_short [] h = refl
symbol_short (b ∷ []) h = rw (ends_none 62 [] refl, and-false)
symbol_short (b ∷ c ∷ t) h = absurd (omega arith)

pub symbol_plain : (t : List ℕ) → (get_or t 0 0 ≡ 60 → ⊥) → true ≡ symbol_fine t
unfolding symbol_fine
symbol_plain [] n = refl
symbol_plain (b ∷ t) n = rw (ne_eqb b 60 n)

-- `<` alone, and what does not end with `>`
pub symbol_open : (t : List ℕ) → (get_or t (length t - 1) 0 ≡ 62 → ⊥) → true ≡ symbol_fine t
unfolding symbol_fine
symbol_open [] n = refl
symbol_open (b ∷ []) n = rw (ends_none 62 [] refl, and-false)
symbol_open (b ∷ c ∷ t) n =
    rw (ends_at 62 (c ∷ t) (omega arith), ne_eqb _ 62 (λ e. n (last_tail b (c ∷ t) (omega arith) ∙ e)), and-false)

-- the byte that begins it is not the one that ends it
pub symbol_two : (t : List ℕ) → get_or t 0 0 ≡ 60 → get_or t (length t - 1) 0 ≡ 62 → 1 ≤ length t - 1
symbol_two [] o e = absurd (omega arith)
symbol_two (b ∷ []) o e = absurd (omega arith)
symbol_two (b ∷ c ∷ t) o e = omega arith

pub symbol_inside : (t : List ℕ) {r : Bool} → get_or t 0 0 ≡ 60 → get_or t (length t - 1) 0 ≡ 62
    → r ≡ inside_fine (take (length t - 1 - 1) (drop 1 t)) → r ≡ symbol_fine t
unfolding symbol_fine
symbol_inside [] o e f = absurd (omega arith)
symbol_inside (b ∷ t) o e f =
    let m = symbol_two (b ∷ t) o e in
    let k : 0 < length t = omega arith in
    let n : suc (length t) - 1 - 1 ≡ length t - 1 = omega arith in
    rw (eq-eqb b 60 o, ends_at 62 t k, eq-eqb _ 62 (sym (last_tail b t k) ∙ e)) (f ∙ ap inside_fine (ap (λ (m : ℕ). take m t) n ∙ sym (last_take t)))

-- ---- the verdict

module _ (kind : Kind) (t : List ℕ) {r : Result Bool NotUtf8} (e : space_paper r ≡ space_answer t) where
  pub judge_broken : {n : NotUtf8} → r ≡ Err n → verdict_paper kind (Err F.NotUtf8) ≡ entry_answer kind t
  unfolding verdict_paper entry_answer chars_answer
  judge_broken f = rw (found_broken t e f)

  module _ {h : Bool} (f : r ≡ Ok h) where
    pub judge_held : h ≡ true → verdict_paper kind (Err F.Invalid) ≡ entry_answer kind t
    unfolding verdict_paper entry_answer chars_answer
    judge_held q = let s = found_held t e (rw q at f) in rw (s.are, s.any)

    module _ (q : h ≡ false) {b : Bool} (g : b ≡ fine kind t) where
      pub judge_fine : {u : Unit} → b ≡ true → verdict_paper kind (Ok u) ≡ entry_answer kind t
      unfolding verdict_paper entry_answer chars_answer
      judge_fine y = let s = found_free t e (rw q at f) in rw (s.are, s.any, ← g, y)

      pub judge_bad : b ≡ false → verdict_paper kind (Err F.Invalid) ≡ entry_answer kind t
      unfolding verdict_paper entry_answer chars_answer
      judge_bad y = let s = found_free t e (rw q at f) in rw (s.are, s.any, ← g, y)

pub ruleset laws =
    (symbol_short, symbol_plain, symbol_open, symbol_two, symbol_inside, judge_broken, judge_held, judge_fine, judge_bad)
