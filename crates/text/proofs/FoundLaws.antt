-- What the search for white space tells: the text has no characters, or its characters and whether one is white space.
-- Assumes nothing.
use Prim.Native.Nat.{ℕ, zero, suc, ◌<◌, suc-le-suc}
use mathlib.Core.Path.{◌≡◌, refl, sym}
use mathlib.Core.Bool.{Bool, true, false, ◌||◌, false≢true}
use mathlib.Core.List.{List, [], ◌∷◌}
use mathlib.Core.Option.{Option, some, none}
use native.Mathlib.Omega.{arith}
use lib.ListN.{length, get_or}
use Rattle.std.specs.Prelude.{Result, Ok, Err}
use Rattle.text.specs.Pick.{one_if}
use Rattle.text.specs.Answer.{says}
use Rattle.text.specs.Utf8.{chars_of}
use Rattle.text.specs.Space.{code_point, is_space, any_space, spaced_answer, space_answer}
use Rattle.text.specs.Paper.{space_paper}
use Rattle.text.specs.declared.utf8.NotUtf8.{NotUtf8}

-- ---- for each answer

-- the characters of a text, and whether some character is white space
pub record Searched (t : List ℕ) (held : Bool) : Type 0 where
  pub chars : List (List ℕ)
  pub are : chars_of t ≡ some chars
  pub any : any_space chars ≡ held

picked : (b held : Bool) → ◌≡◌ {A = ℕ} (one_if held) (one_if b) → b ≡ held
picked true true e = refl
picked true false e = absurd (omega arith)
picked false true e = absurd (omega arith)
picked false false e = refl

searched : (t : List ℕ) (held : Bool) → says 0 (one_if held ∷ []) ≡ space_answer t → Searched t held
unfolding space_answer spaced_answer
searched t held e = by (chars_of t) refl e
  where
    by : (o : Option (List (List ℕ))) → chars_of t ≡ o → says 0 (one_if held ∷ []) ≡ spaced_answer o → Searched t held
    by none q e = absurd (let z : ◌≡◌ {A = ℕ} 0 5 = cc in omega arith)
    by (some cs) q e = record { chars = cs; are = q; any = picked (any_space cs) held (cc) }

module _ (t : List ℕ) {r : Result Bool NotUtf8} (e : space_paper r ≡ space_answer t) where
  pub found_broken : {no : NotUtf8} → r ≡ Err no → chars_of t ≡ none
  unfolding space_paper space_answer spaced_answer
  found_broken f = by (chars_of t) (rw f at e)
    where
      by : (o : Option (List (List ℕ))) → says 5 [] ≡ spaced_answer o → o ≡ none
      by none e = refl
      by (some cs) e = absurd (let z : ◌≡◌ {A = ℕ} 5 0 = cc in omega arith)

  pub found_held : r ≡ Ok true → Searched t true
  unfolding space_paper
  found_held f = searched t true (rw f at e)

  pub found_free : r ≡ Ok false → Searched t false
  unfolding space_paper
  found_free f = searched t false (rw f at e)

-- ---- none is white space exactly where each is none

neither : (a b : Bool) → (a || b) ≡ false → (a ≡ false) × (b ≡ false)
neither true b e = absurd (false≢true (sym e))
neither false b e = (refl, e)

pub each_free : (cs : List (List ℕ)) → any_space cs ≡ false → (i : ℕ) → i < length cs → is_space (code_point (get_or cs i [])) ≡ false
unfolding any_space
each_free [] e i h = absurd (omega arith)
each_free (c ∷ cs) e zero h = (neither _ (any_space cs) e).0
each_free (c ∷ cs) e (suc i) h = each_free cs (neither (is_space (code_point c)) _ e).1 i (omega arith)

pub free_each : (cs : List (List ℕ)) → ((i : ℕ) → i < length cs → is_space (code_point (get_or cs i [])) ≡ false) → any_space cs ≡ false
unfolding any_space
free_each [] h = refl
free_each (c ∷ cs) h = rw (h 0 (omega arith)) (free_each cs (λ i l. h (suc i) (suc-le-suc l)))
