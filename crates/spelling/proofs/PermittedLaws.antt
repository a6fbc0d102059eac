-- The text of an allele, and of the alleles after the first, is the only permitted one: by cases and by induction. Assumes
-- nothing.
use Prim.Native.Nat.{ℕ, ◌+◌}
use mathlib.Core.Path.{◌≡◌, refl, sym, ◌∙◌}
use mathlib.Core.Bool.{Bool, true, false}
use mathlib.Core.List.{List, [], ◌∷◌}
use mathlib.Core.Option.{none}
use borrow.Author.Tests.{eqb-true, eq-eqb}
use Rattle.decimal.proofs.Lead.{plain_only, shortest_plain}
use Rattle.allele.specs.declared.allele.Allele.{Allele}
use Rattle.spelling.specs.Spelling.{body_text, list_text}
use Rattle.allele.specs.Row.{is_sound, first_unsound}
use Rattle.spelling.specs.Permitted as P
use Rattle.spelling.specs.Permitted.{Plainly, dot, number, Following, more}
use Rattle.allele.proofs.RowLaws.{sound_missing, sound_there, unsound_none, unsound_more, sound_parts}
use Rattle.spelling.proofs.SpellLaws.{body_dot, body_number, list_none, list_marked}

-- ---- one allele

pub plainly_only : {a : Allele} {s : List ℕ} → Plainly a s → s ≡ body_text a
plainly_only (dot m n) = sym (body_dot _ m)
plainly_only (number m p) = plain_only _ _ p ∙ sym (body_number _ m)

pub plainly_has : (a : Allele) → is_sound a ≡ true → Plainly a (body_text a)
plainly_has a h = by a.missing refl
  where
    by : (m : Bool) → a.missing ≡ m → Plainly a (body_text a)
    by true e = rw (body_dot a e) (dot e (eqb-true a.number 0 (sound_missing a e ∙ h)))
    by false e = rw (body_number a e) (number e (shortest_plain a.number))

pub plainly_sound : {a : Allele} {s : List ℕ} → Plainly a s → is_sound a ≡ true
plainly_sound (dot m n) = sym (sound_missing _ m) ∙ eq-eqb _ 0 n
plainly_sound (number m p) = sym (sound_there _ m)

-- ---- the alleles after the first

pub following_only : {as' : List Allele} {t : List ℕ} → Following as' t → t ≡ list_text false as'
following_only P.none = sym (list_none false)
following_only (more {a = a} {as'} m p f) = rw (m, plainly_only p, following_only f) (sym (list_marked a as'))

pub following_has : (k : ℕ) (as' : List Allele) → first_unsound k as' ≡ none → Following as' (list_text false as')
following_has k [] e = rw (list_none false) P.none
following_has k (a ∷ as') e =
    let h = sound_parts k a as' e in
    rw (list_marked a as')
    (more refl (plainly_has a h.0) (following_has (k + 1) as' h.1))

pub following_sound : (k : ℕ) {as' : List Allele} {t : List ℕ} → Following as' t → first_unsound k as' ≡ none
following_sound k P.none = unsound_none k
following_sound k (more m p f) = unsound_more k _ _ (plainly_sound p) ∙ following_sound (k + 1) f
