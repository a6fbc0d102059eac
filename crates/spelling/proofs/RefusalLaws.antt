-- A list is spelled, or is one that has no spelling, and then what is spelled says why: by its first unsound allele, then by its first
-- phasing. Assumes nothing.
use Prim.Native.Nat.{ℕ}
use mathlib.Core.Path.{◌≡◌, refl, sym, ◌∙◌}
use mathlib.Core.Bool.{Bool, true, false, beq, false≢true}
use mathlib.Core.List.{List, [], ◌∷◌}
use mathlib.Core.Option.{Option, some, none}
use Rattle.text.specs.Answer.{Answer, says}
use Rattle.allele.specs.Means.{all_phased}
use Rattle.allele.specs.Row.{first_unsound}
use Rattle.allele.specs.declared.allele.Allele.{Allele}
use Rattle.allele.proofs.RowLaws.{unsound_first, first_unsound_lem, none_unsound, sound_first}
use Rattle.spelling.specs.Spelling.{list_text, text, shaped, spell}
use Rattle.spelling.specs.Permitted.{Permitted}
use Rattle.spelling.specs.Write.{spelled_answer}
use Rattle.spelling.specs.Demands as D
use Rattle.spelling.specs.Demands.{Unsound, Unspelled}
use Rattle.spelling.proofs.SpellLaws.{spell_none, spell_bad, spell_sound}
use Rattle.spelling.proofs.Shortest.{OneOfTwo, is_bare, is_marked, one_of_two, same_no, permitted_sound}

-- ---- a list that is spelled, or has no spelling

pub data Judged (late : Bool) (as' : List Allele) : Type 0 where
  is_spelled : (t : List ℕ) → spell late as' ≡ text t → Judged late as'
  is_not : {a : Answer} → Unspelled late as' a → Judged late as'

pub judged : (late : Bool) (as' : List Allele) → Judged late as'
unfolding shaped
judged late [] = is_not D.empty
judged late (a ∷ as') = unsound_by (first_unsound 0 (a ∷ as')) refl
  where
    shaped_by : first_unsound 0 (a ∷ as') ≡ none → (q : Bool) → beq a.phased (all_phased as') ≡ q → (late : Bool) → Judged late (a ∷ as')
    shaped_by h true s late = is_spelled (list_text true (a ∷ as')) (spell_sound late a as' h ∙ rw s)
    shaped_by h false s true = is_spelled (list_text false (a ∷ as')) (spell_sound true a as' h ∙ rw s)
    shaped_by h false s false = is_not (D.phasing refl (none_unsound (a ∷ as') h) (same_no _ _ s))

    unsound_by : (o : Option ℕ) → first_unsound 0 (a ∷ as') ≡ o → Judged late (a ∷ as')
    unsound_by (some k) h = is_not (D.bad (first_unsound_lem (a ∷ as') h))
    unsound_by none h = shaped_by h (beq a.phased (all_phased as')) refl late

-- ---- one that has no spelling

differ : (p q : Bool) → (p ≡ q → ⊥) → beq p q ≡ false
differ true true n = absurd (n refl)
differ true false n = refl
differ false true n = refl
differ false false n = absurd (n refl)

module _ {late : Bool} where
  pub unspelled_answer : {as' : List Allele} {a : Answer} → Unspelled late as' a → (l : List ℕ) → spelled_answer (spell late as') l ≡ a
  unfolding spelled_answer shaped
  unspelled_answer D.empty l = rw (spell_none late)
  unspelled_answer (D.bad {as'} u) l = by as' u
    where
      by : (as' : List Allele) {k : ℕ} → Unsound as' k → spelled_answer (spell late as') l ≡ says 12 (k ∷ [])
      by [] u = absurd (elim u [ ])
      by (a ∷ as') {k} u = rw (spell_bad late a as' (unsound_first (a ∷ as') u))
  unspelled_answer (D.phasing {a} {as'} e n d) l = rw (spell_sound late a as' (sound_first (a ∷ as') n), differ _ _ d, e)

  pub unspelled_none : {as' : List Allele} {a : Answer} {t : List ℕ} → Unspelled late as' a → Permitted late as' t → ⊥
  unspelled_none D.empty p = elim p [ ]
  unspelled_none (D.bad u) p = none_unsound _ (permitted_sound p) _ u
  unspelled_none (D.phasing {a} {as'} e n d) p = by (one_of_two p)
    where
      by : {t : List ℕ} → OneOfTwo late a as' t → ⊥
      by (is_bare f g) = d f
      by (is_marked f g) = false≢true (sym e ∙ f)
