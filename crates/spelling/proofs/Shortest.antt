-- What is spelled is the one shortest permitted spelling: a permitted one is the text with the first mark or without, and with
-- it the text is a byte longer. Assumes nothing.
use Prim.Native.Nat.{ℕ, ◌<◌, ◌≤◌}
use mathlib.Core.Path.{◌≡◌, refl, sym, ◌∙◌}
use mathlib.Core.Bool.{Bool, true, false, beq}
use mathlib.Core.List.{List, [], ◌∷◌}
use mathlib.Core.Option.{Option, some, none}
use native.Mathlib.Omega.{arith}
use native.Mathlib.Nat.{le_refl}
use lib.ListN.{length}
use Rattle.text.specs.Outcome.{Outcome, WrittenAs}
use Rattle.text.specs.Same.{same}
use Rattle.text.proofs.SameLaws.{same_is, same_other}
use Rattle.allele.specs.Means.{all_phased}
use Rattle.allele.specs.declared.allele.Allele.{Allele}
use Rattle.spelling.specs.Spelling.{list_text, text, shaped, spell}
use Rattle.allele.specs.Row.{first_unsound}
use Rattle.spelling.specs.Permitted.{Permitted, bare, marked, TheShortest}
use Rattle.spelling.specs.Demands.{Shortest, Written}
use Rattle.allele.proofs.RowLaws.{unsound_more, sound_parts}
use Rattle.spelling.proofs.SpellLaws.{list_bare, list_marked, marked_longer, spell_none, spell_sound, spell_bad}
use Rattle.spelling.proofs.PermittedLaws.{plainly_only, plainly_has, plainly_sound, following_only, following_has, following_sound}

-- ---- the one shortest text of those with a property

-- another is it, or is longer
data Beside (t u : List ℕ) : Type 0 where
  equal : u ≡ t → Beside t u
  longer : length t < length u → Beside t u

beside : {Q : List ℕ → Type 0} {t u : List ℕ} → TheShortest Q t → Q u → Beside t u
beside {t = t} {u} p q = by (same u t) refl
  where
    by : (b : Bool) → same u t ≡ b → Beside t u
    by true e = equal (same_is u t e)
    by false e = longer (p.least u q (same_other u t e))

pub none_shorter : {Q : List ℕ → Type 0} {t u : List ℕ} → TheShortest Q t → Q u → length t ≤ length u
none_shorter p q = elim (beside p q) [ equal e ↦ rw e (le_refl _) | longer l ↦ omega arith ]

pub one_text_lem : {Q : List ℕ → Type 0} {t u : List ℕ} → TheShortest Q t → TheShortest Q u → t ≡ u
one_text_lem p q = elim (beside p q.has) [ equal e ↦ sym e | longer l ↦ let n = none_shorter q p.has in absurd (omega arith) ]

-- what is written is one text in the sense of `text`, whose laws of outcomes so hold of it
abbrev pub as_written : {major minor : ℕ} {as' : List Allele} {out : List ℕ} {at : ℕ} {o : Outcome} → Written major minor as' out at o → WrittenAs (Shortest major minor as') out at o
as_written w = record { text = w.text; is = w.shortest; count = w.count; fits = w.fits; bytes = w.bytes }

-- ---- a permitted spelling is one of two texts

pub data OneOfTwo (late : Bool) (a : Allele) (as' : List Allele) (u : List ℕ) : Type 0 where
  is_bare : a.phased ≡ all_phased as' → u ≡ list_text true (a ∷ as') → OneOfTwo late a as' u
  is_marked : late ≡ true → u ≡ list_text false (a ∷ as') → OneOfTwo late a as' u

pub one_of_two : {late : Bool} {a : Allele} {as' : List Allele} {u : List ℕ} → Permitted late (a ∷ as') u → OneOfTwo late a as' u
one_of_two {a = a} {as'} (bare e p f) = is_bare e (rw (plainly_only p, following_only f) (sym (list_bare a as')))
one_of_two {a = a} {as'} (marked l m p f) = is_marked l (rw (m, plainly_only p, following_only f) (sym (list_marked a as')))

-- ---- two phasings are equal or not

same_yes : (p q : Bool) → beq p q ≡ true → p ≡ q
same_yes true true e = refl
same_yes true false e = sym e
same_yes false true e = e
same_yes false false e = refl

pub same_no : (p q : Bool) → beq p q ≡ false → p ≡ q → ⊥
same_no true true e f = let z : ◌≡◌ {A = ℕ} 0 1 = cc in omega arith
same_no true false e f = let z : ◌≡◌ {A = ℕ} 0 1 = cc in omega arith
same_no false true e f = let z : ◌≡◌ {A = ℕ} 0 1 = cc in omega arith
same_no false false e f = let z : ◌≡◌ {A = ℕ} 0 1 = cc in omega arith

-- ---- the shortest of the two

module _ (late : Bool) (a : Allele) (as' : List Allele) (h : first_unsound 0 (a ∷ as') ≡ none) where
  pub shortest_bare : a.phased ≡ all_phased as' → TheShortest (Permitted late (a ∷ as')) (list_text true (a ∷ as'))
  shortest_bare e =
      let s = sound_parts 0 a as' h in
      record { has = rw (list_bare a as') (bare e (plainly_has a s.0) (following_has 1 as' s.1)); least = λ u p n. by (one_of_two p) n }
    where
      by : {u : List ℕ} → OneOfTwo late a as' u → (u ≡ list_text true (a ∷ as') → ⊥) → length (list_text true (a ∷ as')) < length u
      by (is_bare e f) n = absurd (n f)
      by (is_marked l f) n = let k = marked_longer a as' in rw f (omega arith)

  shortest_marked : late ≡ true → (a.phased ≡ all_phased as' → ⊥) → TheShortest (Permitted late (a ∷ as')) (list_text false (a ∷ as'))
  shortest_marked l d =
      let s = sound_parts 0 a as' h in
      record { has = rw (list_marked a as') (marked l refl (plainly_has a s.0) (following_has 1 as' s.1)); least = λ u p n. by (one_of_two p) n }
    where
      by : {u : List ℕ} → OneOfTwo late a as' u → (u ≡ list_text false (a ∷ as') → ⊥) → length (list_text false (a ∷ as')) < length u
      by (is_bare e f) n = absurd (d e)
      by (is_marked l f) n = absurd (n f)

pub spelled_shortest : (late : Bool) (as' : List Allele) (t : List ℕ) → spell late as' ≡ text t → TheShortest (Permitted late as') t
unfolding shaped
spelled_shortest late [] t e = let n = spell_none late in let z : ◌≡◌ {A = ℕ} 0 1 = cc in absurd (omega arith)
spelled_shortest late (a ∷ as') t e = judged_by (first_unsound 0 (a ∷ as')) refl
  where
    shaped_by : first_unsound 0 (a ∷ as') ≡ none → (q : Bool) → beq a.phased (all_phased as') ≡ q → (late : Bool) → shaped q late (a ∷ as') ≡ text t
        → TheShortest (Permitted late (a ∷ as')) t
    shaped_by h true s late e = let z : t ≡ list_text true (a ∷ as') = cc in rw z (shortest_bare late a as' h (same_yes _ _ s))
    shaped_by h false s true e = let z : t ≡ list_text false (a ∷ as') = cc in rw z (shortest_marked true a as' h refl (same_no _ _ s))
    shaped_by h false s false e = let z : ◌≡◌ {A = ℕ} 0 1 = cc in absurd (omega arith)

    judged_by : (o : Option ℕ) → first_unsound 0 (a ∷ as') ≡ o → TheShortest (Permitted late (a ∷ as')) t
    judged_by (some k) h = let n = spell_bad late a as' h in let z : ◌≡◌ {A = ℕ} 0 1 = cc in absurd (omega arith)
    judged_by none h = shaped_by h (beq a.phased (all_phased as')) refl late (sym (spell_sound late a as' h) ∙ e)

-- ---- a list with a permitted spelling is spelled

pub permitted_sound : {late : Bool} {as' : List Allele} {u : List ℕ} → Permitted late as' u → first_unsound 0 as' ≡ none
permitted_sound (bare e p f) = unsound_more 0 _ _ (plainly_sound p) ∙ following_sound 1 f
permitted_sound (marked l m p f) = unsound_more 0 _ _ (plainly_sound p) ∙ following_sound 1 f

pub every_spelling : (late : Bool) (as' : List Allele) (u : List ℕ) → Permitted late as' u → (t : List ℕ) × (spell late as' ≡ text t)
unfolding shaped
every_spelling late [] u p = absurd (elim p [ ])
every_spelling late (a ∷ as') u p =
    let g = by (beq a.phased (all_phased as')) refl late (one_of_two p) in
    (g.0, spell_sound late a as' (permitted_sound p) ∙ g.1)
  where
    by : (q : Bool) → beq a.phased (all_phased as') ≡ q → (late : Bool) → OneOfTwo late a as' u → (t : List ℕ) × (shaped q late (a ∷ as') ≡ text t)
    by true s late w = (list_text true (a ∷ as'), refl)
    by false s true w = (list_text false (a ∷ as'), refl)
    by false s false (is_bare e f) = absurd (same_no _ _ s e)
    by false s false (is_marked l f) = let z : ◌≡◌ {A = ℕ} 0 1 = cc in absurd (omega arith)
