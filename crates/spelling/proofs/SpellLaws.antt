-- The texts of alleles and of lists, which of them have one, and from which file format on a first mark is permitted. Assumes nothing.
use Prim.Native.Nat.{ℕ, ◌+◌, ◌^◌, ◌≤◌, ◌<◌}
use mathlib.Core.Path.{◌≡◌, refl, sym, ap, ◌∙◌}
use mathlib.Core.Bool.{Bool, true, false, beq}
use mathlib.Core.List.{List, [], ◌∷◌, ◌++◌}
use mathlib.Core.Option.{some, none}
use native.Mathlib.Omega.{arith}
use native.Mathlib.Numerals.{add-one}
use lib.ListN.{length, length-append}
use lib.Dec.{leb}
use borrow.Author.Tests.{lt-ltb, le-ltb, eq-eqb, ne_eqb}
use Rattle.decimal.specs.Shortest.{shortest}
use Rattle.decimal.proofs.Shortest.{length_20}
use Rattle.allele.specs.Means.{mark_byte, all_phased}
use Rattle.allele.specs.declared.allele.Allele.{Allele}
use Rattle.spelling.specs.Spelling.{body_text, allele_text, list_text, bad, empty, shaped, judged, spell}
use Rattle.spelling.specs.Permitted.{from44}
use Rattle.allele.specs.Row.{first_unsound}

-- ---- one allele

module _ (a : Allele) where
  pub body_dot : a.missing ≡ true → body_text a ≡ 46 ∷ []
  unfolding body_text
  body_dot e = rw e

  pub body_number : a.missing ≡ false → body_text a ≡ shortest a.number
  unfolding body_text
  body_number e = rw e

  pub dot_length : a.missing ≡ true → 1 ≡ length (body_text a)
  dot_length e = rw (body_dot e)

  pub number_length : {r : ℕ} → a.missing ≡ false → r ≡ length (shortest a.number) → r ≡ length (body_text a)
  number_length e f = rw (body_number e) f

  pub bare_text : allele_text true a ≡ body_text a
  unfolding allele_text
  bare_text = refl

  pub marked_text : allele_text false a ≡ mark_byte a.phased ∷ body_text a
  unfolding allele_text
  marked_text = refl

  pub marked_length : length (allele_text false a) ≡ length (body_text a) + 1
  marked_length = rw marked_text (sym (add-one _))

pub number_20 : (n : ℕ) {r : ℕ} → r ≡ length (shortest n) → n < 2 ^ 64 → r ≤ 20
number_20 n e h = let b = length_20 n h in omega arith

-- ---- a list

pub list_none : (bare : Bool) → list_text bare [] ≡ []
unfolding list_text
list_none bare = refl

pub list_more : (bare : Bool) (a : Allele) (as' : List Allele) → list_text bare (a ∷ as') ≡ allele_text bare a ++ list_text false as'
unfolding list_text
list_more bare a as' = refl

module _ (a : Allele) (as' : List Allele) where
  pub list_bare : list_text true (a ∷ as') ≡ body_text a ++ list_text false as'
  list_bare = rw (list_more true a as', bare_text a)

  pub list_marked : list_text false (a ∷ as') ≡ mark_byte a.phased ∷ body_text a ++ list_text false as'
  list_marked = list_more false a as' ∙ rw (marked_text a)

pub list_length : (bare : Bool) (a : Allele) (as' : List Allele) → length (list_text bare (a ∷ as')) ≡ length (allele_text bare a) + length (list_text false as')
list_length bare a as' = rw list_more (length-append (allele_text bare a) (list_text false as'))

-- the first mark takes a byte
pub marked_longer : (a : Allele) (as' : List Allele) → length (list_text false (a ∷ as')) ≡ length (list_text true (a ∷ as')) + 1
marked_longer a as' =
    let m = list_length false a as' in
    let b = list_length true a as' in
    let e = marked_length a in
    let t : length (allele_text true a) ≡ length (body_text a) = ap length (bare_text a) in
    omega arith

-- ---- which lists have a text

pub spell_none : (late : Bool) → spell late [] ≡ empty
unfolding spell
spell_none late = refl

module _ (late : Bool) (a : Allele) (as' : List Allele) where
  pub spell_sound : first_unsound 0 (a ∷ as') ≡ none → spell late (a ∷ as') ≡ shaped (beq a.phased (all_phased as')) late (a ∷ as')
  unfolding spell judged
  spell_sound e = rw e

  pub spell_bad : {k : ℕ} → first_unsound 0 (a ∷ as') ≡ some k → spell late (a ∷ as') ≡ bad k
  unfolding spell judged
  spell_bad e = rw e

-- ---- the file format

module _ (major minor : ℕ) where
  pub late_major : 4 < major → true ≡ from44 major minor
  unfolding from44
  late_major h = rw (lt-ltb _ _ h)

  pub late_minor : major ≤ 4 → major ≡ 4 → leb 4 minor ≡ from44 major minor
  unfolding from44
  late_minor h e = rw (le-ltb _ _ h, eq-eqb _ _ e)

  pub late_not : major ≤ 4 → (major ≡ 4 → ⊥) → false ≡ from44 major minor
  unfolding from44
  late_not h e = rw (le-ltb _ _ h, ne_eqb _ _ e)

pub ruleset laws = (dot_length, number_length, number_20, late_major, late_minor, late_not)
