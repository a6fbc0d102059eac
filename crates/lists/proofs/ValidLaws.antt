-- The bytes of an entry are fine exactly where it is valid: each test is one field. Assumes nothing.
use Prim.Native.Nat.{ℕ, ◌<◌}
use mathlib.Core.Path.{◌≡◌, refl, sym, ◌∙◌}
use mathlib.Core.Bool.{Bool, true, false, not, ◌&&◌, and-eq-true_iff}
use mathlib.Core.List.{List, [], ◌∷◌, ◌++◌, drop_last}
use lib.ListN.{length}
use lib.Dec.{eqb}
use borrow.Author.Tests.{eqb-true, not-true}
use Rattle.text.specs.Pick.{pick}
use Rattle.text.specs.Same.{same}
use Rattle.text.specs.Bytes.{is_empty, ends_in}
use Rattle.text.proofs.SameLaws.{same_not, same_other}
use Rattle.text.proofs.ByteLaws.{empty_some, some_empty, last_back, ends_last, ends_is}
use Rattle.pieces.specs.Pieces.{lacks}
use Rattle.pieces.proofs.CountLaws.{lacks_free, free_lacks}
use Rattle.lists.specs.Judge.{filter_fine, inside_fine, symbol_fine, alt_fine, fine}
use Rattle.lists.specs.Demands.{FilterValid, Inside, AltValid, Valid}
use Rattle.lists.specs.declared.write.Kind.{Kind}
use Rattle.lists.specs.declared.write.Kind.TheVariants as K

-- ---- single tests

some_long : (t : List ℕ) → not (is_empty t) ≡ true → 0 < length t
some_long t e = empty_some t (not-true _ e)

differs : (t u : List ℕ) → not (same t u) ≡ true → t ≡ u → ⊥
differs t u e = same_other t u (not-true _ e)

-- ---- filters

filter_valid : (t : List ℕ) → filter_fine t ≡ true → FilterValid t
unfolding filter_fine
filter_valid t e =
    let a = (and-eq-true_iff (not (is_empty t)) _).0 e in
    let b = (and-eq-true_iff (not (same t (46 ∷ []))) _).0 a.1 in
    let c = (and-eq-true_iff (not (same t (48 ∷ []))) _).0 b.1 in
    record {
      some = some_long t a.0;
      not_dot = differs t (46 ∷ []) b.0;
      not_zero = differs t (48 ∷ []) c.0;
      no_semicolon = lacks_free t c.1;
    }

valid_filter : (t : List ℕ) → FilterValid t → filter_fine t ≡ true
unfolding filter_fine
valid_filter t g = rw (some_empty t g.some, same_not t (46 ∷ []) g.not_dot, same_not t (48 ∷ []) g.not_zero) (free_lacks t g.no_semicolon)

-- ---- symbols

inside_valid : (t : List ℕ) → inside_fine t ≡ true → Inside t
unfolding inside_fine
inside_valid t e =
    let a = (and-eq-true_iff (not (is_empty t)) _).0 e in
    let b = (and-eq-true_iff (lacks 60 t) _).0 a.1 in
    record { some = some_long t a.0; no_open = lacks_free t b.0; no_close = lacks_free t b.1 }

valid_inside : (t : List ℕ) → Inside t → inside_fine t ≡ true
unfolding inside_fine
valid_inside t g = rw (some_empty t g.some, free_lacks t g.no_open) (free_lacks t g.no_close)

-- what stands between `<` and `>` is the inside
symbol_wraps : (t : List ℕ) → symbol_fine (60 ∷ t ++ 62 ∷ []) ≡ inside_fine t
unfolding symbol_fine
symbol_wraps t = rw (ends_last 62 t, last_back t 62)

symbol_valid : (t inside : List ℕ) → symbol_fine t ≡ true → t ≡ 60 ∷ inside ++ 62 ∷ [] → Inside inside
symbol_valid t inside e f = inside_valid inside (sym (symbol_wraps inside) ∙ (rw f at e))

valid_symbol : (t : List ℕ) → ((inside : List ℕ) → t ≡ 60 ∷ inside ++ 62 ∷ [] → Inside inside) → symbol_fine t ≡ true
unfolding symbol_fine
valid_symbol [] h = refl
valid_symbol (b ∷ t) h = by (eqb b 60 && ends_in 62 t) refl
  where
    by : (x : Bool) → (eqb b 60 && ends_in 62 t) ≡ x → pick x (inside_fine (drop_last t)) true ≡ true
    by true q =
        let a = (and-eq-true_iff (eqb b 60) _).0 q in
        let w = ends_is 62 t a.1 in
        let n = eqb-true b 60 a.0 in
        valid_inside (drop_last t) (h (drop_last t) (cc))
    by false q = refl

-- ---- ALT entries

alt_valid : (t : List ℕ) → alt_fine t ≡ true → AltValid t
unfolding alt_fine
alt_valid t e =
    let a = (and-eq-true_iff (not (is_empty t)) _).0 e in
    let b = (and-eq-true_iff (lacks 44 t) _).0 a.1 in
    record { some = some_long t a.0; no_comma = lacks_free t b.0; symbol = λ inside f. symbol_valid t inside b.1 f }

valid_alt : (t : List ℕ) → AltValid t → alt_fine t ≡ true
unfolding alt_fine
valid_alt t g = rw (some_empty t g.some, free_lacks t g.no_comma) (valid_symbol t g.symbol)

-- ---- either

pub fine_valid : (kind : Kind) (t : List ℕ) → fine kind t ≡ true → Valid kind t
unfolding fine
fine_valid K.Filters t e = filter_valid t e
fine_valid K.Alts t e = alt_valid t e

pub valid_fine : (kind : Kind) (t : List ℕ) → Valid kind t → fine kind t ≡ true
unfolding fine
valid_fine K.Filters t g = valid_filter t g
valid_fine K.Alts t g = valid_alt t g
