-- Which filters and ALT entries are valid (docs/RULES.md, "Filters and ALT"). Assumes nothing.
use Rattle.std.specs.Prelude.{ℕ, Bool, true, not, ◌&&◌, eqb}
use mathlib.Core.List.{List, [], ◌∷◌, drop_last}
use Rattle.std.proofs.Math.Option.{Option, some, none}
use Rattle.text.specs.Pick.{pick}
use Rattle.text.specs.Answer.{Answer, says}
use Rattle.text.specs.Same.{same}
use Rattle.text.specs.Bytes.{is_empty, ends_in}
use Rattle.text.specs.Utf8.{chars_of}
use Rattle.text.specs.Space.{any_space}
use Rattle.pieces.specs.Pieces.{lacks}
use Rattle.lists.specs.Kind.{invalid_of}
use Rattle.lists.specs.declared.write.Kind.{Kind}
use Rattle.lists.specs.declared.write.Kind.TheVariants as K

-- not empty, `.` or `0`, and no `;`
unfoldable pub filter_fine : List ℕ → Bool
filter_fine t = not (is_empty t) && (not (same t (46 ∷ [])) && (not (same t (48 ∷ [])) && lacks 59 t))

-- not empty, and free of `<` and `>`
unfoldable pub inside_fine : List ℕ → Bool
inside_fine t = not (is_empty t) && (lacks 60 t && lacks 62 t)

-- what begins with `<` and, past that byte, ends with `>` has such an inside
unfoldable pub symbol_fine : List ℕ → Bool
symbol_fine [] = true
symbol_fine (b ∷ t) = pick (eqb b 60 && ends_in 62 t) (inside_fine (drop_last t)) true

-- not empty, no comma, and no bad symbol
unfoldable pub alt_fine : List ℕ → Bool
alt_fine t = not (is_empty t) && (lacks 44 t && symbol_fine t)

unfoldable pub fine : Kind → List ℕ → Bool
fine K.Filters t = filter_fine t
fine K.Alts t = alt_fine t

-- 5 first; then no character may be white space, and the bytes must be fine
unfoldable pub chars_answer : Kind → List ℕ → Option (List (List ℕ)) → Answer
chars_answer kind t none = says 5 []
chars_answer kind t (some cs) = pick (not (any_space cs) && fine kind t) (says 0 []) (says (invalid_of kind) [])

unfoldable pub entry_answer : Kind → List ℕ → Answer
entry_answer kind t = chars_answer kind t (chars_of t)
