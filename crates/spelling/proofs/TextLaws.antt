-- The text that each plan writes of a list, allele by allele. Assumes nothing.
use Prim.Native.Nat.{ℕ, ◌+◌}
use mathlib.Core.Path.{◌≡◌, refl}
use mathlib.Core.Bool.{true, false}
use mathlib.Core.List.{List, [], ◌∷◌}
use native.Mathlib.Omega.{arith}
use borrow.Author.Tests.{ne_eqb}
use Rattle.allele.specs.declared.allele.Allele.{Allele}
use Rattle.spelling.specs.Spelling.{list_text}
use Rattle.spelling.specs.Inner.{one_text, text_from, planned_text}
use Rattle.spelling.specs.declared.tally.Plan.TheVariants as P

later : (n k : ℕ) (as' : List Allele) → (k ≡ 0 → ⊥) → text_from (P.Bare n) k as' ≡ list_text false as'
unfolding text_from one_text list_text
later n k [] z = refl
later n k (a ∷ as') z = rw (ne_eqb k 0 z, later n (k + 1) as' (λ y. omega arith))

pub text_bare : (n : ℕ) (as' : List Allele) → planned_text (P.Bare n) as' ≡ list_text true as'
unfolding text_from one_text list_text
text_bare n [] = refl
text_bare n (a ∷ as') = rw (later n 1 as' (λ y. omega arith))

pub text_marked : (n k : ℕ) (as' : List Allele) → text_from (P.Marked n) k as' ≡ list_text false as'
unfolding text_from one_text list_text
text_marked n k [] = refl
text_marked n k (a ∷ as') = rw (text_marked n (k + 1) as')
