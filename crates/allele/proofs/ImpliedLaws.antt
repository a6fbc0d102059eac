-- The phasing implied: whether a text has no `/`. Assumes nothing.
use Prim.Native.Nat.{ℕ, ◌-◌}
use mathlib.Core.Path.{◌≡◌, refl, sym, ◌∙◌}
use mathlib.Core.List.{List, [], ◌∷◌}
use mathlib.Core.Bool.{Bool, true, false, not}
use lib.ListN.{length, take, drop}
use Rattle.std.specs.Prelude.{nat_eq}
use Rattle.std.specs.List.{list_any}
use Rattle.std.proofs.lemmas.List.{take_rest}
use borrow.Author.Tests.{eqb-true, eqb-false}
use Rattle.pieces.specs.Pieces.{lacks}
use Rattle.pieces.proofs.CountLaws.{lacks_none, lacks_here, lacks_other}
use Rattle.allele.specs.Reading.{implied_by}

has_not : (s : List ℕ) → not (list_any (λ y. nat_eq y 47) s) ≡ lacks 47 s
has_not [] = sym (lacks_none 47)
has_not (b ∷ s) = by (nat_eq b 47) refl (has_not s)
  where
    by : (x : Bool) → nat_eq b 47 ≡ x → not (list_any (λ y. nat_eq y 47) s) ≡ lacks 47 s → not (list_any (λ y. nat_eq y 47) (b ∷ s)) ≡ lacks 47 (b ∷ s)
    by true e h = rw e (sym (lacks_here 47 s (eqb-true b 47 e)))
    by false e h = rw e (h ∙ sym (lacks_other 47 s (eqb-false b 47 e)))

-- a search of the text from a place on tells it
pub implied_from : (text : List ℕ) (from : ℕ) {found : Bool} → found ≡ list_any (λ y. nat_eq y 47) (take (length text - from) (drop from text))
    → not found ≡ implied_by (drop from text)
unfolding implied_by
implied_from text from e = rw (e, take_rest text from) (has_not (drop from text))
