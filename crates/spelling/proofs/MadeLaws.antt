-- A row is made of three slices in one way. Assumes nothing.
use Prim.Native.Nat.{ℕ}
use mathlib.Core.HLevel.{is_prop→PathP}
use mathlib.Core.Logic.{inl, inr}
use mathlib.Core.Path.{◌≡◌, refl, sym, ap, ◌∙◌}
use mathlib.Core.List.{List}
use native.Mathlib.Nat.{ℕ_set}
use Rattle.std.specs.Borrow.{Bor}
use Rattle.std.specs.Prelude.{Option, Some, None}
use Rattle.allele.specs.Row.{Parallel}
use Rattle.spelling.specs.Row.{MakesRow}
use Rattle.spelling.specs.declared.row.Row.{Row}

parallel_one : (n m p : List ℕ) → IsProp (Parallel n m p)
parallel_one n m p q q' = λ i. record { missing = ℕ_set _ _ q.missing q'.missing i; phased = ℕ_set _ _ q.phased q'.phased i }

same_row : (r r' : Row) → r.numbers ≡ r'.numbers → r.missing ≡ r'.missing → r.phased ≡ r'.phased → r ≡ r'
same_row r r' a b c =
    λ i. record {
      numbers = a i;
      missing = b i;
      phased = c i;
      parallel = is_prop→PathP (λ j. Parallel (a j).now (b j).now (c j).now) (λ j. parallel_one (a j).now (b j).now (c j).now) r.parallel r'.parallel i;
    }

module _ (n m p : Bor (List ℕ)) where
  none_some : (r : Row) → MakesRow n m p None → MakesRow n m p (Some r) → ⊥
  none_some r (inl h) e = h (rw (← e.0, ← e.1) r.parallel.missing)
  none_some r (inr h) e = h (rw (← e.0, ← e.2) r.parallel.phased)

  pub one_row : (x y : Option Row) → MakesRow n m p x → MakesRow n m p y → x ≡ y
  one_row None None g h = refl
  one_row None (Some r) g h = absurd (none_some r g h)
  one_row (Some r) None g h = absurd (none_some r h g)
  one_row (Some r) (Some r') g h = ap Some (same_row r r' (g.0 ∙ sym h.0) (g.1 ∙ sym h.1) (g.2 ∙ sym h.2))
