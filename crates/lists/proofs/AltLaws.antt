-- The ALT count: by whether the column is `.`, and then by whether it is empty. Assumes nothing.
use Prim.Native.Nat.{ℕ, ◌<◌}
use mathlib.Core.Path.{◌≡◌, sym, ◌∙◌}
use mathlib.Core.Bool.{Bool, true, false, or-true}
use mathlib.Core.List.{List, [], ◌∷◌}
use native.Mathlib.Omega.{arith}
use native.Mathlib.Decide.{ℕ_discrete}
use lib.ListN.{length}
use Rattle.text.specs.Same.{same}
use Rattle.text.proofs.SameLaws.{same_self, same_not, same_other}
use Rattle.text.proofs.ByteLaws.{none_empty, some_empty}
use Rattle.pieces.specs.Pieces.{split, pieces}
use Rattle.pieces.proofs.PieceLaws.{split_some, split_count, pieces_none, pieces_some}
use Rattle.lists.specs.AlternateBases.{alt_count}

pub count_dot : alt_count (46 ∷ []) ≡ 0
unfolding alt_count
count_dot = rw (same_self (46 ∷ []))

pub count_none : (t : List ℕ) → length t ≡ 0 → alt_count t ≡ 0
unfolding alt_count
count_none t h = rw (none_empty t h, or-true (same t (46 ∷ [])))

module _ (t : List ℕ) (n : t ≡ 46 ∷ [] → ⊥) where
  pub count_split : 0 < length t → alt_count t ≡ length (split 44 t)
  unfolding alt_count
  count_split h = rw (same_not t (46 ∷ []) n, some_empty t h) (sym (split_count 44 t))

  -- so it is not 0
  pub count_some : 0 < length t → 0 < alt_count t
  count_some h = rw (count_split h) (split_some 44 t)

  count_pieces : Dec (length t ≡ 0) → alt_count t ≡ length (pieces 44 t)
  count_pieces (yes h) = count_none t h ∙ rw (pieces_none 44 t h)
  count_pieces (no h) = rw (pieces_some 44 t (omega arith)) (count_split (omega arith))

-- ---- as it is counted

module _ (t : List ℕ) {d : Bool} (e : d ≡ same t (46 ∷ [])) where
  pub counted_dot : d ≡ true → 0 ≡ alt_count t
  unfolding alt_count
  counted_dot f = rw (← e, f)

  pub counted_pieces : {n : ℕ} → d ≡ false → n ≡ length (pieces 44 t) → n ≡ alt_count t
  counted_pieces f h = h ∙ sym (count_pieces t (same_other t (46 ∷ []) (sym e ∙ f)) (ℕ_discrete (length t) 0))

pub ruleset laws = (counted_dot, counted_pieces)
