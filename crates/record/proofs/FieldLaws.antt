-- A field's column among the line's, and where that starts, by the column's number. Assumes nothing.
use Prim.Native.Nat.{ℕ, ◌<◌, ◌≤◌}
use mathlib.Core.Path.{◌≡◌, refl}
use mathlib.Core.Bool.{Bool, true, false}
use mathlib.Core.List.{List, []}
use native.Mathlib.Omega.{arith}
use lib.ListN.{length, get_or, drop, drop_of_length-le, get_or-eq_default}
use lib.Dec.{eqb}
use borrow.Author.Tests.{lt-ltb, le-ltb, ne_eqb}
use Rattle.text.specs.Pick.{pick}
use Rattle.pieces.specs.Pieces.{joined}
use Rattle.pieces.specs.Demands.{start_in}
use Rattle.pieces.proofs.PieceLaws.{joined_none}
use Rattle.record.specs.Place.{column_number, column_of, column_start}
use Rattle.record.specs.declared.place.Name.{Name}
use Rattle.record.specs.declared.place.Name.TheVariants as N

-- the column of a field but the samples
pub column_is : (n : Name) (cs : List (List ℕ)) → column_number n < 9 → column_of n cs ≡ get_or cs (column_number n) []
unfolding column_of
column_is n cs h = rw (ne_eqb (column_number n) 9 (λ z. omega arith))

-- and of one that is not among the columns
pub column_none : (n : Name) (cs : List (List ℕ)) → length cs ≤ column_number n → length cs ≡ 8 → column_of n cs ≡ []
unfolding column_of
column_none n cs h e = by (eqb (column_number n) 9)
  where
    by : (b : Bool) → pick b (joined 9 (drop 9 cs)) (get_or cs (column_number n) []) ≡ []
    by true = rw (drop_of_length-le cs {i = 9} (omega arith)) (joined_none 9)
    by false = get_or-eq_default cs [] h

-- the samples are all columns from theirs on
pub column_samples : (cs : List (List ℕ)) → column_of N.Samples cs ≡ joined 9 (drop 9 cs)
unfolding column_of
column_samples cs = refl

module _ (n : Name) (cs : List (List ℕ)) where
  pub start_there : column_number n < length cs → column_start n cs ≡ start_in cs (column_number n)
  unfolding column_start
  start_there h = rw (lt-ltb _ _ h)

  pub start_none : length cs ≤ column_number n → column_start n cs ≡ length (joined 9 cs)
  unfolding column_start
  start_none h = rw (le-ltb _ _ h)
