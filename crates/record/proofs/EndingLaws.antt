-- An ending by its bytes, by how many they are, and by its number: each is the definition's clause. Assumes nothing.
use Prim.Native.Nat.{ℕ, ◌≤◌}
use mathlib.Core.Path.{◌≡◌, refl, sym, ap, ◌∙◌}
use mathlib.Core.List.{[], ◌∷◌}
use mathlib.Mathlib.Logic.Function.Defs.{LeftInverse-Injective}
use native.Mathlib.Omega.{arith}
use lib.ListN.{length, get_or-eq_default}
use Rattle.record.specs.Ending.{Ending, nothing, feed, return_feed, ending_bytes, ending_number, ending_by}
use Rattle.record.specs.Paper.{ending_of}
use Rattle.record.specs.Promises.{SizesEnding}
use Rattle.record.specs.declared.ending.Ending.{Ending as DeclaredEnding}
use Rattle.record.specs.declared.ending.Ending.TheVariants as E

-- ---- its bytes

pub nothing_bytes : ending_bytes nothing ≡ []
unfolding ending_bytes
nothing_bytes = refl

pub feed_bytes : ending_bytes feed ≡ 10 ∷ []
unfolding ending_bytes
feed_bytes = refl

pub return_feed_bytes : ending_bytes return_feed ≡ 13 ∷ 10 ∷ []
unfolding ending_bytes
return_feed_bytes = refl

-- ---- an ending by its number

-- its number is how many bytes it has
pub ending_size : (e : Ending) → length (ending_bytes e) ≡ ending_number e
unfolding ending_bytes ending_number
ending_size nothing = refl
ending_size feed = refl
ending_size return_feed = refl

ending_back : (e : Ending) → ending_by (ending_number e) ≡ e
unfolding ending_by ending_number
ending_back nothing = refl
ending_back feed = refl
ending_back return_feed = refl

-- and tells it
pub ending_known : (e f : Ending) → ending_number e ≡ ending_number f → e ≡ f
ending_known = LeftInverse-Injective ending_by ending_number ending_back

-- so does how many bytes it has
pub ending_sized : {n : ℕ} (e : Ending) → n ≡ length (ending_bytes e) → ending_by n ≡ e
ending_sized e q = rw (q, ending_size e) (ending_back e)

-- of an ending that is declared: one number for one ending, which is what its size is
pub ending_numbered : {x y : DeclaredEnding} → x ≡ y → ending_number (ending_of x) ≡ ending_number (ending_of y)
ending_numbered = ap (λ (x : DeclaredEnding). ending_number (ending_of x))

pub ending_told : {x y : DeclaredEnding} {size : ℕ} → SizesEnding x size → x ≡ y → size ≡ ending_number (ending_of y)
ending_told {x} s e = s ∙ ending_size (ending_of x) ∙ ending_numbered e

module _ {n : ℕ} where
  pub named_nothing : n ≡ 0 → nothing ≡ ending_by n
  unfolding ending_by
  named_nothing e = rw e

  pub named_feed : n ≡ 1 → feed ≡ ending_by n
  unfolding ending_by
  named_feed e = rw e

  pub named_return_feed : (n ≡ 0 → ⊥) → (n ≡ 1 → ⊥) → return_feed ≡ ending_by n
  unfolding ending_by
  named_return_feed a b = let h : 2 ≤ n = omega arith in sym (get_or-eq_default (nothing ∷ feed ∷ []) return_feed h)

-- ---- how many bytes an ending has

module _ {e : DeclaredEnding} where
  pub size_nothing : e ≡ E.Nothing → 0 ≡ length (ending_bytes (ending_of e))
  unfolding ending_bytes
  size_nothing q = rw q

  pub size_feed : e ≡ E.Feed → 1 ≡ length (ending_bytes (ending_of e))
  unfolding ending_bytes
  size_feed q = rw q

  pub size_return_feed : e ≡ E.ReturnFeed → 2 ≡ length (ending_bytes (ending_of e))
  unfolding ending_bytes
  size_return_feed q = rw q

pub ruleset laws = (size_nothing, size_feed, size_return_feed, named_nothing, named_feed, named_return_feed)
