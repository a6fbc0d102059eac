-- The joiner's contract allows one outcome only: no two answers have one paper, since each can be read back from its own. Assumes nothing.
use Prim.Native.Nat.{ℕ}
use mathlib.Core.Path.{◌≡◌, refl, sym, ◌∙◌}
use mathlib.Core.List.{[], ◌∷◌}
use mathlib.Mathlib.Logic.Function.Defs.{LeftInverse-Injective}
use lib.Dec.{eqb}
use Rattle.std.specs.Prelude.{Result, Ok, Err}
use Rattle.text.specs.Pick.{pick}
use Rattle.text.specs.Answer.{Answer, says}
use Rattle.join.specs.Paper.{joined_paper}
use Rattle.join.specs.Promises.{Determined}
use Rattle.join.specs.declared.columns.JoinError.{JoinError}
use Rattle.join.specs.declared.columns.JoinError.TheVariants as J

joined_of : Answer → Result ℕ JoinError
joined_of (says n []) = pick (eqb n 6) (Err J.Beyond) (pick (eqb n 16) (Err J.Wrong) (pick (eqb n 17) (Err J.Short) (Err J.Few)))
joined_of (says n (v ∷ vs)) = pick (eqb n 0) (Ok v) (pick (eqb n 5) (Err (J.NotUtf8 v)) (Err (J.Bad v)))

joined_back : (x : Result ℕ JoinError) → joined_of (joined_paper x) ≡ x
unfolding joined_of joined_paper
joined_back (Ok n) = refl
joined_back (Err (J.NotUtf8 i)) = refl
joined_back (Err J.Beyond) = refl
joined_back (Err J.Wrong) = refl
joined_back (Err J.Short) = refl
joined_back (Err (J.Bad i)) = refl
joined_back (Err J.Few) = refl

pub joined_paper_injective : (x y : Result ℕ JoinError) → joined_paper x ≡ joined_paper y → x ≡ y
joined_paper_injective = LeftInverse-Injective joined_of joined_paper joined_back

pub determined : Determined
determined =
    record {
      join = λ t ends e at out r r' l l' g h. (joined_paper_injective r r' (g.answer ∙ sym h.answer), g.bytes ∙ sym h.bytes);
    }
