-- No two answers have one paper, since each can be read back from its own. Assumes nothing.
use Rattle.std.specs.Prelude.{Ok, Err, Option, Some, None}
use Prim.Native.Nat.{ℕ, ◌-◌}
use mathlib.Core.Path.{◌≡◌, refl}
use mathlib.Core.List.{List, [], ◌∷◌}
use mathlib.Mathlib.Logic.Function.Defs.{LeftInverse-Injective}
use lib.ListN.{get_or}
use Rattle.text.specs.Answer.{Answer, says}
use Rattle.info.specs.Paper.{Step, value_places, entry_places, step_paper}
use Rattle.text.specs.declared.range.Range.{Range}
use Rattle.info.specs.declared.step.NoEntry.TheVariants as N

value_of : List ℕ → Option Range
value_of [] = None
value_of (a ∷ []) = None
value_of (a ∷ b ∷ l) = Some (record { start = a; len = b })

value_back : (v : Option Range) → value_of (value_places v) ≡ v
unfolding value_of value_places
value_back None = refl
value_back (Some r) = refl

-- an entry has three values or more; any other answer is told by its number, from 6 on
step_of : Answer → Step
step_of (says n []) = Err (N.Nothing 0)
step_of (says n (next ∷ [])) = get_or (Err (N.Beyond next) ∷ Err (N.AfterKey next) ∷ Err (N.NoKey next) ∷ Err (N.AfterValue next) ∷ []) (n - 6) (Err (N.Nothing next))
step_of (says n (next ∷ a ∷ [])) = Err (N.Nothing next)
step_of (says n (next ∷ a ∷ b ∷ l)) = Ok (record { key = record { start = a; len = b }; value = value_of l }, next)

step_back : (x : Step) → step_of (step_paper x) ≡ x
unfolding step_of step_paper entry_places
step_back (Ok (e, next)) = rw (value_back e.value)
step_back (Err (N.Beyond next)) = refl
step_back (Err (N.AfterKey next)) = refl
step_back (Err (N.NoKey next)) = refl
step_back (Err (N.AfterValue next)) = refl
step_back (Err (N.Nothing next)) = refl

pub step_paper_injective : (x y : Step) → step_paper x ≡ step_paper y → x ≡ y
step_paper_injective = LeftInverse-Injective step_of step_paper step_back
