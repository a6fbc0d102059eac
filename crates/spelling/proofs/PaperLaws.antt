-- No two answers of the writer have one paper, since each can be read back from its own. Assumes nothing.
use mathlib.Core.Path.{◌≡◌, refl}
use mathlib.Core.List.{[], ◌∷◌}
use mathlib.Mathlib.Logic.Function.Defs.{LeftInverse-Injective}
use lib.Dec.{eqb}
use Rattle.text.specs.Pick.{pick}
use Rattle.text.specs.Answer.{Answer, says}
use Rattle.spelling.specs.Paper.{write_paper}
use Prim.Native.Nat.{ℕ}
use Rattle.std.specs.Prelude.{Result, Ok, Err}
use Rattle.spelling.specs.declared.write.WriteError.{WriteError}
use Rattle.spelling.specs.declared.write.WriteError.TheVariants as W

write_of : Answer → Result ℕ WriteError
write_of (says n []) = Err (pick (eqb n 6) W.Beyond (pick (eqb n 11) W.Empty (pick (eqb n 13) W.Phasing (pick (eqb n 16) W.Lengths W.Short))))
write_of (says n (v ∷ vs)) = pick (eqb n 0) (Ok v) (Err (W.Bad v))

write_back : (x : Result ℕ WriteError) → write_of (write_paper x) ≡ x
unfolding write_of write_paper
write_back (Ok n) = refl
write_back (Err W.Beyond) = refl
write_back (Err W.Empty) = refl
write_back (Err (W.Bad k)) = refl
write_back (Err W.Phasing) = refl
write_back (Err W.Lengths) = refl
write_back (Err W.Short) = refl

pub write_paper_injective : (x y : Result ℕ WriteError) → write_paper x ≡ write_paper y → x ≡ y
write_paper_injective = LeftInverse-Injective write_of write_paper write_back
