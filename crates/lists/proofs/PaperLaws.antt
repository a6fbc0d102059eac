-- No two answers have one paper, since each can be read back from its own. Assumes nothing.
use mathlib.Core.Path.{◌≡◌, refl}
use Prim.Native.Nat.{ℕ}
use mathlib.Core.List.{[], ◌∷◌}
use mathlib.Mathlib.Logic.Function.Defs.{LeftInverse-Injective}
use lib.Dec.{eqb}
use Rattle.std.specs.Prelude.{Result, Ok, Err}
use Rattle.text.specs.Pick.{pick}
use Rattle.text.specs.Answer.{Answer, says}
use Rattle.lists.specs.Paper.{verdict_paper, write_paper}
use Rattle.lists.specs.declared.write.Kind.{Kind}
use Rattle.lists.specs.declared.write.Kind.TheVariants as K
use Rattle.lists.specs.declared.write.Fault.{Fault}
use Rattle.lists.specs.declared.write.Fault.TheVariants as F
use Rattle.lists.specs.declared.write.WriteError.{WriteError}
use Rattle.lists.specs.declared.write.WriteError.TheVariants as W

verdict_of : Answer → Result Unit Fault
verdict_of (says n vs) = pick (eqb n 0) (Ok tt) (pick (eqb n 5) (Err F.NotUtf8) (Err F.Invalid))

verdict_back : (kind : Kind) (x : Result Unit Fault) → verdict_of (verdict_paper kind x) ≡ x
unfolding verdict_of verdict_paper
verdict_back kind (Ok tt) = refl
verdict_back kind (Err F.NotUtf8) = refl
verdict_back K.Filters (Err F.Invalid) = refl
verdict_back K.Alts (Err F.Invalid) = refl

pub verdict_paper_injective : (kind : Kind) (x y : Result Unit Fault) → verdict_paper kind x ≡ verdict_paper kind y → x ≡ y
verdict_paper_injective kind = LeftInverse-Injective verdict_of (verdict_paper kind) (verdict_back kind)

write_of : Answer → Result ℕ WriteError
write_of (says n []) = pick (eqb n 6) (Err W.Beyond) (pick (eqb n 16) (Err W.Wrong) (Err W.Short))
write_of (says n (v ∷ vs)) = pick (eqb n 0) (Ok v) (pick (eqb n 5) (Err (W.NotUtf8 v)) (Err (W.Invalid v)))

write_back : (kind : Kind) (x : Result ℕ WriteError) → write_of (write_paper kind x) ≡ x
unfolding write_of write_paper
write_back kind (Ok n) = refl
write_back kind (Err (W.NotUtf8 i)) = refl
write_back kind (Err W.Beyond) = refl
write_back K.Filters (Err (W.Invalid i)) = refl
write_back K.Alts (Err (W.Invalid i)) = refl
write_back kind (Err W.Wrong) = refl
write_back kind (Err W.Short) = refl

pub write_paper_injective : (kind : Kind) (x y : Result ℕ WriteError) → write_paper kind x ≡ write_paper kind y → x ≡ y
write_paper_injective kind = LeftInverse-Injective write_of (write_paper kind) (write_back kind)
