-- No two answers have one paper, since each can be read back from its own. Assumes nothing.
use Prim.Native.Nat.{ℕ}
use mathlib.Core.Path.{◌≡◌, refl}
use mathlib.Core.List.{[], ◌∷◌}
use mathlib.Mathlib.Logic.Function.Defs.{LeftInverse-Injective}
use lib.Dec.{eqb}
use Rattle.std.specs.Prelude.{Result, Ok, Err}
use Rattle.text.specs.Pick.{pick}
use Rattle.text.specs.Answer.{Answer, says}
use Rattle.bcf.specs.Paper.{read_paper, write_paper}
use Rattle.bcf.specs.declared.read.ReadError.{ReadError}
use Rattle.bcf.specs.declared.read.ReadError.TheVariants as R
use Rattle.bcf.specs.declared.write.Vector.{Vector}
use Rattle.bcf.specs.declared.write.WriteError.{WriteError}
use Rattle.bcf.specs.declared.write.WriteError.TheVariants as W

read_of : Answer → Result ℕ ReadError
read_of (says n []) = Err (pick (eqb n 27) R.Unknown (pick (eqb n 16) R.Lengths (pick (eqb n 26) R.Bad R.Short)))
read_of (says n (v ∷ vs)) = Ok v

read_back : (x : Result ℕ ReadError) → read_of (read_paper x) ≡ x
unfolding read_of read_paper
read_back (Ok n) = refl
read_back (Err R.Unknown) = refl
read_back (Err R.Lengths) = refl
read_back (Err R.Bad) = refl
read_back (Err R.Short) = refl

pub read_paper_injective : (x y : Result ℕ ReadError) → read_paper x ≡ read_paper y → x ≡ y
read_paper_injective = LeftInverse-Injective read_of read_paper read_back

write_of : Answer → Result Vector WriteError
write_of (says n []) =
    Err (pick (eqb n 6) W.Beyond (pick (eqb n 16) W.Lengths (pick (eqb n 11) W.Empty (pick (eqb n 24) W.Large (pick (eqb n 25) W.Long W.Short)))))
write_of (says n (v ∷ [])) = Err (W.Bad v)
write_of (says n (w ∷ v ∷ vs)) = Ok (record { width = w; len = v })

write_back : (x : Result Vector WriteError) → write_of (write_paper x) ≡ x
unfolding write_of write_paper
write_back (Ok v) = refl
write_back (Err W.Beyond) = refl
write_back (Err W.Lengths) = refl
write_back (Err W.Empty) = refl
write_back (Err (W.Bad k)) = refl
write_back (Err W.Large) = refl
write_back (Err W.Long) = refl
write_back (Err W.Short) = refl

pub write_paper_injective : (x y : Result Vector WriteError) → write_paper x ≡ write_paper y → x ≡ y
write_paper_injective = LeftInverse-Injective write_of write_paper write_back
