-- No two answers have one paper, since each can be read back from its own. Assumes nothing.
use mathlib.Core.Path.{◌≡◌, refl}
use mathlib.Core.List.{[], ◌∷◌}
use mathlib.Mathlib.Logic.Function.Defs.{LeftInverse-Injective}
use lib.Dec.{eqb}
use Rattle.std.specs.Prelude.{Ok, Err}
use Rattle.text.specs.Pick.{pick}
use Rattle.text.specs.Answer.{Answer, says}
use Rattle.genotype.specs.Paper.{Read, read_paper}
use Rattle.genotype.specs.declared.read.ReadError.TheVariants as R

read_of : Answer → Read
read_of (says n []) = pick (eqb n 11) (Err R.Empty) (pick (eqb n 16) (Err R.Lengths) (Err R.Short))
read_of (says n (k ∷ [])) = pick (eqb n 0) (Ok k) (Err (R.Above k))
read_of (says n (k ∷ fault ∷ l)) = Err (R.Bad k fault)

read_back : (x : Read) → read_of (read_paper x) ≡ x
unfolding read_of read_paper
read_back (Ok n) = refl
read_back (Err R.Empty) = refl
read_back (Err (R.Bad k fault)) = refl
read_back (Err R.Lengths) = refl
read_back (Err R.Short) = refl
read_back (Err (R.Above k)) = refl

pub read_paper_injective : (x y : Read) → read_paper x ≡ read_paper y → x ≡ y
read_paper_injective = LeftInverse-Injective read_of read_paper read_back
