-- Any two outcomes that a contract of this crate allows are equal: no two answers have one paper. Assumes nothing.
use mathlib.Core.Path.{◌≡◌, refl, sym, ◌∙◌}
use mathlib.Core.List.{[], ◌∷◌}
use mathlib.Mathlib.Logic.Function.Defs.{LeftInverse-Injective}
use Prim.Native.Nat.{ℕ}
use Rattle.std.specs.Prelude.{Option, Some, None}
use Rattle.text.specs.Answer.{Answer, says}
use Rattle.pieces.proofs.PaperLaws.{step_paper_injective, nth_paper_injective}
use Rattle.samples.specs.Paper.{key_paper}
use Rattle.samples.specs.Promises.{Determined}

key_of : Answer → Option ℕ
key_of (says n []) = None
key_of (says n (i ∷ l)) = Some i

key_back : (x : Option ℕ) → key_of (key_paper x) ≡ x
unfolding key_of key_paper
key_back (Some i) = refl
key_back None = refl

pub key_paper_injective : (x y : Option ℕ) → key_paper x ≡ key_paper y → x ≡ y
key_paper_injective = LeftInverse-Injective key_of key_paper key_back

pub determined : Determined
determined =
    record {
      count = λ t r r' e e'. e ∙ sym e';
      sample_at = λ t at r r' e e'. step_paper_injective r r' (e ∙ sym e');
      sample = λ t n r r' e e'. nth_paper_injective r r' (e ∙ sym e');
      subfield = λ t n r r' e e'. nth_paper_injective r r' (e ∙ sym e');
      key_index = λ format key r r' e e'. key_paper_injective r r' (e ∙ sym e');
    }
