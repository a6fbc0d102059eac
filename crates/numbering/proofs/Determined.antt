-- Any two outcomes that a contract of this crate allows are equal: no two answers have one paper. Assumes nothing.
use Prim.Native.Nat.{ℕ}
use mathlib.Core.Path.{◌≡◌, refl, sym, ◌∙◌}
use Rattle.std.specs.Prelude.{Result, Ok, Err}
use Rattle.numbering.specs.Paper.{number_paper, filled_paper}
use Rattle.numbering.specs.Promises.{Determined}
use Rattle.numbering.specs.declared.counts.NoGenotype.{NoGenotype}
use Rattle.numbering.specs.declared.genotype.FillError.{FillError}
use Rattle.numbering.specs.declared.genotype.FillError.TheVariants as F

number_paper_injective : (r r' : Result ℕ NoGenotype) → number_paper r ≡ number_paper r' → r ≡ r'
unfolding number_paper
number_paper_injective (Ok n) (Ok m) e = cc
number_paper_injective (Ok n) (Err d) e = cc
number_paper_injective (Err d) (Ok m) e = cc
number_paper_injective (Err d) (Err d') e = refl

filled_paper_injective : (r r' : Result ℕ FillError) → filled_paper r ≡ filled_paper r' → r ≡ r'
unfolding filled_paper
filled_paper_injective (Ok n) (Ok m) e = cc
filled_paper_injective (Ok n) (Err F.NoGenotype) e = cc
filled_paper_injective (Ok n) (Err F.Short) e = cc
filled_paper_injective (Err F.NoGenotype) (Ok m) e = cc
filled_paper_injective (Err F.NoGenotype) (Err F.NoGenotype) e = refl
filled_paper_injective (Err F.NoGenotype) (Err F.Short) e = cc
filled_paper_injective (Err F.Short) (Ok m) e = cc
filled_paper_injective (Err F.Short) (Err F.NoGenotype) e = cc
filled_paper_injective (Err F.Short) (Err F.Short) e = refl

pub determined : Determined
determined =
    record {
      count_of = λ p n r r' e e'. number_paper_injective r r' (e ∙ sym e');
      number_of = λ g n r r' e e'. number_paper_injective r r' (e ∙ sym e');
      genotype_of = λ i p n l r r' w w' h h'. (filled_paper_injective r r' (h.answer ∙ sym h'.answer), h.row ∙ sym h'.row);
      list_all = λ p n l r r' w w' h h'. (filled_paper_injective r r' (h.answer ∙ sym h'.answer), h.row ∙ sym h'.row);
    }
