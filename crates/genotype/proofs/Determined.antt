-- Each public contract allows one outcome only: two that it allows have one paper, and leave the same slices. Assumes nothing.
use Prim.Native.Nat.{ℕ}
use mathlib.Core.Path.{sym, ◌∙◌}
use mathlib.Core.List.{List}
use Rattle.text.specs.Answer.{Answer}
use Rattle.allele.specs.declared.allele.Allele.{Allele}
use Rattle.genotype.specs.Answers.{Reads}
use Rattle.genotype.specs.Promises.{OneReading, Determined}
use Rattle.genotype.proofs.PaperLaws.{read_paper_injective}

one_reading : (a : Answer) (as' : List Allele) (n m p : List ℕ) → OneReading (Reads a as' n m p)
one_reading a as' n m p r r' n₁ n₂ m₁ m₂ p₁ p₂ u w = (
  read_paper_injective r r' (u.answer ∙ sym w.answer),
  u.numbers ∙ sym w.numbers,
  u.missing ∙ sym w.missing,
  u.phased ∙ sym w.phased,
)

pub determined : Determined
determined =
    record {
      judge = λ t room r r' e e'. read_paper_injective r r' (e ∙ sym e');
      judge_checked = λ t alt room r r' e e'. read_paper_injective r r' (e ∙ sym e');
      read_genotype = λ t n m p. one_reading _ _ n m p;
      read_checked = λ t alt n m p. one_reading _ _ n m p;
    }
