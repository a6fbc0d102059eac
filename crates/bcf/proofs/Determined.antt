-- Each public contract allows one outcome only: two that it allows have one paper, and leave the same memory. Assumes nothing.
use mathlib.Core.Path.{sym, ◌∙◌}
use Rattle.bcf.specs.Promises.{Determined}
use Rattle.bcf.proofs.PaperLaws.{read_paper_injective, write_paper_injective}

pub determined : Determined
determined =
    record {
      read_vector =
          λ b v n m p r r' n₁ n₂ m₁ m₂ p₁ p₂ u k. (
            read_paper_injective r r' (u.answer ∙ sym k.answer),
            u.numbers ∙ sym k.numbers,
            u.missing ∙ sym k.missing,
            u.phased ∙ sym k.phased,
          );
      write_vector = λ n m p k out at r r' l l' u v. (write_paper_injective r r' (u.answer ∙ sym v.answer), u.output ∙ sym v.output);
    }
