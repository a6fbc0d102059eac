-- Each public contract allows one outcome only: two that it allows have one paper, or leave the same row. Assumes nothing.
use mathlib.Core.Path.{sym, ◌∙◌}
use Rattle.allele.specs.Promises.{Determined}
use Rattle.allele.proofs.PaperLaws.{step_paper_injective}

pub determined : Determined
determined =
    record {
      is_mark = λ b r r' e e'. e ∙ sym e';
      step_at = λ t at r r' e e'. step_paper_injective r r' (e ∙ sym e');
      store = λ a k row r r' s s'. (s.numbers ∙ sym s'.numbers, s.missing ∙ sym s'.missing, s.phased ∙ sym s'.phased);
    }
