-- Any two outcomes that a contract of this crate allows are equal: they have one paper. Assumes nothing.
use mathlib.Core.Path.{sym, ◌∙◌}
use Rattle.pieces.specs.Promises.{Determined}
use Rattle.pieces.proofs.PaperLaws.{step_paper_injective, nth_paper_injective}

pub determined : Determined
determined =
    record {
      count_byte = λ b s r r' e e'. e ∙ sym e';
      count_pieces = λ b s r r' e e'. e ∙ sym e';
      near_end = λ from len r r' e e'. e ∙ sym e';
      find_either = λ a b s from r r' e e'. e ∙ sym e';
      piece_at = λ b s at r r' e e'. step_paper_injective r r' (e ∙ sym e');
      piece_nth = λ b s n r r' e e'. nth_paper_injective r r' (e ∙ sym e');
    }
