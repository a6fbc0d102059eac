-- Any two outcomes that a contract of this crate allows are equal: the writer's `paper` is injective. Assumes nothing.
use mathlib.Core.Path.{sym, ◌∙◌}
use Rattle.spelling.specs.Promises.{Determined}
use Rattle.spelling.proofs.MadeLaws.{one_row}
use Rattle.spelling.proofs.PaperLaws.{write_paper_injective}

pub determined : Determined
determined =
    record {
      new_row = one_row;
      len = λ row r r' e e'. e ∙ sym e';
      at = λ row k a a' e e'. e ∙ sym e';
      is_sound = λ a r r' e e'. e ∙ sym e';
      new_tally = λ room r r' e e'. e ∙ sym e';
      add = λ t a k r r' e e'. e ∙ sym e';
      plan = λ t count major minor r r' e e'. e ∙ sym e';
      size = λ plan r r' e e'. e ∙ sym e';
      put_one = λ a plan k l at r r' l' l'' w w'. (w.place ∙ sym w'.place, w.bytes ∙ sym w'.bytes);
      write_genotype =
          λ n m p major minor out at r r' l l' w w'. (write_paper_injective r r' (w.answer ∙ sym w'.answer), w.bytes ∙ sym w'.bytes);
    }
