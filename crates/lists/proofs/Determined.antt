-- Any two outcomes that a contract of this crate allows are equal: they have one paper. Assumes nothing.
use Prim.Native.Nat.{ℕ}
use mathlib.Core.Path.{sym, ◌∙◌}
use mathlib.Core.List.{List}
use Rattle.text.specs.Outcome.{OneAnswer, OneOutcome}
use Rattle.lists.specs.Promises.{JudgesEntry, Determined}
use Rattle.lists.specs.Write.{WritesListAt}
use Rattle.lists.specs.declared.write.Kind.{Kind}
use Rattle.lists.specs.declared.write.Kind.TheVariants as K
use Rattle.lists.proofs.PaperLaws.{verdict_paper_injective, write_paper_injective}

-- one judge, and one writer, for both kinds
judged : (kind : Kind) (t : List ℕ) → OneAnswer (JudgesEntry kind t)
judged kind t r r' e e' = verdict_paper_injective kind r r' (e ∙ sym e')

written : (kind : Kind) (t ends out : List ℕ) (at : ℕ) → OneOutcome (WritesListAt kind t ends out at)
written kind t ends out at r r' out' out'' w w' = (write_paper_injective kind r r' (w.answer ∙ sym w'.answer), w.bytes ∙ sym w'.bytes)

pub determined : Determined
determined =
    record {
      alt_count = λ column r r' e e'. e ∙ sym e';
      judge_filter = judged K.Filters;
      judge_alt = judged K.Alts;
      write_filters = written K.Filters;
      write_alts = written K.Alts;
    }
