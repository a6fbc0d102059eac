-- Any two outcomes that a contract of this crate allows are equal: the papers of `genotype` and `spelling` are injective. Assumes nothing.
use Prim.Native.Nat.{ℕ}
use mathlib.Core.Path.{◌≡◌, sym, ◌∙◌}
use mathlib.Core.List.{List}
use Rattle.text.specs.Answer.{Answer}
use Rattle.text.specs.Outcome.{OneOutcome}
use Rattle.genotype.specs.Paper.{Read, read_paper}
use Rattle.allele.specs.declared.allele.Allele.{Allele}
use Rattle.genotype.proofs.PaperLaws.{read_paper_injective}
use Rattle.spelling.proofs.PaperLaws.{write_paper_injective}
use Rattle.alleles.specs.Write.{WritesAlleles}
use Rattle.alleles.specs.Promises.{Determined}

pub one_read : {a : Answer} (r r' : Read) → read_paper r ≡ a → read_paper r' ≡ a → r ≡ r'
one_read r r' e e' = read_paper_injective r r' (e ∙ sym e')

pub one_written : (row : List Allele) (major minor : ℕ) (out : List ℕ) (at : ℕ) → OneOutcome (WritesAlleles row major minor out at)
one_written row major minor out at r r' l l' w w' = (write_paper_injective r r' (w.answer ∙ sym w'.answer), w.bytes ∙ sym w'.bytes)

pub determined : Determined
determined =
    record {
      read_alleles = λ t row r r' l l' w w'. (one_read r r' w.answer w'.answer, w.records ∙ sym w'.records);
      read_alleles_checked = λ t alt row r r' l l' w w'. (one_read r r' w.answer w'.answer, w.records ∙ sym w'.records);
      write_alleles = one_written;
    }
