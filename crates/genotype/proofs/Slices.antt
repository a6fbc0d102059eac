-- The readers of three slices answer and leave what the readers of the demands do with the row that the slices stand for, so what is
-- proved of those holds of them. Assumes nothing.
use Prim.Native.Nat.{ℕ}
use mathlib.Core.Path.{◌≡◌}
use mathlib.Core.List.{List}
use Rattle.text.specs.Answer.{Answer}
use Rattle.text.specs.Over.{laid}
use Rattle.lists.specs.AlternateBases.{alt_count}
use Rattle.allele.specs.Row.{row_of, Parallel}
use Rattle.allele.specs.declared.allele.Allele.{Allele}
use Rattle.allele.proofs.RowLaws.{row_length, row_laid}
use Rattle.genotype.specs.Paper.{Read}
use Rattle.genotype.specs.Answers.{row_answer, Reads}
use Rattle.genotype.specs.Demands.{SlicesReader, SlicesChecked}
use Rattle.genotype.proofs.AnswerLaws.{row_even}
use Rattle.genotype.proofs.ReaderLaws.{reader_answer, reader_row, checked_answer_lem, checked_row}

-- given slices of one length, whatever the answer: it is given, and what is laid over them is laid over the row
module _ (a : Answer) (as' : List Allele) {n m p n' m' p' : List ℕ} {r : Read} (q : Parallel n m p) (g : Reads (row_answer n m p a) as' n m p r n' m' p') where
  even : Reads a as' n m p r n' m' p'
  even = rw (row_even n m p a q.missing q.phased) at g

  left : row_of n' m' p' ≡ laid a as' (row_of n m p)
  left = rw (even.numbers, even.missing, even.phased) (row_laid a as' n m p q)

pub slices_reader : SlicesReader
unfolding SlicesReader
slices_reader t n m p r n' m' p' q g =
    rw (reader_answer t (row_of n m p), reader_row t (row_of n m p), row_length n m p q) ((even _ _ q g).answer, left _ _ q g)

pub slices_checked : SlicesChecked
unfolding SlicesChecked
slices_checked t alt n m p r n' m' p' q g =
    rw
    (checked_answer_lem (alt_count alt) t (row_of n m p), checked_row (alt_count alt) t (row_of n m p), row_length n m p q)
    ((even _ _ q g).answer, left _ _ q g)
