-- What the functions over rows answer and leave is what the readers and the writer of the demands do, by their definitions, so what is
-- proved of these holds of them. Assumes nothing.
use mathlib.Core.Path.{sym, ◌∙◌}
use Rattle.lists.specs.AlternateBases.{alt_count}
use Rattle.genotype.proofs.ReaderLaws.{reader_answer, reader_row, checked_answer_lem, checked_row}
use Rattle.spelling.proofs.ListLaws.{writer_answer, writer_output}
use Rattle.alleles.specs.Demands.{RowReader, CheckedRow, AllelesWriter}

pub row_reader : RowReader
unfolding RowReader
row_reader t row r row' g = (g.answer ∙ sym (reader_answer t row), g.records ∙ sym (reader_row t row))

pub checked_reader_lem : CheckedRow
unfolding CheckedRow
checked_reader_lem t alt row r row' g =
    (g.answer ∙ sym (checked_answer_lem (alt_count alt) t row), g.records ∙ sym (checked_row (alt_count alt) t row))

pub alleles_writer : AllelesWriter
unfolding AllelesWriter
alleles_writer as' major minor out at r out' g =
    (g.answer ∙ sym (writer_answer major minor as' out at), g.bytes ∙ sym (writer_output major minor as' out at))
