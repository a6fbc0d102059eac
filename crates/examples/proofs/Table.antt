-- The table holds by computing each answer, so the definitions of the crates below are unfolded: here alone, since computing is
-- the point. Assumes nothing.
use mathlib.Core.Path.{refl}
use Rattle.text.specs.Utf8 as U
use Rattle.text.specs.Space as P
use Rattle.text.specs.Same.{same}
use Rattle.text.specs.Bytes as B
use Rattle.text.specs.Range.{cut}
use Rattle.text.specs.Over.{over, room_answer}
use Rattle.text.specs.First.{first_where}
use Rattle.decimal.specs.Decimal as D
use Rattle.decimal.specs.Shortest.{shortest}
use Rattle.pieces.specs.Before as K
use Rattle.pieces.specs.Pieces as C
use Rattle.fields.specs.Pos as L
use Rattle.lists.specs.AlternateBases.{alt_count}
use Rattle.lists.specs.Judge as J
use Rattle.lists.specs.Write as F
use Rattle.allele.specs.Reading as R
use Rattle.genotype.specs.Answers as A
use Rattle.allele.specs.Row as N
use Rattle.allele.specs.Means.{all_phased}
use Rattle.spelling.specs.Spelling as S
use Rattle.spelling.specs.Permitted as M
use Rattle.spelling.specs.Write as W
use Rattle.info.specs.Info as I
use Rattle.examples.specs.Table as T

pub holds : T.Holds
unfolding
    T.table T.bytes T.answer_to T.question_of T.reply_of T.entry_reply T.bytes_at T.read_reply T.checked_reply T.no_alt T.spelled_reply T.filters_reply
    U.chars_of U.chars_from U.char_size U.lead_of U.lead_in U.table U.size_by U.follows U.second U.before
    P.any_space P.is_space P.in_any P.spaces P.code_point same first_where B.is_empty B.ends_in cut over room_answer
    D.value_of D.fault_of D.is_digit shortest
    C.split C.longer C.joined C.count_of C.lacks
    L.pos_answer L.positive
    J.entry_answer J.chars_answer J.fine J.alt_fine J.filter_fine J.symbol_fine J.inside_fine F.entries_answer alt_count
    R.reading_of R.list_of R.parts_of R.implied_of R.implied_by R.pieces_of R.is_mark R.head_of K.before_either R.marked_pieces R.numbered R.bodied
    R.allele_in R.with R.gathered R.fault_at R.fault_in R.piece_fault A.read_answer A.first_above A.above_answer A.checked_answer all_phased
    S.spell M.from44 S.judged S.shaped N.first_unsound N.is_sound S.list_text S.allele_text S.body_text W.spelled_answer W.text_of
    I.step_answer I.first_answer I.pair_of I.pair_in
holds = refl
