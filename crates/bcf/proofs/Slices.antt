-- The functions over three slices answer and leave what the reader and the writer of the demands do with the row that the slices stand for, so
-- what is proved of those holds of them; slices of unequal lengths are told by the tests of the answers. Assumes nothing.
use Prim.Native.Nat.{ℕ, ◌≤◌}
use mathlib.Core.Path.{◌≡◌, refl, ◌∙◌}
use mathlib.Core.List.{List, []}
use mathlib.Core.Option.{Option, some, none}
use native.Mathlib.Omega.{arith}
use native.Mathlib.Decide.{ℕ_discrete, dec_le}
use lib.ListN.{length, drop}
use borrow.Author.Tests.{le-leb, lt-leb}
use Rattle.text.specs.Answer.{Answer, says}
use Rattle.allele.specs.Row.{row_of, Parallel}
use Rattle.allele.proofs.RowLaws.{row_length, row_laid}
use Rattle.genotype.specs.Answers as G
use Rattle.genotype.proofs.AnswerLaws.{row_even, row_uneven_nm, row_uneven_np}
use Rattle.bcf.specs.declared.width.Width.{Width}
use Rattle.bcf.specs.Reading.{list_read, vector_answer, slices_answer, ReadsAs, width_by, told_answer, told_list}
use Rattle.bcf.specs.Writing.{list_answer, placed_answer, row_answer}
use Rattle.bcf.specs.Paper.{read_paper}
use Rattle.bcf.specs.Demands.{reader, told_by, told, writer, SlicesReader, SlicesWriter, UnevenRead, UnevenReader, UnevenWritten, UnevenWriter}
use Rattle.bcf.proofs.SmallestLaws.{by_width, by_none}

pub slices_reader : SlicesReader
unfolding SlicesReader told_answer told_list told told_by reader
slices_reader b v n m p r n' m' p' q g = by (width_by b) g
  where
    by : (o : Option Width) → ReadsAs (told_answer o v n m p) (told_list o v) n m p r n' m' p'
        → (read_paper r ≡ (told_by o v (row_of n m p)).answer) × (row_of n' m' p' ≡ (told_by o v (row_of n m p)).row)
    by none g = (g.answer, rw (g.numbers, g.missing, g.phased))
    by (some w) g =
        let e : slices_answer w v n m p ≡ vector_answer w v (length n) = row_even n m p _ q.missing q.phased in
        rw (row_length n m p q)
        (g.answer ∙ e, rw (g.numbers, g.missing, g.phased, e) (row_laid (vector_answer w v (length n)) (list_read w v) n m p q))

row_placed : (n m p : List ℕ) (k : ℕ) (out : List ℕ) (at : ℕ) → Parallel n m p → row_answer k n m p out at ≡ placed_answer k (row_of n m p) out at
unfolding row_answer placed_answer
row_placed n m p k out at q = rw (row_even n m p (list_answer k (row_of n m p) (length (drop at out))) q.missing q.phased)

pub slices_writer : SlicesWriter
unfolding SlicesWriter writer
slices_writer n m p k out at r out' q g = let e = row_placed n m p k out at q in (g.answer ∙ e, g.output ∙ rw e)

-- ---- slices of unequal lengths

uneven : (n m p : List ℕ) (a : Answer) → (Parallel n m p → ⊥) → G.row_answer n m p a ≡ says 16 []
uneven n m p a u =
    elim (ℕ_discrete (length n) (length m)) [ yes e ↦ row_uneven_np n m p a (λ f. u (record { missing = e; phased = f })) | no e ↦ row_uneven_nm n m p a e ]

pub uneven_reader : UnevenReader
unfolding UnevenReader told_answer
uneven_reader b v n m p r n' m' p' u g = by (width_by b) refl g
  where
    by : (o : Option Width) → width_by b ≡ o → ReadsAs (told_answer o v n m p) (told_list o v) n m p r n' m' p' → UnevenRead b n m p r n' m' p'
    by none e g =
        record {
          unknown = λ h. g.answer;
          known = λ w h. absurd ((by_none b).0 e w h);
          numbers = g.numbers;
          missing = g.missing;
          phased = g.phased;
        }
    by (some w) e g =
        let a : slices_answer w v n m p ≡ says 16 [] = uneven n m p _ u in
        record {
          unknown = λ h. absurd (h w (by_width b w e));
          known = λ x h. g.answer ∙ a;
          numbers = rw a at g.numbers;
          missing = rw a at g.missing;
          phased = rw a at g.phased;
        }

pub uneven_writer : UnevenWriter
unfolding UnevenWriter row_answer
uneven_writer n m p k out at r out' u g = by (dec_le at (length out))
  where
    by : Dec (at ≤ length out) → UnevenWritten out at r out'
    by (yes h) =
        let a : row_answer k n m p out at ≡ says 16 [] = rw (le-leb at (length out) h) (uneven n m p _ u) in
        record { beyond = λ l. absurd (omega arith); lengths = λ l. g.answer ∙ a; output = rw a at g.output }
    by (no h) =
        let a : row_answer k n m p out at ≡ says 6 [] = rw (lt-leb at (length out) (omega arith)) in
        record { beyond = λ l. g.answer ∙ a; lengths = λ l. absurd (h l); output = rw a at g.output }
