-- Any two outcomes that a contract of this crate allows are equal: each says what the number is, and what is left. Assumes nothing.
use Prim.Native.Nat.{ℕ}
use mathlib.Core.Path.{sym, ◌∙◌}
use mathlib.Core.List.{List}
use Rattle.text.specs.Answer.{Answer}
use Rattle.text.specs.Outcome.{OneOutcome}
use Rattle.allele.specs.declared.allele.Allele.{Allele}
use Rattle.exports.specs.Told.{Tells, TellsWriting, TellsReading}
use Rattle.exports.specs.Promises.{OneWriting, OneReading, Determined}

one_told : (a : Answer) (l : List ℕ) → OneOutcome (Tells a l)
one_told a l r r' l₁ l₂ t t' = (t.number ∙ sym t'.number, t.values ∙ sym t'.values)

one_writing : (a : Answer) (left l : List ℕ) → OneWriting (TellsWriting a left l)
one_writing a left l r r' out out' l₁ l₂ w w' = (
  w.told.number ∙ sym w'.told.number,
  w.output ∙ sym w'.output,
  w.told.values ∙ sym w'.told.values,
)

one_reading : (a : Answer) (as' : List Allele) (n m p l : List ℕ) → OneReading (TellsReading a as' n m p l)
one_reading a as' n m p l r r' n₁ n₂ m₁ m₂ p₁ p₂ l₁ l₂ g g' = (
  g.told.number ∙ sym g'.told.number,
  g.numbers ∙ sym g'.numbers,
  g.missing ∙ sym g'.missing,
  g.phased ∙ sym g'.phased,
  g.told.values ∙ sym g'.told.values,
)

pub determined : Determined
determined =
    record {
      check_utf8 = λ t r r' e e'. e ∙ sym e';
      find_space = λ t l. one_told _ l;
      read_decimal = λ t l. one_told _ l;
      print_decimal = λ n out l. one_writing _ _ l;
      read_line = λ s at l. one_told _ l;
      split_line = λ s at l. one_told _ l;
      field_text = λ s name start len l. one_told _ l;
      place_in = λ s start len l. one_told _ l;
      read_pos = λ t l. one_told _ l;
      widen = λ ending numbers l. one_told _ l;
      narrow = λ ending places l. one_told _ l;
      info_step = λ column at l. one_told _ l;
      info_find = λ column key l. one_told _ l;
      info_value = λ column key l. one_told _ l;
      info_count = λ column r r' e e'. e ∙ sym e';
      samples_count = λ samples r r' e e'. e ∙ sym e';
      sample_at = λ samples at l. one_told _ l;
      sample = λ samples n l. one_told _ l;
      subfield = λ sample n l. one_told _ l;
      key_index = λ format key l. one_told _ l;
      genotype_step = λ t at l. one_told _ l;
      genotype_judge = λ t room l. one_told _ l;
      genotype_judge_checked = λ t alt room l. one_told _ l;
      read_genotype = λ t n m p l. one_reading _ _ n m p l;
      read_genotype_checked = λ t alt n m p l. one_reading _ _ n m p l;
      write_genotype = λ n m p major minor out at l. one_writing _ _ l;
      count_genotypes = λ p n l. one_told _ l;
      genotype_number = λ g n l. one_told _ l;
      genotype_at = λ i p n row l. one_writing _ _ l;
      list_genotypes = λ p n row l. one_writing _ _ l;
      read_vector = λ v width n m p l. one_reading _ _ n m p l;
      write_vector = λ n m p entries out at l. one_writing _ _ l;
      judge_filter = λ filter r r' e e'. e ∙ sym e';
      judge_alt = λ alt r r' e e'. e ∙ sym e';
      alt_count = λ column r r' e e'. e ∙ sym e';
      write_filters = λ t ends out at l. one_writing _ _ l;
      write_alts = λ t ends out at l. one_writing _ _ l;
      join = λ t ends ending out at l. one_writing _ _ l;
    }
