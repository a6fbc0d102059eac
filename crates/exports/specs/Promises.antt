-- The promise of each entry, by its name, and that each determines the outcome: the number, the values and every slice that is
-- written. The array of values held l, and is left with l'. Assumes nothing.
use Rattle.std.specs.Prelude.{ℕ, ◌≡◌, List, length}
use Rattle.text.specs.Answer.{says}
use Rattle.text.specs.Outcome.{OneAnswer, OneOutcome}
use Rattle.text.specs.Over.{room_answer, room_left}
use Rattle.text.specs.Range.{range_at, range_places}
use Rattle.text.specs.Space.{space_answer}
use Rattle.text.specs.Utf8.{utf8_answer}
use Rattle.decimal.specs.Decimal.{decimal_answer}
use Rattle.decimal.specs.Shortest.{shortest}
use Rattle.line.specs.Line as Line
use Rattle.fields.specs.Fields.{place_answer}
use Rattle.fields.specs.Pos.{pos_answer}
use Rattle.info.specs.Info as Info
use Rattle.info.specs.Find.{find_answer}
use Rattle.info.specs.Value.{shown}
use Rattle.samples.specs.Samples.{samples_of, sample_step, sample_answer, subfield_answer}
use Rattle.samples.specs.Keys.{key_answer}
use Rattle.lists.specs.AlternateBases.{alt_count}
use Rattle.lists.specs.Judge.{entry_answer}
use Rattle.lists.specs.Write as Lists
use Rattle.lists.specs.declared.write.Kind.TheVariants.{Filters, Alts}
use Rattle.allele.specs.Reading as Genotype
use Rattle.genotype.specs.Answers.{text_answer, checked_text, slices_answer, checked_slices}
use Rattle.spelling.specs.Permitted.{from44}
use Rattle.spelling.specs.Write as Spelling
use Rattle.bcf.specs.Reading.{width_by, told_answer, told_list}
use Rattle.bcf.specs.Writing.{row_answer, row_left}
use Rattle.numbering.specs.Answers.{count_answer, number_answer, genotype_answer, list_answer, genotype_left, all_left}
use Rattle.exports.specs.Told.{Judges, Tells, TellsWriting, TellsReading}
use Rattle.exports.specs.Places.{named_answer, ended_answer, ended_left, widened_answer, narrowed_answer}

-- ---- characters and decimal numbers

abbrev pub ChecksUtf8 : List ℕ → ℕ → Type 0
ChecksUtf8 t r = Judges (utf8_answer t) r

abbrev pub FindsSpace : List ℕ → List ℕ → ℕ → List ℕ → Type 0
FindsSpace t l r l' = Tells (space_answer t) l r l'

abbrev pub ReadsDecimal : List ℕ → List ℕ → ℕ → List ℕ → Type 0
ReadsDecimal t l r l' = Tells (decimal_answer t) l r l'

abbrev pub PrintsDecimal : ℕ → List ℕ → List ℕ → ℕ → List ℕ → List ℕ → Type 0
PrintsDecimal n out l r out' l' = TellsWriting (room_answer (shortest n) out) (room_left (shortest n) out) l r out' l'

-- ---- lines

abbrev pub ReadsLine : List ℕ → ℕ → List ℕ → ℕ → List ℕ → Type 0
ReadsLine s at l r l' = Tells (Line.read_answer s at) l r l'

abbrev pub FindsText : List ℕ → ℕ → ℕ → ℕ → List ℕ → ℕ → List ℕ → Type 0
FindsText s name start len l r l' = Tells (named_answer s name (range_at start len)) l r l'

abbrev pub FindsPlace : List ℕ → ℕ → ℕ → List ℕ → ℕ → List ℕ → Type 0
FindsPlace s start len l r l' = Tells (place_answer s (range_at start len)) l r l'

abbrev pub ReadsPos : List ℕ → List ℕ → ℕ → List ℕ → Type 0
ReadsPos t l r l' = Tells (pos_answer t) l r l'

abbrev pub WidensRecord : ℕ → List ℕ → List ℕ → ℕ → List ℕ → Type 0
WidensRecord ending numbers l r l' = Tells (widened_answer ending numbers) l r l'

abbrev pub NarrowsWide : ℕ → List ℕ → List ℕ → ℕ → List ℕ → Type 0
NarrowsWide ending places l r l' = Tells (narrowed_answer ending places) l r l'

-- ---- INFO

abbrev pub TakesInfoStep : List ℕ → ℕ → List ℕ → ℕ → List ℕ → Type 0
TakesInfoStep column at l r l' = Tells (Info.step_answer column at) l r l'

abbrev pub FindsInfo : List ℕ → List ℕ → List ℕ → ℕ → List ℕ → Type 0
FindsInfo column key l r l' = Tells (find_answer column key) l r l'

abbrev pub PlacesInfoValue : List ℕ → List ℕ → List ℕ → ℕ → List ℕ → Type 0
PlacesInfoValue column key l r l' = Tells (says 0 (range_places (shown column key))) l r l'

abbrev pub CountsInfo : List ℕ → ℕ → Type 0
CountsInfo column r = r ≡ Info.info_count column

-- ---- samples

abbrev pub CountsSamples : List ℕ → ℕ → Type 0
CountsSamples samples r = r ≡ length (samples_of samples)

abbrev pub VisitsSample : List ℕ → ℕ → List ℕ → ℕ → List ℕ → Type 0
VisitsSample samples at l r l' = Tells (sample_step samples at) l r l'

abbrev pub GivesSample : List ℕ → ℕ → List ℕ → ℕ → List ℕ → Type 0
GivesSample samples n l r l' = Tells (sample_answer samples n) l r l'

abbrev pub GivesSubfield : List ℕ → ℕ → List ℕ → ℕ → List ℕ → Type 0
GivesSubfield sample n l r l' = Tells (subfield_answer sample n) l r l'

abbrev pub FindsKey : List ℕ → List ℕ → List ℕ → ℕ → List ℕ → Type 0
FindsKey format key l r l' = Tells (key_answer format key) l r l'

-- ---- genotypes

abbrev pub TakesGenotypeStep : List ℕ → ℕ → List ℕ → ℕ → List ℕ → Type 0
TakesGenotypeStep t at l r l' = Tells (Genotype.step_answer t at) l r l'

abbrev pub JudgesGenotype : List ℕ → ℕ → List ℕ → ℕ → List ℕ → Type 0
JudgesGenotype t room l r l' = Tells (text_answer t room) l r l'

abbrev pub JudgesChecked : List ℕ → List ℕ → ℕ → List ℕ → ℕ → List ℕ → Type 0
JudgesChecked t alt room l r l' = Tells (checked_text t alt room) l r l'

abbrev pub ReadsGenotype : List ℕ → List ℕ → List ℕ → List ℕ → List ℕ → ℕ → List ℕ → List ℕ → List ℕ → List ℕ → Type 0
ReadsGenotype t n m p l r n' m' p' l' = TellsReading (slices_answer t n m p) (Genotype.list_of (Genotype.reading_of t)) n m p l r n' m' p' l'

abbrev pub ReadsChecked : List ℕ → List ℕ → List ℕ → List ℕ → List ℕ → List ℕ → ℕ → List ℕ → List ℕ → List ℕ → List ℕ → Type 0
ReadsChecked t alt n m p l r n' m' p' l' =
    TellsReading (checked_slices t alt n m p) (Genotype.list_of (Genotype.reading_of t)) n m p l r n' m' p' l'

abbrev pub WritesGenotype : List ℕ → List ℕ → List ℕ → ℕ → ℕ → List ℕ → ℕ → List ℕ → ℕ → List ℕ → List ℕ → Type 0
WritesGenotype n m p major minor out at l r out' l' =
    TellsWriting (Spelling.row_answer n m p (from44 major minor) out at) (Spelling.row_left n m p (from44 major minor) out at) l r out' l'

-- ---- genotypes by number

abbrev pub CountsGenotypes : ℕ → ℕ → List ℕ → ℕ → List ℕ → Type 0
CountsGenotypes p n l r l' = Tells (count_answer p n) l r l'

abbrev pub NumbersGenotype : List ℕ → ℕ → List ℕ → ℕ → List ℕ → Type 0
NumbersGenotype g n l r l' = Tells (number_answer n g) l r l'

abbrev pub PlacesGenotype : ℕ → ℕ → ℕ → List ℕ → List ℕ → ℕ → List ℕ → List ℕ → Type 0
PlacesGenotype i p n row l r row' l' = TellsWriting (genotype_answer i p n (length row)) (genotype_left i p n row) l r row' l'

abbrev pub ListsGenotypes : ℕ → ℕ → List ℕ → List ℕ → ℕ → List ℕ → List ℕ → Type 0
ListsGenotypes p n row l r row' l' = TellsWriting (list_answer p n (length row)) (all_left p n row) l r row' l'

-- ---- genotypes in BCF

abbrev pub ReadsVector : List ℕ → ℕ → List ℕ → List ℕ → List ℕ → List ℕ → ℕ → List ℕ → List ℕ → List ℕ → List ℕ → Type 0
ReadsVector v width n m p l r n' m' p' l' = TellsReading (told_answer (width_by width) v n m p) (told_list (width_by width) v) n m p l r n' m' p' l'

abbrev pub WritesVector : List ℕ → List ℕ → List ℕ → ℕ → List ℕ → ℕ → List ℕ → ℕ → List ℕ → List ℕ → Type 0
WritesVector n m p entries out at l r out' l' = TellsWriting (row_answer entries n m p out at) (row_left entries n m p out at) l r out' l'

-- ---- filters, ALT and joining

abbrev pub JudgesFilter : List ℕ → ℕ → Type 0
JudgesFilter filter r = Judges (entry_answer Filters filter) r

abbrev pub JudgesAlt : List ℕ → ℕ → Type 0
JudgesAlt alt r = Judges (entry_answer Alts alt) r

abbrev pub CountsAlts : List ℕ → ℕ → Type 0
CountsAlts column r = r ≡ alt_count column

abbrev pub WritesFilters : List ℕ → List ℕ → List ℕ → ℕ → List ℕ → ℕ → List ℕ → List ℕ → Type 0
WritesFilters t ends out at l r out' l' = TellsWriting (Lists.write_answer Filters t ends out at) (Lists.list_left Filters t ends out at) l r out' l'

abbrev pub WritesAlts : List ℕ → List ℕ → List ℕ → ℕ → List ℕ → ℕ → List ℕ → List ℕ → Type 0
WritesAlts t ends out at l r out' l' = TellsWriting (Lists.write_answer Alts t ends out at) (Lists.list_left Alts t ends out at) l r out' l'

abbrev pub JoinsColumns : List ℕ → List ℕ → ℕ → List ℕ → ℕ → List ℕ → ℕ → List ℕ → List ℕ → Type 0
JoinsColumns t ends ending out at l r out' l' = TellsWriting (ended_answer t ends ending at out) (ended_left t ends ending at out) l r out' l'

-- ---- one outcome

-- two outcomes of a writer are equal: the number, the output and the values
abbrev pub OneWriting : (ℕ → List ℕ → List ℕ → Type 0) → Type 0
OneWriting allows = (r r' : ℕ) (out out' l l' : List ℕ) → allows r out l → allows r' out' l' → (r ≡ r') × (out ≡ out') × (l ≡ l')

-- and of a genotype reader: the number, the three slices and the values
abbrev pub OneReading : (ℕ → List ℕ → List ℕ → List ℕ → List ℕ → Type 0) → Type 0
OneReading allows = (r r' : ℕ) (n n' m m' p p' l l' : List ℕ) → allows r n m p l → allows r' n' m' p' l'
    → (r ≡ r') × (n ≡ n') × (m ≡ m') × (p ≡ p') × (l ≡ l')

pub record Determined : Type 0 where
  pub check_utf8 : (t : List ℕ) → OneAnswer (ChecksUtf8 t)
  pub find_space : (t l : List ℕ) → OneOutcome (FindsSpace t l)
  pub read_decimal : (t l : List ℕ) → OneOutcome (ReadsDecimal t l)
  pub print_decimal : (n : ℕ) (out l : List ℕ) → OneWriting (PrintsDecimal n out l)
  pub read_line : (s : List ℕ) (at : ℕ) (l : List ℕ) → OneOutcome (ReadsLine s at l)
  pub split_line : (s : List ℕ) (at : ℕ) (l : List ℕ) → OneOutcome (ReadsLine s at l)
  pub field_text : (s : List ℕ) (name start len : ℕ) (l : List ℕ) → OneOutcome (FindsText s name start len l)
  pub place_in : (s : List ℕ) (start len : ℕ) (l : List ℕ) → OneOutcome (FindsPlace s start len l)
  pub read_pos : (t l : List ℕ) → OneOutcome (ReadsPos t l)
  pub widen : (ending : ℕ) (numbers l : List ℕ) → OneOutcome (WidensRecord ending numbers l)
  pub narrow : (ending : ℕ) (places l : List ℕ) → OneOutcome (NarrowsWide ending places l)
  pub info_step : (column : List ℕ) (at : ℕ) (l : List ℕ) → OneOutcome (TakesInfoStep column at l)
  pub info_find : (column key l : List ℕ) → OneOutcome (FindsInfo column key l)
  pub info_value : (column key l : List ℕ) → OneOutcome (PlacesInfoValue column key l)
  pub info_count : (column : List ℕ) → OneAnswer (CountsInfo column)
  pub samples_count : (samples : List ℕ) → OneAnswer (CountsSamples samples)
  pub sample_at : (samples : List ℕ) (at : ℕ) (l : List ℕ) → OneOutcome (VisitsSample samples at l)
  pub sample : (samples : List ℕ) (n : ℕ) (l : List ℕ) → OneOutcome (GivesSample samples n l)
  pub subfield : (sample : List ℕ) (n : ℕ) (l : List ℕ) → OneOutcome (GivesSubfield sample n l)
  pub key_index : (format key l : List ℕ) → OneOutcome (FindsKey format key l)
  pub genotype_step : (t : List ℕ) (at : ℕ) (l : List ℕ) → OneOutcome (TakesGenotypeStep t at l)
  pub genotype_judge : (t : List ℕ) (room : ℕ) (l : List ℕ) → OneOutcome (JudgesGenotype t room l)
  pub genotype_judge_checked : (t alt : List ℕ) (room : ℕ) (l : List ℕ) → OneOutcome (JudgesChecked t alt room l)
  pub read_genotype : (t n m p l : List ℕ) → OneReading (ReadsGenotype t n m p l)
  pub read_genotype_checked : (t alt n m p l : List ℕ) → OneReading (ReadsChecked t alt n m p l)
  pub write_genotype : (n m p : List ℕ) (major minor : ℕ) (out : List ℕ) (at : ℕ) (l : List ℕ) → OneWriting (WritesGenotype n m p major minor out at l)
  pub count_genotypes : (p n : ℕ) (l : List ℕ) → OneOutcome (CountsGenotypes p n l)
  pub genotype_number : (g : List ℕ) (n : ℕ) (l : List ℕ) → OneOutcome (NumbersGenotype g n l)
  pub genotype_at : (i p n : ℕ) (row l : List ℕ) → OneWriting (PlacesGenotype i p n row l)
  pub list_genotypes : (p n : ℕ) (row l : List ℕ) → OneWriting (ListsGenotypes p n row l)
  pub read_vector : (v : List ℕ) (width : ℕ) (n m p l : List ℕ) → OneReading (ReadsVector v width n m p l)
  pub write_vector : (n m p : List ℕ) (entries : ℕ) (out : List ℕ) (at : ℕ) (l : List ℕ) → OneWriting (WritesVector n m p entries out at l)
  pub judge_filter : (filter : List ℕ) → OneAnswer (JudgesFilter filter)
  pub judge_alt : (alt : List ℕ) → OneAnswer (JudgesAlt alt)
  pub alt_count : (column : List ℕ) → OneAnswer (CountsAlts column)
  pub write_filters : (t ends out : List ℕ) (at : ℕ) (l : List ℕ) → OneWriting (WritesFilters t ends out at l)
  pub write_alts : (t ends out : List ℕ) (at : ℕ) (l : List ℕ) → OneWriting (WritesAlts t ends out at l)
  pub join : (t ends : List ℕ) (ending : ℕ) (out : List ℕ) (at : ℕ) (l : List ℕ) → OneWriting (JoinsColumns t ends ending out at l)
