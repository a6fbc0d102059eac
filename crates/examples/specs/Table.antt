-- Sixteen worked examples as one table, and the one statement that the definitions answer as it says (docs/RULES.md, section 17).
-- Assumes nothing.
use Rattle.std.specs.Prelude.{ℕ, ◌≡◌, Bool, true, false, List, [], ◌∷◌, map, length}
use Prim.Native.Char.{code}
use Prim.Native.String as S
use Prim.Native.String.{String}
use Rattle.text.specs.Answer.{Answer, says}
use Rattle.text.specs.Over.{laid}
use Rattle.text.specs.Range.{cut, range_at}
use Rattle.fields.specs.Pos.{pos_answer}
use Rattle.lists.specs.Judge.{entry_answer}
use Rattle.lists.specs.Write.{list_text, entries_answer}
use Rattle.lists.specs.declared.write.Kind.TheVariants as K
use Rattle.allele.specs.Reading.{reading_of, list_of}
use Rattle.genotype.specs.Answers.{text_answer, checked_text}
use Rattle.allele.specs.declared.allele.Allele.{Allele}
use Rattle.spelling.specs.Spelling.{Spelled, spell}
use Rattle.spelling.specs.Permitted.{from44}
use Rattle.spelling.specs.Write.{spelled_answer, text_of}
use Rattle.info.specs.Info.{step_answer}

-- ---- questions and replies

-- the bytes of a text whose characters are below 80 hex: each is its own code
unfoldable pub bytes : String → List ℕ
bytes S.[] = []
bytes (S.◌∷◌ c s) = code c ∷ bytes s

pub data Question : Type 0 where
  -- the entry of an INFO column at a place
  info_at : String → ℕ → Question
  -- what a genotype text reads as
  genotype : String → Question
  -- and where an ALT column must have its alleles
  checked : String → String → Question
  -- how a list of alleles is written at a file format, major and minor
  spelling : ℕ → ℕ → List Allele → Question
  -- whether an ALT entry is valid
  alt : String → Question
  -- how a list of filters is written
  filters : List String → Question
  -- what a POS column reads as
  pos : String → Question

pub data Reply : Type 0 where
  -- the number, and the values that it carries
  plain : Answer → Reply
  -- and the bytes of the key and of the value, if there is one
  entry : Answer → List (List ℕ) → Reply
  -- and the alleles read, none of which is left by a refusal
  alleles : Answer → List Allele → Reply
  -- and the bytes written
  written : Answer → List ℕ → Reply

-- ---- what the definitions answer

-- the bytes at each of these places, start and length
unfoldable pub bytes_at : List ℕ → List ℕ → List (List ℕ)
bytes_at t [] = []
bytes_at t (start ∷ []) = []
bytes_at t (start ∷ len ∷ places) = cut (range_at start len) t ∷ bytes_at t places

-- the places follow the next place
unfoldable pub entry_reply : List ℕ → Answer → Reply
entry_reply t (says n []) = entry (says n []) []
entry_reply t (says n (next ∷ places)) = entry (says n (next ∷ places)) (bytes_at t places)

-- given a row as long as the list
unfoldable pub read_reply : List ℕ → Reply
read_reply t = alleles (text_answer t (length (list_of (reading_of t)))) (list_of (reading_of t))

unfoldable pub checked_reply : List ℕ → Answer → Reply
checked_reply t a = alleles a (laid a (list_of (reading_of t)) [])

-- given an output as long as the text
unfoldable pub spelled_reply : Spelled → Reply
spelled_reply s = written (spelled_answer s (text_of s)) (text_of s)

-- given an output as long as the text
unfoldable pub filters_reply : List (List ℕ) → Reply
filters_reply es = plain (entries_answer K.Filters es (list_text K.Filters es))

unfoldable pub answer_to : Question → Reply
answer_to (info_at t at) = entry_reply (bytes t) (step_answer (bytes t) at)
answer_to (genotype t) = read_reply (bytes t)
answer_to (checked t column) = checked_reply (bytes t) (checked_text (bytes t) (bytes column) (length (list_of (reading_of (bytes t)))))
answer_to (spelling major minor as') = spelled_reply (spell (from44 major minor) as')
answer_to (alt t) = plain (entry_answer K.Alts (bytes t))
answer_to (filters es) = filters_reply (map bytes es)
answer_to (pos t) = plain (pos_answer (bytes t))

-- ---- the table

infix 70 ◌gives◌
pub data Example : Type 0 where
  ◌gives◌ : Question → Reply → Example

unfoldable pub question_of : Example → Question
question_of (q gives r) = q

unfoldable pub reply_of : Example → Reply
reply_of (q gives r) = r

abbrev pub phased : ℕ → Allele
phased n = record { number = n; missing = false; phased = true }

abbrev pub unphased : ℕ → Allele
unphased n = record { number = n; missing = false; phased = false }

abbrev pub missing : Bool → Allele
missing p = record { number = 0; missing = true; phased = p }

-- at a site with no ALT, be it given as it stands in the line or as a field is read
unfoldable pub no_alt : String → List Example
no_alt column =
    checked "0" column gives alleles (says 0 (1 ∷ [])) (phased 0 ∷ [])
    ∷ checked "0|0" column gives alleles (says 0 (2 ∷ [])) (phased 0 ∷ phased 0 ∷ [])
    ∷ checked "." column gives alleles (says 0 (1 ∷ [])) (missing true ∷ [])
    ∷ checked "./." column gives alleles (says 0 (2 ∷ [])) (missing false ∷ missing false ∷ [])
    ∷ checked "0/." column gives alleles (says 0 (2 ∷ [])) (unphased 0 ∷ missing false ∷ [])
    ∷ checked "1" column gives alleles (says 20 (0 ∷ [])) []
    ∷ checked "0/1" column gives alleles (says 20 (1 ∷ [])) []
    ∷ checked "1|." column gives alleles (says 20 (0 ∷ [])) []
    ∷ []

-- an entry's answer has the next place, then start and length of the key and of the value; 12, 14 and 20 have an index, and 12 then
-- the place of the byte at fault
unfoldable pub table : List (List Example)
table =
    -- 1. the key, and an empty value
    (info_at "a=" 0 gives entry (says 0 (2 ∷ 0 ∷ 1 ∷ 2 ∷ 0 ∷ [])) (bytes "a" ∷ bytes "" ∷ []) ∷ [])
    -- 2. the `;` after a key is the last byte
    ∷ (info_at "a;" 0 gives entry (says 7 (2 ∷ [])) [] ∷ [])
    -- 3. the `;` after a value is the last byte
    ∷ (info_at "a=1;" 0 gives entry (says 9 (4 ∷ [])) [] ∷ [])
    -- 4. an empty key: the next place is 1
    ∷ (info_at ";;b" 0 gives entry (says 8 (1 ∷ [])) [] ∷ [])
    -- 5. a value may hold `=`
    ∷ (info_at "a=b=c" 0 gives entry (says 0 (5 ∷ 0 ∷ 1 ∷ 2 ∷ 3 ∷ [])) (bytes "a" ∷ bytes "b=c" ∷ []) ∷ [])
    -- 6. the first is unphased, since a later one is
    ∷ (genotype "0|1/2" gives alleles (says 0 (3 ∷ [])) (unphased 0 ∷ phased 1 ∷ unphased 2 ∷ []) ∷ [])
    -- 7. the first is phased by its own mark
    ∷ (genotype "|0/1" gives alleles (says 0 (2 ∷ [])) (phased 0 ∷ unphased 1 ∷ []) ∷ [])
    -- 8. an allele alone is phased
    ∷ (genotype "0" gives alleles (says 0 (1 ∷ [])) (phased 0 ∷ []) ∷ [])
    -- 9. 12 at index 1: a digit is missing at byte 2
    ∷ (genotype "0//1" gives alleles (says 12 (1 ∷ 2 ∷ [])) [] ∷ [])
    -- 10. one more than the greatest number, which its last digit passes
    ∷ (genotype "18446744073709551616" gives alleles (says 12 (0 ∷ 19 ∷ [])) [] ∷ [])
    -- 11. one unphased 0, at 4.4 and at 4.3
    ∷ (spelling 4 4 (unphased 0 ∷ []) gives written (says 0 (2 ∷ [])) (bytes "/0") ∷ spelling 4 3 (unphased 0 ∷ []) gives written (says 13 []) [] ∷ [])
    -- 12. valid, and 15
    ∷ (alt "<" gives plain (says 0 []) ∷ alt "<>" gives plain (says 15 []) ∷ [])
    -- 13. 14 at index 1
    ∷ (filters ("q10" ∷ "0" ∷ []) gives plain (says 14 (1 ∷ [])) ∷ [])
    -- 14. the position 1
    ∷ (pos "+1" gives plain (says 0 (1 ∷ [])) ∷ [])
    -- 15. and 16. no number but 0 at a site with no ALT
    ∷ no_alt "."
    ∷ no_alt ""
    ∷ []

-- every question of the table gets the reply that stands beside it
abbrev pub Holds : Type 0
Holds = map (map (λ e. answer_to (question_of e))) table ≡ map (map reply_of) table
