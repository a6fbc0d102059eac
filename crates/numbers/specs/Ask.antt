-- What the program's two arguments ask for (docs/RULES.md, "The program numbering"). Assumes nothing.
use Rattle.std.specs.Prelude.{ℕ, ◌≡◌, Bool, false, not, ◌&&◌, ◌||◌, List, [], ◌∷◌, length}
use Rattle.std.specs.Prelude as Maybe
use Rattle.std.proofs.Math.Option.{Option, some, none}
use Rattle.text.specs.Pick.{pick}
use Rattle.text.specs.Answer.{Answer, says}
use Rattle.pieces.specs.Pieces.{lacks}
use Rattle.decimal.specs.Decimal.{value_of}
use Rattle.allele.specs.Reading.{Reading, list, bad, empty, reading_of}
use Rattle.allele.specs.Row.{numbers_of}
use Rattle.allele.specs.declared.allele.Allele.{Allele}
use Rattle.numbering.specs.Ordering.{ordering}
use Rattle.numbering.specs.Answers.{limits, number_answer}
use Rattle.numbers.specs.Paper.{ask_paper}
use Rattle.numbers.specs.declared.ask.Ask.{Ask}

-- it holds a `/` or a `|`
unfoldable pub has_mark : List ℕ → Bool
has_mark t = not (lacks 47 t && lacks 124 t)

-- a ploidy and an allele count: these, and how many genotypes there are
unfoldable pub all_answer : Option ℕ → Option ℕ → Answer
all_answer none n = says 23 []
all_answer (some p) none = says 23 []
all_answer (some p) (some n) = pick (limits p n) (says 0 (p ∷ n ∷ length (ordering p n) ∷ [])) (says 23 [])

-- some allele is missing
unfoldable pub any_missing : List Allele → Bool
any_missing [] = false
any_missing (a ∷ as') = a.missing || any_missing as'

-- an allele count and a genotype: its number, however it is phased
unfoldable pub one_answer : Option ℕ → Reading → Answer
one_answer none r = says 23 []
one_answer (some n) (list as') = pick (any_missing as') (says 23 []) (number_answer n (numbers_of as'))
one_answer (some n) (bad k) = says 23 []
one_answer (some n) empty = says 23 []

unfoldable pub ask_answer : List ℕ → List ℕ → Answer
ask_answer s t = pick (has_mark t) (one_answer (value_of s) (reading_of t)) (all_answer (value_of s) (value_of t))

abbrev pub Asks : List ℕ → List ℕ → Maybe.Option Ask → Type 0
Asks s t r = ask_paper r ≡ ask_answer s t
