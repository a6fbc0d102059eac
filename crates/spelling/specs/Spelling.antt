-- How a list of alleles is spelled, or why it has no spelling (docs/RULES.md, "Genotypes"). Assumes nothing.
use Rattle.std.specs.Prelude.{ℕ, Bool, true, false, List, [], ◌∷◌, ◌++◌}
use Rattle.std.specs.Bool.{beq}
use Rattle.std.proofs.Math.Option.{Option, some, none}
use Rattle.text.specs.Pick.{pick}
use Rattle.decimal.specs.Shortest.{shortest}
use Rattle.allele.specs.Means.{mark_byte, all_phased}
use Rattle.allele.specs.Row.{first_unsound}
use Rattle.allele.specs.declared.allele.Allele.{Allele}

-- ---- the text

-- `.`, or the number
unfoldable pub body_text : Allele → List ℕ
body_text a = pick a.missing (46 ∷ []) (shortest a.number)

-- with its mark, unless it is bare
unfoldable pub allele_text : Bool → Allele → List ℕ
allele_text true a = body_text a
allele_text false a = mark_byte a.phased ∷ body_text a

-- the first bare or not, each later one with its mark
unfoldable pub list_text : Bool → List Allele → List ℕ
list_text bare [] = []
list_text bare (a ∷ as') = allele_text bare a ++ list_text false as'

-- ---- which lists have a spelling

-- the text; or the index of an allele that has none; or the first phasing can't be written; or the list is empty
pub data Spelled : Type 0 where
  text : List ℕ → Spelled
  bad : ℕ → Spelled
  phasing : Spelled
  empty : Spelled

-- bare where the first phasing is the implied one, else marked, from 4.4 on
unfoldable pub shaped : Bool → Bool → List Allele → Spelled
shaped true late as' = text (list_text true as')
shaped false true as' = text (list_text false as')
shaped false false as' = phasing

unfoldable pub judged : Option ℕ → Spelled → Spelled
judged none s = s
judged (some k) s = bad k

unfoldable pub spell : Bool → List Allele → Spelled
spell late [] = empty
spell late (a ∷ as') = judged (first_unsound 0 (a ∷ as')) (shaped (beq a.phased (all_phased as')) late (a ∷ as'))
