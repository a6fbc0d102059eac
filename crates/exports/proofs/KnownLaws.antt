-- What is told of a line, and of an allele. Assumes nothing.
use Prim.Native.Nat.{ℕ}
use mathlib.Core.Path.{◌≡◌, refl, ◌∙◌}
use mathlib.Core.List.{List, [], ◌∷◌}
use Rattle.std.specs.Prelude.{Ok}
use Rattle.text.specs.Answer.{says}
use Rattle.text.specs.declared.range.Range.{Range}
use Rattle.text.specs.Pick.{one_if}
use Rattle.record.specs.Place.{range_of}
use Rattle.record.specs.Ending.{ending_number}
use Rattle.record.specs.Paper.{ending_of}
use Rattle.record.specs.Promises.{SizesEnding, GivesEnding}
use Rattle.record.specs.declared.ending.Ending.{Ending}
use Rattle.record.specs.declared.place.Record.{Record}
use Rattle.record.specs.declared.place.Name.TheVariants as N
use Rattle.line.specs.Paper.{read_paper}
use Rattle.record.proofs.EndingLaws.{ending_told}
use Rattle.line.proofs.CaseLaws as L
use Rattle.allele.specs.Paper as GP
use Rattle.allele.specs.declared.allele.Allele.{Allele}
use Rattle.allele.proofs.CaseLaws as A
use Rattle.exports.specs.Told.{Tells}
use Rattle.exports.proofs.ToldLaws.{told_case}

module _ {r : ℕ} {l l' : List ℕ} where
  pub line_told : (line : Record) (next : ℕ) {x : Ending} {size : ℕ} {chrom pos id reference alt qual filter info format samples : Range}
      → Tells (says 0 (next ∷ size ∷ chrom.start ∷ chrom.len ∷ pos.start ∷ pos.len ∷ id.start ∷ id.len ∷ reference.start ∷ reference.len ∷ alt.start ∷ alt.len ∷ qual.start ∷ qual.len ∷ filter.start ∷ filter.len ∷ info.start ∷ info.len ∷ format.start ∷ format.len ∷ samples.start ∷ samples.len ∷ [])) l r l'
      → GivesEnding line x
      → SizesEnding x size
      → chrom ≡ range_of line N.Chrom
      → pos ≡ range_of line N.Pos
      → id ≡ range_of line N.Id
      → reference ≡ range_of line N.Reference
      → alt ≡ range_of line N.Alt
      → qual ≡ range_of line N.Qual
      → filter ≡ range_of line N.Filter
      → info ≡ range_of line N.Info
      → format ≡ range_of line N.Format
      → samples ≡ range_of line N.Samples
      → Tells (read_paper (Ok (line, next))) l r l'
  line_told line next {x} {size} t k m a b c d e f g h i j =
      let z : size ≡ ending_number (ending_of line.ending) = ending_told {x = x} m k in
      told_case (L.read_line refl ∙ rw (z, a, b, c, d, e, f, g, h, i, j)) t

  pub allele_told : (a : Allele) (next : ℕ) {n m p : ℕ} → n ≡ a.number → m ≡ one_if a.missing → p ≡ one_if a.phased
      → Tells (says 0 (next ∷ n ∷ m ∷ p ∷ [])) l r l' → Tells (GP.step_paper (Ok (a, next))) l r l'
  allele_told a next e f g t = told_case (A.step_found refl ∙ rw (e, f, g)) t
