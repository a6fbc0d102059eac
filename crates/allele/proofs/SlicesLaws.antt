-- Slices that are lent stay the same slices, whatever is stored in them. Assumes nothing.
use mathlib.Core.Path.{refl, ◌∙◌}
use Rattle.allele.specs.Slices.{SameSlices}
use Rattle.allele.specs.declared.row.RowMut.{RowMut}

pub same_first : (row : RowMut) → SameSlices row row
same_first row = record { numbers = refl; missing = refl; phased = refl }

pub same_more : {old mid new : RowMut} → SameSlices old mid → SameSlices mid new → SameSlices old new
same_more f g = record { numbers = g.numbers ∙ f.numbers; missing = g.missing ∙ f.missing; phased = g.phased ∙ f.phased }
