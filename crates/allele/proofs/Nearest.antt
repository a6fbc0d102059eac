-- The first allele of `0|1/2` is unphased: any later `/` counts, not only the nearest mark. By what the text means. Assumes
-- nothing.
use mathlib.Core.Path.{◌≡◌, refl, sym, ◌∙◌}
use mathlib.Core.Bool.{true, false}
use mathlib.Core.List.{[], ◌∷◌}
use native.Mathlib.Omega.{arith}
use Rattle.allele.specs.Reading.{list, reading_of}
use Rattle.allele.specs.Means.{none, more, bare}
use Rattle.allele.proofs.PhasedLaws.{phased_more}
use Rattle.allele.proofs.MeansLaws.{reads_means}
use Rattle.allele.proofs.BodyLaws.{digit_body}

pub any_slash : reading_of (48 ∷ 124 ∷ 49 ∷ 47 ∷ 50 ∷ [])
    ≡ list
    (record { number = 0; missing = false; phased = false }
    ∷ record { number = 1; missing = false; phased = true }
    ∷ record { number = 2; missing = false; phased = false }
    ∷ [])
any_slash = (reads_means _ _).1 (bare (sym (phased_more _ _ ∙ phased_more _ _)) (digit_body 0 false (omega arith)) (more refl (digit_body 1 true (omega arith)) (more refl (digit_body 2 false (omega arith)) none)))
