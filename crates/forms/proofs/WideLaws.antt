-- The old form by its places: a list's numbers one by one. Assumes nothing.
use Prim.Native.Nat.{ℕ}
use mathlib.Core.Path.{◌≡◌, refl}
use mathlib.Core.List.{List, [], ◌∷◌}
use lib.ListN.{length, get_or}
use Rattle.text.specs.Range.{range_at}
use Rattle.text.specs.declared.range.Range.{Range}
use Rattle.record.specs.declared.ending.Ending.{Ending}
use Rattle.record.proofs.NumberLaws.{twenty}
use Rattle.forms.specs.Paper.{wide_places}
use Rattle.forms.specs.Promises.{GivesPlaces, MakesWide}
use Rattle.forms.specs.declared.wide.Wide.{Wide}

pub wide_made : (ending : Ending) (l : List ℕ) {chrom pos id reference alt qual filter info format samples : Range} → length l ≡ 20 → chrom ≡ range_at (get_or l 0 0) (get_or l 1 0) → pos ≡ range_at (get_or l 2 0) (get_or l 3 0) → id ≡ range_at (get_or l 4 0) (get_or l 5 0) → reference ≡ range_at (get_or l 6 0) (get_or l 7 0) → alt ≡ range_at (get_or l 8 0) (get_or l 9 0) → qual ≡ range_at (get_or l 10 0) (get_or l 11 0) → filter ≡ range_at (get_or l 12 0) (get_or l 13 0) → info ≡ range_at (get_or l 14 0) (get_or l 15 0) → format ≡ range_at (get_or l 16 0) (get_or l 17 0) → samples ≡ range_at (get_or l 18 0) (get_or l 19 0)
    → MakesWide ending l (record { ending = ending; chrom = chrom; pos = pos; id = id; reference = reference; alt = alt; qual = qual; filter = filter; info = info; format = format; samples = samples })
unfolding wide_places
wide_made ending l n a b c d e f g h i j = (refl, rw (a, b, c, d, e, f, g, h, i, j) (twenty l n))

pub places_given : (w : Wide) → GivesPlaces w (w.chrom.start ∷ w.chrom.len ∷ w.pos.start ∷ w.pos.len ∷ w.id.start ∷ w.id.len ∷ w.reference.start ∷ w.reference.len ∷ w.alt.start ∷ w.alt.len ∷ w.qual.start ∷ w.qual.len ∷ w.filter.start ∷ w.filter.len ∷ w.info.start ∷ w.info.len ∷ w.format.start ∷ w.format.len ∷ w.samples.start ∷ w.samples.len ∷ [])
unfolding wide_places
places_given w = refl

pub ruleset laws = (wide_made, places_given)
