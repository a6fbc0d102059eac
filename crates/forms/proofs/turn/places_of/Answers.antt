-- `forms::turn::places_of` meets its contract: the ten places one by one. Assumes nothing.
use Rattle.record.proofs.SpanLaws.{places_told}
use Rattle.forms.proofs.turn.places_of.Goals as goal

pub returns : goal.returns
returns c = places_told
    _
    c.place-chrom.ensures
    c.place-pos.ensures
    c.place-id.ensures
    c.place-reference.ensures
    c.place-alt.ensures
    c.place-qual.ensures
    c.place-filter.ensures
    c.place-info.ensures
    c.place-format.ensures
    c.place-samples.ensures
