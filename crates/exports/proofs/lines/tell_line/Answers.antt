-- The values are the next place, the ending and the ten places, as the paper has them. Assumes nothing.
use Rattle.exports.proofs.KnownLaws.{line_told}
use Rattle.exports.proofs.lines.tell_line.Goals as goal

pub returns : goal.returns
returns c = line_told _ _ c.tell.ensures
    c.ending.ensures
    c.size-ending.ensures
    c.place-chrom.ensures
    c.place-pos.ensures
    c.place-id.ensures
    c.place-reference.ensures
    c.place-alt.ensures
    c.place-qual.ensures
    c.place-filter.ensures
    c.place-info.ensures
    c.place-format.ensures
    c.place-samples.ensures
