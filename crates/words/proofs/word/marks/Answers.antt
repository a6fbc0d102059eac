-- The steps on the word are steps on each byte: the law over all words of bytes, at eight. Assumes nothing.
use Rattle.words.proofs.WordLaws.{marks_made}
use Rattle.words.proofs.word.marks.Goals as goal

pub returns : goal.returns
returns c = marks_made c.args.bytes.now c.args.b c.told-bytes c.fits-bytes c.ranges.b.fits c.from_le_bytes.ensures c.from.ensures
