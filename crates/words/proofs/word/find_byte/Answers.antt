-- The invariant says that the first b from i on is the first from `from` on; the lowest mark of a word is its first b. Assumes nothing.
use Rattle.std.proofs.Common.{rules}
use Rattle.words.proofs.FindLaws.{word_none, word_some, laws}
use Rattle.words.proofs.word.find_byte.Goals as goal

pub returns-then-from-s : goal.returns-then-from-s
returns-then-from-s c = search (rules, laws)

pub loop-bytes-init : goal.loop-bytes-init
loop-bytes-init c = search (rules, laws)

pub returns-then-marks-ne0 : goal.returns-then-marks-ne0
returns-then-marks-ne0 c =
    let e = c.in-Some.ensures.cases in
    word_some c.loop-bytes.invariant _ e.0 e.2 c.marks-marks.ensures c.if-marks-ne0.true c.below.ensures

pub loop-bytes-preserved : goal.loop-bytes-preserved
loop-bytes-preserved c =
    let e = c.in-Some.ensures.cases in
    word_none c.loop-bytes.invariant _ e.0 e.2 c.marks-marks.ensures c.if-marks-ne0.false
