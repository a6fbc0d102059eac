-- `line::read::read_line` meets its contract: what the blocks tell is in order; else the columns are judged. Assumes nothing.
use Rattle.std.proofs.Common.{rules}
use Rattle.line.proofs.AnswerLaws.{reads_ordered, reads_told, laws}
use Rattle.line.proofs.SwiftLaws.{judged_bounded}
use Rattle.line.proofs.read.read_line.Goals.{in-Some, in-None+in_ok-end-in-None}
use Rattle.line.proofs.read.read_line.Goals as goal

pub returns-then-at-s-clause-reads_line : goal.returns-then-at-s-clause-reads_line
returns-then-at-s-clause-reads_line c = search (rules, laws)

pub returns-then-at-s-2-clause-reads_line : goal.returns-then-at-s-2-clause-reads_line
returns-then-at-s-2-clause-reads_line c = search (rules, laws)

pub returns-in_err-end-in-None-clause-reads_line : goal.returns-in_err-end-in-None-clause-reads_line
returns-in_err-end-in-None-clause-reads_line c = search (rules, laws)

pub finish-requires : goal.finish-requires
finish-requires c =
    elim c.match-line_by_blocks.branch [
      | in-Some w ↦ rw (w.tabs-is, w.bounds-is) w.in-Some.ensures
      | in-None+in_ok-end-in-None w ↦
          rw (w.tabs-is, w.bounds-is)
          (judged_bounded
          (reads_ordered _ _ c.if-at-s.false c.if-at-s-2.false w.judge.result w.judge.ensures.result_value w.in_ok-end-in-None.was)
          (reads_told _ _ c.if-at-s.false c.if-at-s-2.false w.judge.result w.judge.ensures.result_value w.judge.ensures.marks w.in_ok-end-in-None.was))
    ]

pub returns-clause-reads_line : goal.returns-clause-reads_line
returns-clause-reads_line c = search (rules, laws)
