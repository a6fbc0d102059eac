-- `line::read::judge` meets its contract: what is left from column k on is judged as the whole, and the tabs before it are kept. Assumes nothing.
use Rattle.std.proofs.Common.{rules}
use Rattle.line.proofs.ReadLaws.{stop_feed, laws as judged-laws}
use Rattle.line.proofs.MarkLaws.{marks_fed, laws}
use Rattle.line.proofs.read.judge.Goals as goal

pub columns-preserved : goal.columns-preserved
columns-preserved c = search (rules, judged-laws, laws)

pub returns-then-tab-start-clause-result_value : goal.returns-then-tab-start-clause-result_value
returns-then-tab-start-clause-result_value c = search (rules, judged-laws)

pub returns-in-Feed-clause-marks : goal.returns-in-Feed-clause-marks
returns-in-Feed-clause-marks c =
    marks_fed c.requires.at_in_bounds c.columns.invariant.going c.columns.invariant.kept c.judge_fed.result c.judge_fed.ensures (stop_feed c.column_end.ensures c.in-Feed.is)

pub returns-in-Input-clause-marks : goal.returns-in-Input-clause-marks
returns-in-Input-clause-marks c = search (rules, judged-laws, laws)
