-- `join::columns::judge_columns` meets its contract: the columns from i on are judged as all are from 0 on; then the line's length is the last end, a tab for each column but one, and the ending. Assumes nothing.
use mathlib.Core.Path.{◌∙◌}
use Rattle.std.proofs.Common.{arith, rules}
use Rattle.entries.proofs.PlaceLaws.{entry_shown}
use Rattle.join.proofs.JoinLaws.{laws}
use Rattle.join.proofs.columns.judge_columns.Goals as goal

pub returns-then-is_refused : goal.returns-then-is_refused
returns-then-is_refused c = search (rules, laws, c.new-column.ensures ∙ entry_shown _ _ _ c.entry_text.ensures c.requires.text_value (omega arith))

pub returns-then-not-is_utf8 : goal.returns-then-not-is_utf8
returns-then-not-is_utf8 c = search (rules, laws, c.new-column.ensures ∙ entry_shown _ _ _ c.entry_text.ensures c.requires.text_value (omega arith))

pub loop-i-preserved : goal.loop-i-preserved
loop-i-preserved c = search (rules, laws, c.new-column.ensures ∙ entry_shown _ _ _ c.entry_text.ensures c.requires.text_value (omega arith))

pub returns : goal.returns
returns c = search (rules, laws)
