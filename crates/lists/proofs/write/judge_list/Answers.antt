-- `lists::write::judge_list` meets its contract: the entries still to judge are judged as all are. Assumes nothing.
use Rattle.std.proofs.Common.{rules}
use Rattle.entries.proofs.PlaceLaws.{entry_shown}
use Rattle.lists.proofs.WriteLaws.{laws}
use Rattle.lists.proofs.write.judge_list.Goals as goal

pub loop-i-preserved : goal.loop-i-preserved
loop-i-preserved c = search (rules, laws, entry_shown _ _ _ c.entry_text.ensures)

pub returns-in-Err : goal.returns-in-Err
returns-in-Err c = search (rules, laws, entry_shown _ _ _ c.entry_text.ensures)

pub returns : goal.returns
returns c = search (rules, laws)
