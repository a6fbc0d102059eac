-- What `entry_text` shows is the entry of the list, since the ends rise, or the empty text. Assumes nothing.
use Rattle.entries.proofs.PlaceLaws.{entry_or_none}
use Rattle.entries.proofs.list.Entries.get.Goals as goal

pub returns : goal.returns
returns c = record { part = c.entry_text.ensures; bytes = entry_or_none _ _ _ c.entry_text.ensures c.args.self.rise }
