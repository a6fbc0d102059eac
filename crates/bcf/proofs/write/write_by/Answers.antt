-- `bcf::write::write_by` meets its contract: one law for each answer; the padding lies behind the codes. Assumes nothing.
use Rattle.spelling.specs.Row.{list_of}
use Rattle.bcf.proofs.WriteLaws.{entries_long, entries_short, entries_codes, entries_done}
use Rattle.bcf.proofs.write.write_by.Goals as goal

pub returns-then-count-entries : goal.returns-then-count-entries
returns-then-count-entries c = entries_long (list_of c.args.row) _ _ _ c.len-count.ensures c.if-count-entries.true

pub returns-then-entries-whole_in : goal.returns-then-entries-whole_in
returns-then-entries-whole_in c = entries_short (list_of c.args.row) _ _ _ c.len-count.ensures c.if-count-entries.false c.whole_in.ensures c.if-entries-whole_in.true

pub put_codes-requires-clause-room : goal.put_codes-requires-clause-room
put_codes-requires-clause-room c = entries_codes (list_of c.args.row) _ _ _ c.len-count.ensures c.if-count-entries.false c.whole_in.ensures c.if-entries-whole_in.false

pub returns : goal.returns
returns c = entries_done (list_of c.args.row) _ _ _ c.len-count.ensures c.if-count-entries.false c.whole_in.ensures c.if-entries-whole_in.false c.put_codes.ensures c.size-size.ensures c.put_padding.ensures
