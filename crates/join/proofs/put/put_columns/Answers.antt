-- `join::put::put_columns` meets its contract: the columns still to write, joined and laid from the place reached, leave what all leave. Assumes nothing.
use Rattle.std.proofs.Common.{rules}
use Rattle.join.proofs.PutLaws.{put_laws}
use Rattle.join.proofs.put.put_columns.Goals as goal

pub loop-i-init : goal.loop-i-init
loop-i-init c = search (rules, put_laws)

pub put_column-at-requires : goal.put_column-at-requires
put_column-at-requires c = search (rules, put_laws)

pub slice_bounds-put_column-count : goal.slice_bounds-put_column-count
slice_bounds-put_column-count c = search (rules, put_laws)

pub slice_bounds-put_column-start : goal.slice_bounds-put_column-start
slice_bounds-put_column-start c = search (rules, put_laws)

pub slice_bounds-put_column-end : goal.slice_bounds-put_column-end
slice_bounds-put_column-end c = search (rules, put_laws)

pub overflow_sub-end : goal.overflow_sub-end
overflow_sub-end c = search (rules, put_laws)

pub loop-i-preserved : goal.loop-i-preserved
loop-i-preserved c = search (rules, put_laws)

pub overflow_sub-last : goal.overflow_sub-last
overflow_sub-last c = search (rules, put_laws)

pub overflow_add-at : goal.overflow_add-at
overflow_add-at c = search (rules, put_laws)

pub slice_bounds-copy-end : goal.slice_bounds-copy-end
slice_bounds-copy-end c = search (rules, put_laws)

pub slice_bounds-copy-count : goal.slice_bounds-copy-count
slice_bounds-copy-count c = search (rules, put_laws)

pub slice_bounds-copy-start : goal.slice_bounds-copy-start
slice_bounds-copy-start c = search (rules, put_laws)

pub slice_bounds-copy-end-2 : goal.slice_bounds-copy-end-2
slice_bounds-copy-end-2 c = search (rules, put_laws)

pub returns : goal.returns
returns c = search (rules, put_laws)
