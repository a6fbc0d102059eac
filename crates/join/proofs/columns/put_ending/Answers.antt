-- `join::columns::put_ending` meets its contract: one law for each ending, which has room. Assumes nothing.
use Rattle.join.proofs.JoinLaws.{laws}
use Rattle.std.proofs.Common.{rules}
use Rattle.join.proofs.columns.put_ending.Goals as goal

pub bounds-out-0 : goal.bounds-out-0
bounds-out-0 c = search (rules, laws)

pub slice_bounds-copy_from_slice-end : goal.slice_bounds-copy_from_slice-end
slice_bounds-copy_from_slice-end c = search (rules, laws)

pub slice_bounds-copy_from_slice-end-in-ReturnFeed : goal.slice_bounds-copy_from_slice-end-in-ReturnFeed
slice_bounds-copy_from_slice-end-in-ReturnFeed c = search (rules, laws)

pub copy_from_slice-requires : goal.copy_from_slice-requires
copy_from_slice-requires c = search (rules, laws)

pub returns-in-Nothing : goal.returns-in-Nothing
returns-in-Nothing c = search (rules, laws)

pub returns-in-Feed : goal.returns-in-Feed
returns-in-Feed c = search (rules, laws)

pub returns-in-ReturnFeed : goal.returns-in-ReturnFeed
returns-in-ReturnFeed c = search (rules, laws)
