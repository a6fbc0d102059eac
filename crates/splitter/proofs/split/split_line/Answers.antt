-- `splitter::split::split_line` meets its contract: what each step found is what the next is given. Assumes nothing.
use Rattle.std.proofs.Common.{rules}
use Rattle.splitter.proofs.SplitLaws.{laws}
use Rattle.splitter.proofs.split.split_line.Goals as goal

pub returns-then-at-s-clause-reads_line : goal.returns-then-at-s-clause-reads_line
returns-then-at-s-clause-reads_line c = search (rules, laws)

pub slice_bounds-find_tabs-end : goal.slice_bounds-find_tabs-end
slice_bounds-find_tabs-end c = search (rules, laws)

pub find_tabs-tabs-requires : goal.find_tabs-tabs-requires
find_tabs-tabs-requires c = search (rules, laws)

pub judge-requires : goal.judge-requires
judge-requires c = search (rules, laws)

pub returns-in_default-clause-reads_line : goal.returns-in_default-clause-reads_line
returns-in_default-clause-reads_line c = search (rules, laws)
