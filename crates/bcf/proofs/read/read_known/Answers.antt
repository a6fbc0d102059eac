-- `bcf::read::read_known` meets its contract: one law for each answer. Assumes nothing.
use Rattle.std.proofs.Common.{rules}
use Rattle.bcf.proofs.ReadLaws.{laws}
use Rattle.bcf.proofs.read.read_known.Goals as goal
use Rattle.bcf.proofs.read.read_known.Goals.{then-count-eq0-via-then-count-eq0, then-count-eq0-via-else-count-eq0+then-not-all_padding}

pub returns-then-numbers-missing : goal.returns-then-numbers-missing
returns-then-numbers-missing c = search (rules, laws)

pub returns-then-left_over-ne0 : goal.returns-then-left_over-ne0
returns-then-left_over-ne0 c = search (rules, laws)

pub returns-then-count-eq0 : goal.returns-then-count-eq0
returns-then-count-eq0 c =
    elim c.then-count-eq0.branch [
      | then-count-eq0-via-then-count-eq0 w ↦ search (rules, laws)
      | then-count-eq0-via-else-count-eq0+then-not-all_padding w ↦ search (rules, laws)
    ]

pub all_padding-requires : goal.all_padding-requires
all_padding-requires c = search (rules, laws)

pub returns-then-count-numbers : goal.returns-then-count-numbers
returns-then-count-numbers c = search (rules, laws)

pub returns : goal.returns
returns c = search (rules, laws)
