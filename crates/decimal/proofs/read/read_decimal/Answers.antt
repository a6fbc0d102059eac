-- A plus sign first, with digits or a fault behind it, or none: one law for each. Assumes nothing.
use Rattle.decimal.proofs.ReadLaws.{laws}
use Rattle.std.proofs.Common.{rules}
use Rattle.decimal.proofs.read.read_decimal.Goals as goal
use Rattle.decimal.proofs.read.read_decimal.Goals.{in_default-via-then-s-lt1, in_default-via-else-s-lt1+in_default-1}

pub returns-in_default : goal.returns-in_default
returns-in_default c =
    elim c.in_default.branch [
      | in_default-via-then-s-lt1 w ↦ search (rules, laws)
      | in_default-via-else-s-lt1+in_default-1 w ↦ search (rules, laws)
    ]

pub map_err-requires : goal.map_err-requires
map_err-requires c = λ e q x y. search (rules, laws)

pub returns : goal.returns
returns c = search (rules, laws)
