-- The number so far, with the digits from `i` on, keeps the value of the whole, and one law says what each way through a turn makes of that. Assumes nothing.
use Rattle.std.proofs.Common.{rules}
use Rattle.decimal.proofs.ReadLaws.{laws}
use Rattle.decimal.proofs.read.read_digits.Goals as goal
use Rattle.decimal.proofs.read.read_digits.Goals.{then-acc-gt-TENTH-via-then-acc-gt-TENTH, then-acc-gt-TENTH-via-else-acc-gt-TENTH+then-d-acc}

pub returns-then-is_empty : goal.returns-then-is_empty
returns-then-is_empty c = search (rules, laws)

pub loop-i-init : goal.loop-i-init
loop-i-init c = search (rules, laws)

pub returns-then-not-is_ascii_digit : goal.returns-then-not-is_ascii_digit
returns-then-not-is_ascii_digit c = search (rules, laws)

pub returns-then-acc-gt-TENTH : goal.returns-then-acc-gt-TENTH
returns-then-acc-gt-TENTH c =
    elim c.then-acc-gt-TENTH.branch [
      | then-acc-gt-TENTH-via-then-acc-gt-TENTH w ↦ search (rules, laws)
      | then-acc-gt-TENTH-via-else-acc-gt-TENTH+then-d-acc w ↦ search (rules, laws)
    ]

pub loop-i-preserved : goal.loop-i-preserved
loop-i-preserved c = search (rules, laws)

pub returns : goal.returns
returns c = search (rules, laws)
