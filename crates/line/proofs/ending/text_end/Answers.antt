-- `line::ending::text_end` meets its contract: one case of the definition for each way out. Assumes nothing.
use Rattle.std.proofs.Common.{arith, rules}
use Rattle.line.specs.Inner.{input, none, bare}
use Rattle.line.proofs.ReadLaws.{laws}
use Rattle.line.proofs.ending.text_end.Goals.{else-stop-s-via-then-stop-s+then-start-stop+else-s-stop-eq13, else-stop-s-via-then-stop-s+else-start-stop, else-stop-s-via-else-stop-s}
use Rattle.line.proofs.ending.text_end.Goals as goal

pub returns-then-s-stop-eq13 : goal.returns-then-s-stop-eq13
returns-then-s-stop-eq13 c = search (rules, laws)

pub returns : goal.returns
returns c =
    elim c.else-stop-s.branch [
      | else-stop-s-via-then-stop-s+then-start-stop+else-s-stop-eq13 w ↦ bare w.if-start-stop.true w.if-s-stop-eq13.false
      | else-stop-s-via-then-stop-s+else-start-stop w ↦ none (omega (arith, c.requires, w.if-start-stop.false))
      | else-stop-s-via-else-stop-s w ↦ input (omega (arith, c.requires, w.if-stop-s.false))
    ]
