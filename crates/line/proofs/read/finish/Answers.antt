-- `line::read::finish` meets its contract: bytes below 80 hex are UTF-8; else the check tells. Assumes nothing.
use mathlib.Core.Path.{sym, ◌∙◌}
use Rattle.line.proofs.SwiftLaws.{checked_text, checked_broken, bounded_before, bounded_plain, bounded_line, bounded_broken}
use Rattle.line.proofs.read.finish.Goals.{else-not-plain-via-then-not-plain+else-is_err, else-not-plain-via-else-not-plain}
use Rattle.line.proofs.read.finish.Goals as goal

pub returns-then-is_err-clause-result_value : goal.returns-then-is_err-clause-result_value
returns-then-is_err-clause-result_value c =
    bounded_broken c.requires (checked_broken _ c.check_utf8.result c.check_utf8.ensures (sym c.is_err.ensures.value ∙ c.if-is_err.true))

pub overflow_sub-next : goal.overflow_sub-next
overflow_sub-next c = bounded_before c.requires

pub returns-clause-result_value : goal.returns-clause-result_value
returns-clause-result_value c =
    bounded_line c.requires
    (elim c.else-not-plain.branch [
      | else-not-plain-via-then-not-plain+else-is_err w ↦ checked_text _ w.check_utf8.result w.check_utf8.ensures (sym w.is_err.ensures.value ∙ w.if-is_err.false)
      | else-not-plain-via-else-not-plain w ↦ bounded_plain c.requires w.if-not-plain.false
    ])
    _ _ c.by_size-ending.ensures c.fields_of.ensures
