-- `splitter::split::judge` meets its contract: each way through it is the verdict on the columns, by what is known of the tabs. Assumes nothing.
use mathlib.Core.Path.{sym, ◌∙◌}
use Rattle.std.proofs.Common.{arith, rules, ◌-◌, ◌≡◌, true, false, take, drop}
use Rattle.text.specs.Utf8.{is_utf8}
use Rattle.line.proofs.SwiftLaws.{checked_text, checked_broken}
use Rattle.splitter.proofs.JudgeLaws.{count_few, laws}
use Rattle.splitter.proofs.split.judge.Goals as goal

pub returns-then-tabs-end-clause-reads_line : goal.returns-then-tabs-end-clause-reads_line
returns-then-tabs-end-clause-reads_line c = search (rules, laws)

pub overflow_add-tabs : goal.overflow_add-tabs
overflow_add-tabs c = omega (arith, count_few c.requires, c.well_formed)

pub returns-in-Nothing-clause-reads_line : goal.returns-in-Nothing-clause-reads_line
returns-in-Nothing-clause-reads_line c = search (rules, laws)

pub returns-in-Feed-clause-reads_line : goal.returns-in-Feed-clause-reads_line
returns-in-Feed-clause-reads_line c = search (rules, laws)

pub returns-in-Nothing-ending-clause-reads_line : goal.returns-in-Nothing-ending-clause-reads_line
returns-in-Nothing-ending-clause-reads_line c = search (rules, laws)

pub returns-in-Feed-ending-clause-reads_line : goal.returns-in-Feed-ending-clause-reads_line
returns-in-Feed-ending-clause-reads_line c = search (rules, laws)

pub slice_bounds-check_utf8-count : goal.slice_bounds-check_utf8-count
slice_bounds-check_utf8-count c = search (rules, laws)

pub slice_bounds-check_utf8-start : goal.slice_bounds-check_utf8-start
slice_bounds-check_utf8-start c = search (rules, laws)

pub slice_bounds-check_utf8-end : goal.slice_bounds-check_utf8-end
slice_bounds-check_utf8-end c = search (rules, laws)

pub returns-clause-reads_line : goal.returns-clause-reads_line
returns-clause-reads_line c =
    let u : is_utf8 (take (c.args.line.end - c.args.at) (drop c.args.at c.args.s.now)) ≡ true = checked_text _ c.check_utf8.result c.check_utf8.ensures (sym c.is_err.ensures.value ∙ c.if-is_err.false) in
    search (rules, laws)

pub returns-clause-keeps_numbers : goal.returns-clause-keeps_numbers
returns-clause-keeps_numbers c = search (rules, laws)

pub returns-then-is_err-clause-reads_line : goal.returns-then-is_err-clause-reads_line
returns-then-is_err-clause-reads_line c =
    let u : is_utf8 (take (c.args.line.end - c.args.at) (drop c.args.at c.args.s.now)) ≡ false = checked_broken _ c.check_utf8.result c.check_utf8.ensures (sym c.is_err.ensures.value ∙ c.if-is_err.true) in
    search (rules, laws)
