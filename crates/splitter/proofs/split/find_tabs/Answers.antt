-- `splitter::split::find_tabs` meets its contract: up to the place that is looked at, what is kept is that of the tabs seen; the joined ways of a turn are taken apart. Assumes nothing.
use mathlib.Core.Path.{◌∙◌}
use Rattle.std.proofs.Common.{rules}
use Rattle.splitter.proofs.TabLaws.{nine_more, nine_full, looked_tab, looked_beside, look_new, look_old, look_none, laws}
use Rattle.splitter.proofs.split.find_tabs.Goals.{then-t-i-eq9, then-count-lt9, else-count-lt9, then-i-start+then-gap-end, else-i-start, else-i-start-via-then-i-start+else-gap-end, else-i-start-via-else-i-start, else-t-i-eq9}
use Rattle.splitter.proofs.split.find_tabs.Goals as goal

pub loop-i-init : goal.loop-i-init
loop-i-init c = search (rules, laws)

pub loop-i-preserved : goal.loop-i-preserved
loop-i-preserved c =
    let g = c.loop-i.invariant in
    let h = c.loop-i-test.true in
    elim c.if-t-i-eq9.branch [
      | then-t-i-eq9 w ↦
          rw (w.count-is, w.ends-is, w.gap-is, w.start-is)
          (looked_tab g h w.if-t-i-eq9.true
          (elim w.if-count-lt9.branch [
            | then-count-lt9 v ↦ rw v.ends-is (nine_more g.nine _ g.counted v.if-count-lt9.true)
            | else-count-lt9 v ↦ rw v.ends-is (nine_full g.nine _ g.counted v.if-count-lt9.false)
          ])
          (elim w.if-i-start.branch [
            | then-i-start+then-gap-end v ↦ v.gap-is ∙ look_new g h v.if-i-start.true v.if-gap-end.true
            | else-i-start v ↦ v.gap-is
                ∙ elim v.else-i-start.branch [
                  | else-i-start-via-then-i-start+else-gap-end u ↦ look_old g h u.if-gap-end.false
                  | else-i-start-via-else-i-start u ↦ look_none g h u.if-i-start.false
                ]
          ]))
      | else-t-i-eq9 w ↦ rw (w.count-is, w.ends-is, w.gap-is, w.start-is) (looked_beside g h w.if-t-i-eq9.false)
    ]

pub returns : goal.returns
returns c = search (rules, laws)
