-- `forms::turn::numbers_by` meets its contract: the ends one by one are the list's. Assumes nothing.
use Rattle.forms.proofs.TurnLaws.{numbers_told}
use Rattle.forms.proofs.turn.numbers_by.Goals as goal

pub returns : goal.returns
returns c = numbers_told
    _
    c.requires.ten
    c.end_at.ensures
    c.end_at-2.ensures
    c.end_at-3.ensures
    c.end_at-4.ensures
    c.end_at-5.ensures
    c.end_at-6.ensures
    c.end_at-7.ensures
    c.end_at-8.ensures
    c.end_at-9.ensures
    c.end_at-10.ensures
