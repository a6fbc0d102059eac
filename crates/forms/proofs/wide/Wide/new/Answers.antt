-- `forms::wide::Wide::new` meets its contract: its numbers one by one are the list's. Assumes nothing.
use Rattle.forms.proofs.WideLaws.{wide_made}
use Rattle.forms.proofs.wide.Wide.new.Goals as goal

pub returns : goal.returns
returns c = wide_made
    _
    _
    c.well_formed.1.0.1.0.1
    c.range_of.ensures
    c.range_of-2.ensures
    c.range_of-3.ensures
    c.range_of-4.ensures
    c.range_of-5.ensures
    c.range_of-6.ensures
    c.range_of-7.ensures
    c.range_of-8.ensures
    c.range_of-9.ensures
    c.range_of-10.ensures
