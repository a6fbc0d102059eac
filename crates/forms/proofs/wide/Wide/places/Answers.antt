-- `forms::wide::Wide::places` meets its contract: these are the form's places. Assumes nothing.
use Rattle.forms.proofs.WideLaws.{laws}
use Rattle.std.proofs.Common.{rules}
use Rattle.forms.proofs.wide.Wide.places.Goals as goal

pub returns : goal.returns
returns c = search (rules, laws)
