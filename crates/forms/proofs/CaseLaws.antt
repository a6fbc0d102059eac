-- What each answer says on paper, for who knows which it is. Assumes nothing.
use mathlib.Core.Path.{◌≡◌}
use mathlib.Core.List.{[], ◌∷◌}
use Rattle.std.specs.Prelude.{Result, Ok, Err}
use Rattle.text.specs.Answer.{says}
use Rattle.record.specs.Ending.{ending_number}
use Rattle.record.specs.Paper.{ending_of, record_numbers}
use Rattle.record.specs.declared.place.Record.{Record}
use Rattle.forms.specs.Paper.{wide_places, widened_paper, narrowed_paper}
use Rattle.forms.specs.declared.wide.Wide.{Wide}
use Rattle.forms.specs.declared.turn.NotMade.{NotMade}

module _ {x : Result Wide NotMade} where
  pub widened_form : {w : Wide} → x ≡ Ok w → widened_paper x ≡ says 0 (ending_number (ending_of w.ending) ∷ wide_places w)
  unfolding widened_paper
  widened_form e = rw e

  pub widened_none : {e : NotMade} → x ≡ Err e → widened_paper x ≡ says 32 []
  unfolding widened_paper
  widened_none e = rw e

module _ {x : Result Record NotMade} where
  pub narrowed_record : {r : Record} → x ≡ Ok r → narrowed_paper x ≡ says 0 (ending_number (ending_of r.ending) ∷ record_numbers r)
  unfolding narrowed_paper
  narrowed_record e = rw e

  pub narrowed_none : {e : NotMade} → x ≡ Err e → narrowed_paper x ≡ says 32 []
  unfolding narrowed_paper
  narrowed_none e = rw e
