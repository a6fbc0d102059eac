-- `forms::made::is_chained` meets its contract: at each turn one field less is left. Assumes nothing.
use Rattle.forms.proofs.ChainLaws.{Chaining}
use Rattle.forms.proofs.made.is_chained.Given as goal

abbrev pub invariant-loop-i : goal.invariant-loop-i
invariant-loop-i l = Chaining l.places l.n l.i
