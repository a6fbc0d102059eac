-- `text::utf8::is_ascii` meets its contract: the flags gathered are below 80 hex exactly where each byte passed is. Assumes nothing.
use Rattle.text.specs.Flags.{Plain}
use Rattle.text.proofs.FlagLaws.{GatheredOf}
use Rattle.text.proofs.utf8.is_ascii.Given as goal

abbrev pub invariant-loop-i : goal.invariant-loop-i
invariant-loop-i l = GatheredOf l.n Plain l.s l.at l.i 127 l.h
