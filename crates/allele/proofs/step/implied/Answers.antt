-- `allele::step::implied` meets its contract: a text implies that all are phased where it has no `/`. Assumes nothing.
use Rattle.allele.proofs.ImpliedLaws.{implied_from}
use Rattle.allele.proofs.step.implied.Goals as goal

pub returns : goal.returns
returns c = implied_from c.args.text.now c.args.from c.contains.ensures.value
