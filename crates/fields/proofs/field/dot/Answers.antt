-- Each arm's answer is the definition's clause for its names. Assumes nothing.
use Rattle.std.proofs.Common.{arith}
use Rattle.std.proofs.lemmas.Grind.{common_steps}
use Rattle.fields.specs.Fields.{dot_answer}
use Rattle.fields.specs.Paper.{field_paper}
use Rattle.fields.proofs.field.dot.Goals as goal

pub returns-in-Id : goal.returns-in-Id
unfolding field_paper dot_answer
returns-in-Id c = grind (arith, common_steps)

pub returns-in-Qual : goal.returns-in-Qual
unfolding field_paper dot_answer
returns-in-Qual c = grind (arith, common_steps)

pub returns-in-Chrom : goal.returns-in-Chrom
unfolding field_paper dot_answer
returns-in-Chrom c = grind (arith, common_steps)
