-- `alleles::write::write_alleles` meets its contract: beyond the output, or written from the place on. Assumes nothing.
use Rattle.alleles.proofs.WriteLaws.{writes_beyond, writes_rest}
use Rattle.alleles.proofs.write.write_alleles.Goals as goal

pub returns-then-at-out : goal.returns-then-at-out
returns-then-at-out c = writes_beyond c.args.row.now c.args.major c.args.minor c.args.out.now c.args.at c.note_numbers.ensures c.if-at-out.true

pub returns : goal.returns
returns c = writes_rest c.args.row.now c.args.major c.args.minor c.args.out.now c.args.at c.note_numbers.ensures c.if-at-out.false c.write_rest.ensures
