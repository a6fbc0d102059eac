-- The definition goes by whether the range holds a `.`, as the code does; such a range ends within the buffer. Assumes nothing.
use Rattle.std.proofs.Common.{arith}
use Rattle.std.proofs.Common.{rules}
use Rattle.std.proofs.lemmas.Result.{err_from_is_err_and}
use Rattle.fields.proofs.FieldLaws.{dot_within, laws}
use Rattle.fields.proofs.field.text_in.Goals as goal

pub dot-requires : goal.dot-requires
dot-requires c = let h = dot_within c.args.s.now c.args.range c.is_dot.ensures c.if-is_dot.true in
    omega arith

pub returns-then-is_dot : goal.returns-then-is_dot
returns-then-is_dot c = search (rules, laws)

pub returns-in_err-place_in : goal.returns-in_err-place_in
returns-in_err-place_in c =
    let p = err_from_is_err_and c.from_residual.result c.from_residual.ensures.1 in
    rw p.1 (search (rules, laws, c.in_err-place_in.ensures))

pub returns : goal.returns
returns c = search (rules, laws, c.in_ok-place_in.ensures)
