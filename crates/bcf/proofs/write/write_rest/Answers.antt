-- `bcf::write::write_rest` meets its contract: by what the judge tells. Assumes nothing.
use Rattle.std.proofs.lemmas.Result.{err_from_is_err_and}
use Rattle.spelling.specs.Row.{list_of}
use Rattle.bcf.proofs.WriteLaws.{list_empty, list_bad, list_most, list_sound}
use Rattle.bcf.proofs.write.write_rest.Goals as goal

pub returns-then-len-eq0 : goal.returns-then-len-eq0
returns-then-len-eq0 c = list_empty (list_of c.args.row) _ _ c.len.ensures c.if-len-eq0.true

pub returns-in_err-most : goal.returns-in_err-most
returns-in_err-most c =
    let p = err_from_is_err_and c.from_residual.result c.from_residual.ensures.1 in
    rw (p.1, p.2) (list_bad (list_of c.args.row) _ _ c.len.ensures c.if-len-eq0.false (c.in_err-most.ensures.is _ c.args.row.parallel))

pub write_sound-requires : goal.write_sound-requires
write_sound-requires c = list_most (list_of c.args.row) (c.in_ok-most.ensures.is _ c.args.row.parallel)

pub returns : goal.returns
returns c = list_sound (list_of c.args.row) _ _ c.len.ensures c.if-len-eq0.false (c.in_ok-most.ensures.is _ c.args.row.parallel) c.write_sound.ensures
