-- `entries::joined::put_joined` meets its contract: entries that fit are written, and no other answer writes. Assumes nothing.
use Rattle.std.proofs.lemmas.Result.{err_from_is_err_and}
use Rattle.entries.proofs.JoinedLaws.{joins_wrong, joins_short, joins_done}
use Rattle.entries.proofs.joined.put_joined.Goals as goal

pub returns-in_err-list : goal.returns-in_err-list
returns-in_err-list c =
    let p = err_from_is_err_and c.from_residual.result c.from_residual.ensures.1 in
    rw (p.1, p.2) (joins_wrong _ c.args.text c.args.ends _ c.in_err-list.ensures)

pub returns-in_err-put : goal.returns-in_err-put
returns-in_err-put c =
    let p = err_from_is_err_and c.from_residual-in_err-put.result c.from_residual-in_err-put.ensures.1 in
    rw (p.1, p.2) (joins_short _ c.args.text c.args.ends _ c.in_ok-list.list c.in_ok-list.ensures c.in_err-put.ensures)

pub returns : goal.returns
returns c = joins_done _ c.args.text c.args.ends _ c.in_ok-list.list c.in_ok-list.ensures c.in_ok-put.ensures
