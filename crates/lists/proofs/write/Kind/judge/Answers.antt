-- `lists::write::Kind::judge` meets its contract: a search that is broken refuses, and where it is done the tests are those of the definition. Assumes nothing.
use Rattle.std.proofs.Common.{rules}
use Rattle.std.proofs.lemmas.Result.{err_from_is_err_and}
use Rattle.lists.proofs.JudgeLaws.{laws}
use Rattle.lists.proofs.write.Kind.judge.Goals.{then-branch-via-then-branch, then-branch-via-else-branch+then-not-is_fine}
use Rattle.lists.proofs.write.Kind.judge.Goals as goal

pub returns-in_err-find_space : goal.returns-in_err-find_space
returns-in_err-find_space c =
    let p = err_from_is_err_and c.from_residual.result c.from_residual.ensures.1 in
    rw (p.1, p.2) (search (rules, laws, c.in_err-find_space.ensures))

pub returns-then-branch : goal.returns-then-branch
returns-then-branch c =
    elim c.then-branch.branch [ then-branch-via-then-branch w ↦ search (rules, laws, c.in_ok-find_space.ensures) | then-branch-via-else-branch+then-not-is_fine w ↦ search (rules, laws, c.in_ok-find_space.ensures) ]

pub returns : goal.returns
returns c = search (rules, laws, c.in_ok-find_space.ensures)
