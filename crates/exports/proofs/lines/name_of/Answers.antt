-- Each arm is the field of its number. Assumes nothing.
use Rattle.std.proofs.Common.{rules}
use Rattle.exports.specs.Places.{name_of}
use Rattle.exports.proofs.NameLaws.{name_is, name_last}
use Rattle.exports.proofs.lines.name_of.Goals as goal

pub returns-in-0 : goal.returns-in-0
unfolding name_of
returns-in-0 c = search (rules, name_is)

pub returns-in-1 : goal.returns-in-1
unfolding name_of
returns-in-1 c = search (rules, name_is)

pub returns-in-2 : goal.returns-in-2
unfolding name_of
returns-in-2 c = search (rules, name_is)

pub returns-in-3 : goal.returns-in-3
unfolding name_of
returns-in-3 c = search (rules, name_is)

pub returns-in-4 : goal.returns-in-4
unfolding name_of
returns-in-4 c = search (rules, name_is)

pub returns-in-5 : goal.returns-in-5
unfolding name_of
returns-in-5 c = search (rules, name_is)

pub returns-in-6 : goal.returns-in-6
unfolding name_of
returns-in-6 c = search (rules, name_is)

pub returns-in-7 : goal.returns-in-7
unfolding name_of
returns-in-7 c = search (rules, name_is)

pub returns-in-8 : goal.returns-in-8
unfolding name_of
returns-in-8 c = search (rules, name_is)

pub returns-in_default : goal.returns-in_default
returns-in_default c = search (rules, name_last)
