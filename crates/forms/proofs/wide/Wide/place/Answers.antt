-- `forms::wide::Wide::place` meets its contract: each arm is the definition's clause for its name. Assumes nothing.
use mathlib.Core.Path.{sym, ap}
use Rattle.forms.specs.Paper.{wide_range}
use Rattle.forms.proofs.wide.Wide.place.Goals as goal

pub returns-in-Chrom : goal.returns-in-Chrom
unfolding wide_range
returns-in-Chrom c = ap (wide_range c.args.self) (sym c.in-Chrom.is)

pub returns-in-Pos : goal.returns-in-Pos
unfolding wide_range
returns-in-Pos c = ap (wide_range c.args.self) (sym c.in-Pos.is)

pub returns-in-Id : goal.returns-in-Id
unfolding wide_range
returns-in-Id c = ap (wide_range c.args.self) (sym c.in-Id.is)

pub returns-in-Reference : goal.returns-in-Reference
unfolding wide_range
returns-in-Reference c = ap (wide_range c.args.self) (sym c.in-Reference.is)

pub returns-in-Alt : goal.returns-in-Alt
unfolding wide_range
returns-in-Alt c = ap (wide_range c.args.self) (sym c.in-Alt.is)

pub returns-in-Qual : goal.returns-in-Qual
unfolding wide_range
returns-in-Qual c = ap (wide_range c.args.self) (sym c.in-Qual.is)

pub returns-in-Filter : goal.returns-in-Filter
unfolding wide_range
returns-in-Filter c = ap (wide_range c.args.self) (sym c.in-Filter.is)

pub returns-in-Info : goal.returns-in-Info
unfolding wide_range
returns-in-Info c = ap (wide_range c.args.self) (sym c.in-Info.is)

pub returns-in-Format : goal.returns-in-Format
unfolding wide_range
returns-in-Format c = ap (wide_range c.args.self) (sym c.in-Format.is)

pub returns-in-Samples : goal.returns-in-Samples
unfolding wide_range
returns-in-Samples c = ap (wide_range c.args.self) (sym c.in-Samples.is)
