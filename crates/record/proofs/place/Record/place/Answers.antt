-- `record::place::Record::place` meets its contract: each arm is the definition's clause for its name. Assumes nothing.
use mathlib.Core.Path.{sym, ap, ◌∙◌}
use Rattle.record.specs.Place.{range_of}
use Rattle.record.proofs.place.Record.place.Goals as goal

pub returns-in-Chrom : goal.returns-in-Chrom
unfolding range_of
returns-in-Chrom c = c.span_of.ensures ∙ ap (range_of _) (sym c.in-Chrom.is)

pub returns-in-Pos : goal.returns-in-Pos
unfolding range_of
returns-in-Pos c = c.past_tab.ensures ∙ ap (range_of _) (sym c.in-Pos.is)

pub returns-in-Id : goal.returns-in-Id
unfolding range_of
returns-in-Id c = c.past_tab-in-Id.ensures ∙ ap (range_of _) (sym c.in-Id.is)

pub returns-in-Reference : goal.returns-in-Reference
unfolding range_of
returns-in-Reference c = c.past_tab-in-Reference.ensures ∙ ap (range_of _) (sym c.in-Reference.is)

pub returns-in-Alt : goal.returns-in-Alt
unfolding range_of
returns-in-Alt c = c.past_tab-in-Alt.ensures ∙ ap (range_of _) (sym c.in-Alt.is)

pub returns-in-Qual : goal.returns-in-Qual
unfolding range_of
returns-in-Qual c = c.past_tab-in-Qual.ensures ∙ ap (range_of _) (sym c.in-Qual.is)

pub returns-in-Filter : goal.returns-in-Filter
unfolding range_of
returns-in-Filter c = c.past_tab-in-Filter.ensures ∙ ap (range_of _) (sym c.in-Filter.is)

pub returns-in-Info : goal.returns-in-Info
unfolding range_of
returns-in-Info c = c.past_tab-in-Info.ensures ∙ ap (range_of _) (sym c.in-Info.is)

pub returns-in-Format : goal.returns-in-Format
unfolding range_of
returns-in-Format c = c.past_info.ensures ∙ ap (range_of _) (sym c.in-Format.is)

pub returns-in-Samples : goal.returns-in-Samples
unfolding range_of
returns-in-Samples c = c.past_info-in-Samples.ensures ∙ ap (range_of _) (sym c.in-Samples.is)
