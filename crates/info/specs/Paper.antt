-- The number on paper, and the values, of each answer of this crate (docs/RULES.md, "Numbers answered"). Assumes nothing.
use Rattle.std.specs.Prelude.{ℕ, List, [], ◌∷◌, Option, Some, None, Result, Ok, Err}
use Rattle.text.specs.Answer.{Answer, says}
use Rattle.text.specs.Range.{range_places}
use Rattle.text.specs.declared.range.Range.{Range}
use Rattle.info.specs.declared.step.Entry.{Entry}
use Rattle.info.specs.declared.step.NoEntry.{NoEntry}
use Rattle.info.specs.declared.step.NoEntry.TheVariants as N

-- an entry and the next place, or why there is none
abbrev pub Step : Type 0
Step = Result (Entry × ℕ) NoEntry

-- nothing where it is absent
unfoldable pub value_places : Option Range → List ℕ
value_places None = []
value_places (Some r) = range_places r

unfoldable pub entry_places : Entry → List ℕ
unfolding value_places
entry_places e = e.key.start ∷ e.key.len ∷ value_places e.value

-- the next place, and the places of the entry
unfoldable pub step_paper : Step → Answer
unfolding entry_places
step_paper (Ok (e, next)) = says 0 (next ∷ entry_places e)
step_paper (Err (N.Beyond next)) = says 6 (next ∷ [])
step_paper (Err (N.AfterKey next)) = says 7 (next ∷ [])
step_paper (Err (N.NoKey next)) = says 8 (next ∷ [])
step_paper (Err (N.AfterValue next)) = says 9 (next ∷ [])
step_paper (Err (N.Nothing next)) = says 10 (next ∷ [])
