-- What a turn answers on paper (docs/RULES.md, "Numbers answered"). Assumes nothing.
use Rattle.std.specs.Prelude.{ℕ, [], ◌∷◌, Result, Ok, Err}
use Rattle.text.specs.Answer.{Answer, says}
use Rattle.listing.specs.Turn.{Move, beyond, more, ended, on, gives}
use Rattle.listing.specs.declared.turn.ReadRow.{ReadRow}
use Rattle.listing.specs.declared.turn.Turn.{Turn}
use Rattle.listing.specs.declared.turn.Turn.TheVariants as T
use Rattle.listing.specs.declared.turn.Refusal.{Refusal}
use Rattle.listing.specs.declared.turn.Refusal.TheVariants as F

-- a refusal's number
unfoldable pub refusal_number : Refusal → ℕ
refusal_number F.Empty = 2
refusal_number F.Fed = 3
refusal_number F.Cut = 4
refusal_number F.NotUtf8 = 5
refusal_number F.Long = 22

unfoldable pub row_paper : Result ReadRow Refusal → Answer
row_paper (Ok row) = says 0 (row.columns ∷ row.infos ∷ row.samples ∷ [])
row_paper (Err why) = says (refusal_number why) []

unfoldable pub turn_paper : Turn → Move
turn_paper T.Beyond = beyond
turn_paper T.More = more
turn_paper T.End = ended
turn_paper (T.On phase next) = on phase next
turn_paper (T.Found row phase next) = gives (row_paper row) phase next
