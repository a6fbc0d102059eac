-- POS: `0` is none, else a decimal worth 1 or more (docs/RULES.md, "A line"). Assumes nothing.
use Rattle.std.specs.Prelude.{ℕ, zero, suc, List, [], ◌∷◌, length}
use Rattle.std.proofs.Math.Option.{Option, some, none}
use Rattle.text.specs.Pick.{pick}
use Rattle.text.specs.Answer.{Answer, says}
use Rattle.text.specs.Same.{same}
use Rattle.decimal.specs.Decimal.{value_of, fault_of}

-- the value of a decimal, 1 or more; else 21 with the place of the decimal's fault, or with the length where it is worth 0
unfoldable pub positive : List ℕ → Option ℕ → Answer
positive t none = says 21 (fault_of t ∷ [])
positive t (some zero) = says 21 (length t ∷ [])
positive t (some (suc n)) = says 0 (suc n ∷ [])

-- 0 alone for none, 0 and the position, or 21
unfoldable pub pos_answer : List ℕ → Answer
pos_answer t = pick (same t (48 ∷ [])) (says 0 []) (positive t (value_of t))
