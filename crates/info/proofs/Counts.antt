-- The count is by clauses of its definition, and that of the texts between `;`; on `=a` it is not the number of steps, which are told by the laws of entries. Assumes nothing.
use Prim.Native.Nat.{ℕ, ◌+◌, ◌<◌}
use mathlib.Core.Path.{◌≡◌, refl, sym, ap, ◌∙◌}
use mathlib.Core.List.{List, [], ◌∷◌}
use native.Mathlib.Omega.{arith}
use lib.ListN.{length}
use Rattle.text.specs.Answer.{says}
use Rattle.pieces.specs.Pieces.{pieces, count_of}
use Rattle.pieces.proofs.CountLaws.{count_none, count_other}
use Rattle.pieces.proofs.PieceLaws.{split_count, pieces_none, pieces_some}
use Rattle.info.specs.Info.{alone, places_of, step_answer, info_count}
use Rattle.info.specs.Demands.{equals_first, spelled, Ends, now, later, Counts}
use Rattle.info.proofs.EntryLaws.{byte_good, step_end, step_last}
use Rattle.info.proofs.Steps.{shape_answer}

pub counts : Counts info_count
unfolding info_count
counts = record { none = refl; some = some }
  where
    some : (t : List ℕ) → 0 < length t → info_count t ≡ count_of 59 t + 1
    some [] h = absurd (omega arith)
    some (b ∷ s) h = refl

-- as many as the texts between `;`
pub count_pieces : (t : List ℕ) → info_count t ≡ length (pieces 59 t)
unfolding info_count
count_pieces [] = rw (pieces_none 59 [] refl)
count_pieces (b ∷ s) = rw (pieces_some 59 (b ∷ s) (omega arith)) (sym (split_count 59 (b ∷ s)))

pub counted : (t : List ℕ) {n : ℕ} → n ≡ length (pieces 59 t) → n ≡ info_count t
counted t e = e ∙ sym (count_pieces t)

pub ruleset laws = (counted)

-- ---- `=a`

abbrev keyless_column : List ℕ
keyless_column = 61 ∷ 97 ∷ []

-- it holds no `;`
pub keyless_count : count_of 59 (61 ∷ 97 ∷ []) ≡ 0
keyless_count = count_other 59 (97 ∷ []) (λ z. omega arith) ∙ count_other 59 [] (λ z. omega arith) ∙ count_none 59

keyless_step : step_answer keyless_column 0 ≡ says 8 (1 ∷ [])
keyless_step = shape_answer (equals_first refl)

key_step : step_answer keyless_column 1 ≡ says 0 (2 ∷ places_of 1 (alone (97 ∷ [])))
unfolding spelled
key_step = step_last keyless_column 1 (alone (97 ∷ [])) (byte_good 97 (λ z. omega arith) (λ z. omega arith)) refl

-- its count is 1, and two steps come before the 10
pub count_not_steps : (info_count (61 ∷ 97 ∷ []) ≡ 1) × Ends step_answer (61 ∷ 97 ∷ []) 0 3
unfolding info_count
count_not_steps =
    (ap (λ (n : ℕ). n + 1) keyless_count, later {n = 2} keyless_step (λ z. omega arith) (later {n = 1} key_step (λ z. omega arith) (now (step_end keyless_column 2 refl))))
