-- POS goes by the value and the fault of the decimal; the one text of one byte that is worth 0 is `0`, since no other is as short. Assumes nothing.
use Prim.Native.Nat.{ℕ, zero, suc, ◌+◌, ◌<◌}
use mathlib.Core.Path.{◌≡◌, sym, ap, ◌∙◌}
use mathlib.Core.List.{List, [], ◌∷◌}
use mathlib.Core.Option.{some, none}
use native.Mathlib.Omega.{arith}
use native.Mathlib.Decide.{ℕ_discrete}
use lib.ListN.{length}
use Rattle.std.specs.Prelude.{Some, None, Result, Ok, Err}
use Rattle.text.specs.Answer.{says}
use Rattle.text.proofs.SameLaws.{same_self, same_not}
use Rattle.decimal.specs.Decimal.{value_of, fault_of, decimal_answer}
use Rattle.decimal.specs.Shortest.{shortest}
use Rattle.decimal.specs.Paper.{number_paper}
use Rattle.decimal.specs.declared.read.BadDecimal.{BadDecimal}
use Rattle.decimal.proofs.Demands.{reads_back, none_shorter}
use Rattle.decimal.proofs.Shortest.{shortest_one}
use Rattle.decimal.proofs.Value.{told_value, told_bad}
use Rattle.fields.specs.Pos.{positive, pos_answer}
use Rattle.fields.specs.Paper.{position_paper}
use Rattle.fields.specs.declared.pos.BadPosition.{BadPosition}

-- ---- one digit, and the texts worth 0

pub digit_value : (n : ℕ) → n < 10 → value_of ((48 + n) ∷ []) ≡ some n
digit_value n h = rw (shortest_one n h) at (reads_back n (omega arith))

pub zero_value : value_of (48 ∷ []) ≡ some 0
zero_value = digit_value 0 (omega arith)

zero_text : (t : List ℕ) → value_of t ≡ some 0 → length t ≡ 1 → t ≡ 48 ∷ []
zero_text [] e l = absurd (omega arith)
zero_text (b ∷ []) e l = by (ℕ_discrete b 48)
  where
    by : Dec (b ≡ 48) → b ∷ [] ≡ 48 ∷ []
    by (yes h) = rw h
    by (no h) =
        let z : shortest 0 ≡ 48 ∷ [] = shortest_one 0 (omega arith) in
        let n : length (shortest 0) < 1 = none_shorter 0 (b ∷ []) e (λ q. let w : b ∷ [] ≡ 48 ∷ [] = q ∙ z in h cc) in
        absurd (let m : length (shortest 0) ≡ 1 = ap length z in omega arith)
zero_text (b ∷ c ∷ t) e l = absurd (omega arith)

-- ---- the rules for POS

pub pos_zero : pos_answer (48 ∷ []) ≡ says 0 []
unfolding pos_answer
pos_zero = rw (same_self (48 ∷ []))

module _ (t : List ℕ) where
  pos_value : (t ≡ 48 ∷ [] → ⊥) → pos_answer t ≡ positive t (value_of t)
  unfolding pos_answer
  pos_value h = rw (same_not t (48 ∷ []) h)

  zero_worth : t ≡ 48 ∷ [] → value_of t ≡ some 0
  zero_worth z = rw z zero_value

  pub pos_some : (n : ℕ) → value_of t ≡ some n → 0 < n → pos_answer t ≡ says 0 (n ∷ [])
  unfolding positive
  pos_some zero e h = absurd (omega arith)
  pos_some (suc n) e h = pos_value (λ z. let q : 0 ≡ suc n = cc (zero_worth z) in omega arith) ∙ rw e

  pub pos_bad : value_of t ≡ none → pos_answer t ≡ says 21 (fault_of t ∷ [])
  unfolding positive
  pos_bad e = pos_value (λ z. let q : ◌≡◌ {A = ℕ} 0 1 = cc (zero_worth z) in omega arith) ∙ rw e

  pub pos_naught : value_of t ≡ some 0 → (t ≡ 48 ∷ [] → ⊥) → pos_answer t ≡ says 21 (length t ∷ [])
  unfolding positive
  pos_naught e h = pos_value h ∙ rw e

-- ---- the ways of the reader

module _ (t : List ℕ) {x : Result ℕ BadDecimal} (p : number_paper x ≡ decimal_answer t) where
  pub read_bad : {d : BadDecimal} {e : BadPosition} → x ≡ Err d → e.at ≡ d.at → position_paper (Err e) ≡ pos_answer t
  unfolding position_paper
  read_bad {d} q f = let g = told_bad d t (rw q at p) in rw (f, g.1) (sym (pos_bad t g.0))

  module _ {n : ℕ} (e : x ≡ Ok n) where
    value : value_of t ≡ some n
    value = told_value n t (rw e at p)

    pub read_some : (n ≡ 0 → ⊥) → position_paper (Ok (Some n)) ≡ pos_answer t
    unfolding position_paper
    read_some h = sym (pos_some t n value (omega arith))

    value_none : n ≡ 0 → value_of t ≡ some 0
    value_none z = rw z at value

    pub read_zero : n ≡ 0 → length t ≡ 1 → position_paper (Ok None) ≡ pos_answer t
    unfolding position_paper
    read_zero h l = let w = zero_text t (value_none h) l in rw w (sym pos_zero)

    pub read_naught : {f : BadPosition} → f.at ≡ length t → n ≡ 0 → (length t ≡ 1 → ⊥) → position_paper (Err f) ≡ pos_answer t
    unfolding position_paper
    read_naught g h l = rw g (sym (pos_naught t (value_none h) (λ w. l (ap length w))))

pub ruleset laws = (read_bad, read_some, read_zero, read_naught)
