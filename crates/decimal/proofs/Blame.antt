-- Where a text has its first fault, over any relation of what can be read: there is one such place at most, and an answer that is
-- made of a value and that place is all that can be asked. Assumes nothing.
use Prim.Native.Nat.{ℕ, ◌+◌, ◌≤◌, ◌<◌}
use mathlib.Core.Path.{◌≡◌, refl, sym, ◌∙◌}
use mathlib.Core.Logic.{◌↔◌}
use mathlib.Core.List.{List, [], ◌∷◌, ◌++◌, append_assoc}
use mathlib.Core.Option.{Option, some, none}
use native.Mathlib.Omega.{arith}
use native.Mathlib.Decide.{dec_lt}
use lib.ListN.{take, drop, take-append-drop}
use lib.Seq.{take-take}
use Rattle.text.specs.Answer.{Answer, says}
use Rattle.decimal.specs.Decimal.{value_answer}
use Rattle.decimal.specs.Paper.{number_paper}
use Rattle.decimal.specs.Demands.{Readable, Begun, FaultAt, Meets}
use Rattle.decimal.proofs.Value.{answer_value, answer_bad}

-- ---- one place

module _ {can : List ℕ → Type 0} where
  begun_front : (t u : List ℕ) → Begun can (t ++ u) → Begun can t
  begun_front t u g = record { rest = u ++ g.rest; read = rw append_assoc at g.read }

  -- fewer bytes begin what more bytes do
  begun_less : (t : List ℕ) (j k : ℕ) → j ≤ k → Begun can (take k t) → Begun can (take j t)
  begun_less t j k h g =
      let e : take j t ++ drop j (take k t) ≡ take k t = rw (take-take j k t h) at (take-append-drop j (take k t)) in
      begun_front (take j t) (drop j (take k t)) (rw e g)

  before_not : {t : List ℕ} {j k : ℕ} → FaultAt can t j → FaultAt can t k → j < k → ⊥
  before_not {t} {j} {k} f g h = f.there (omega (arith, g.within)) (begun_less t (j + 1) k (omega arith) g.before)

  pub fault_one : {t : List ℕ} {j k : ℕ} → FaultAt can t j → FaultAt can t k → j ≡ k
  fault_one {t} {j} {k} f g =
      elim (dec_lt j k) [
        | yes h ↦ absurd (before_not f g h)
        | no h ↦ elim (dec_lt k j) [ yes l ↦ absurd (before_not g f l) | no l ↦ omega arith ]
      ]

-- ---- a value, or the place of the fault

module _ {reads : List ℕ → ℕ → Type 0} (value : List ℕ → Option ℕ) (fault : List ℕ → ℕ) (v : (t : List ℕ) (n : ℕ) → (value t ≡ some n) ↔ reads t n)
    (f : (t : List ℕ) → FaultAt (Readable reads) t (fault t)) where
  none_not : (t : List ℕ) → value t ≡ none → Readable reads t → ⊥
  none_not t e g = let z : ◌≡◌ {A = ℕ} 0 1 = cc ((v t g.value).1 g.is) in omega arith

  pub value_meets : Meets reads (λ (t : List ℕ). value_answer (value t) (fault t))
  unfolding number_paper value_answer
  value_meets =
      record {
        values = λ t n. (λ e. (v t n).0 (answer_value (value t) (fault t) (sym e)), λ g. rw ((v t n).1 g));
        faults = λ t k. (blamed t k, λ g. to_blame t k g.0 g.1 (value t) refl);
      }
    where
      blamed : (t : List ℕ) (k : ℕ) → value_answer (value t) (fault t) ≡ says 12 (k ∷ []) → (Readable reads t → ⊥) × FaultAt (Readable reads) t k
      blamed t k e = let b = answer_bad (value t) (fault t) (sym e) in (none_not t b.0, rw b.1 (f t))

      to_blame : (t : List ℕ) (k : ℕ) → (Readable reads t → ⊥) → FaultAt (Readable reads) t k → (o : Option ℕ) → value t ≡ o
          → value_answer (value t) (fault t) ≡ says 12 (k ∷ [])
      to_blame t k n g (some m) e = absurd (n (record { value = m; is = (v t m).0 e }))
      to_blame t k n g none e = rw (e, fault_one (f t) g)

  pub meets_one : (read other : List ℕ → Answer) → Meets reads read → Meets reads other → (t : List ℕ) → read t ≡ other t
  meets_one read other p q t = by (value t) refl
    where
      by : (o : Option ℕ) → value t ≡ o → read t ≡ other t
      by (some n) e = let r = (v t n).0 e in (p.values t n).1 r ∙ sym ((q.values t n).1 r)
      by none e = let g = none_not t e in (p.faults t (fault t)).1 (g, f t) ∙ sym ((q.faults t (fault t)).1 (g, f t))
