-- Two outcomes of a writer are one where each is refused exactly when it is due: a refusal of one is the other's. What an outcome has
-- written is what was laid over its output. Assumes nothing.
use Prim.Native.Nat.{ℕ, ◌+◌, ◌≤◌}
use mathlib.Core.Path.{◌≡◌, refl, sym, ap, ◌∙◌}
use mathlib.Core.Logic.{◌↔◌}
use mathlib.Core.List.{List, [], ◌∷◌}
use native.Mathlib.Omega.{arith}
use native.Mathlib.Decide.{ℕ_discrete}
use lib.ListN.{length, take, drop}
use Rattle.text.specs.Answer.{Answer, says, number_of}
use Rattle.text.specs.Outcome.{Outcome, WrittenAs, laid_over, HasWritten}
use Rattle.text.proofs.Lists.{take_over_at}

pub same_outcome : {o o' : Outcome} → o.answer ≡ o'.answer → o.output ≡ o'.output → o ≡ o'
same_outcome p q = λ i. record { answer = p i; output = q i }

-- two answers, each of which is a refusal exactly where that is due, are both done, or are one refusal
pub alike : {X : Type 0} {due : Answer → Type 0} {a b : Answer} → ((x : Answer) → (number_of x ≡ 0 → ⊥) → (a ≡ x) ↔ due x) → ((x : Answer) → (number_of x ≡ 0 → ⊥) → (b ≡ x) ↔ due x)
    → (number_of a ≡ 0 → number_of b ≡ 0 → X) → (a ≡ b → (number_of a ≡ 0 → ⊥) → (number_of b ≡ 0 → ⊥) → X) → X
alike {X} {due} {a} {b} g h done refused = by (ℕ_discrete (number_of a) 0) (ℕ_discrete (number_of b) 0)
  where
    same : (number_of a ≡ 0 → ⊥) → b ≡ a
    same n = (h a n).1 ((g a n).0 refl)

    same_back : (number_of b ≡ 0 → ⊥) → a ≡ b
    same_back n = (g b n).1 ((h b n).0 refl)

    by : Dec (number_of a ≡ 0) → Dec (number_of b ≡ 0) → X
    by (yes z) (yes z') = done z z'
    by (no n) (no n') = refused (sym (same n)) n n'
    by (yes z) (no n') = absurd (n' (sym (ap number_of (same_back n')) ∙ z))
    by (no n) (yes z') = absurd (n (sym (ap number_of (same n)) ∙ z'))

-- an answer other than 0 is given exactly where it is due, and then the output is left as it was
pub record RefusedWhen (due : Answer → Type 0) (out : List ℕ) (o : Outcome) : Type 0 where
  pub given : (a : Answer) → (number_of a ≡ 0 → ⊥) → (o.answer ≡ a) ↔ due a
  pub left : (number_of o.answer ≡ 0 → ⊥) → o.output ≡ out

-- two that are so, and are one where both are done, are one
pub one_outcome : {due : Answer → Type 0} {out : List ℕ} {o o' : Outcome} → RefusedWhen due out o → RefusedWhen due out o'
    → (number_of o.answer ≡ 0 → number_of o'.answer ≡ 0 → o ≡ o') → o ≡ o'
one_outcome r r' both = alike r.given r'.given both (λ e n n'. same_outcome e (r.left n ∙ sym (r'.left n')))

-- ---- the text written

-- there is one
pub written_one : {o : Outcome} {at : ℕ} {t u : List ℕ} → HasWritten o at t → HasWritten o at u → t ≡ u
written_one {t = t} {u} w v =
    let c : says 0 (length t ∷ []) ≡ says 0 (length u ∷ []) = sym w.count ∙ v.count in
    let n : length t ≡ length u = cc in
    sym w.bytes ∙ rw n v.bytes

module _ {Is : List ℕ → Type 0} {out : List ℕ} {at : ℕ} {o : Outcome} (w : WrittenAs Is out at o) where
  pub was_written : HasWritten o at w.text
  was_written = let f = w.fits in record { count = w.count; bytes = rw w.bytes (take_over_at at w.text out (length w.text) (omega arith) refl) }

  -- no other text was
  pub written_is : {t : List ℕ} → HasWritten o at t → Is t
  written_is h = rw (written_one h was_written) w.is

  -- two outcomes with one text are one
  pub one_written : {o' : Outcome} (w' : WrittenAs Is out at o') → w.text ≡ w'.text → o ≡ o'
  one_written w' e = same_outcome (w.count ∙ rw e (sym w'.count)) (w.bytes ∙ rw e (sym w'.bytes))

pub laid_written : {o : Outcome} (t out : List ℕ) (at : ℕ) → o ≡ laid_over t out at → at + length t ≤ length out → HasWritten o at t
laid_written t out at e h = rw e (record { count = refl; bytes = take_over_at at t out (length t) (omega arith) refl })

-- it has as many bytes as are answered
pub written_length : {o : Outcome} {at n : ℕ} {t : List ℕ} → HasWritten o at t → o.answer ≡ says 0 (n ∷ []) → length t ≡ n
written_length {n = n} {t} w e = let c : says 0 (length t ∷ []) ≡ says 0 (n ∷ []) = sym w.count ∙ e in cc

-- so it is found in what is left
pub written_taken : {o : Outcome} {at n : ℕ} {t left : List ℕ} → HasWritten o at t → o.answer ≡ says 0 (n ∷ []) → left ≡ o.output → HasWritten o at (take n (drop at left))
written_taken w e q = rw (q, ← written_length w e, w.bytes) w
