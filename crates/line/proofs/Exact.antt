-- A line is faulty, or columns begin it: so a reader that refuses just the faulty ones, and moves on, is exact. Assumes nothing.
use Prim.Native.Nat.{ℕ}
use mathlib.Core.Path.{◌≡◌, refl, sym, ap, ◌∙◌}
use mathlib.Core.List.{List, [], ◌∷◌}
use native.Mathlib.Omega.{arith}
use lib.ListN.{drop}
use Rattle.text.specs.Answer.{Answer, says, number_of, values_of}
use Rattle.record.specs.Ending.{Ending}
use Rattle.line.specs.Line.{read_answer}
use Rattle.line.specs.Demands.{Begins, Reader, Refuses, Exact, Faults, Moved, MovesOn}
use Rattle.line.proofs.ShapeLaws.{begins_read}
use Rattle.line.proofs.MovesOn.{moves_on}
use Rattle.line.proofs.Faults.{Told, faulty, begun, told, faulty_answer, faulty_refuses, faults}

-- ---- what an answer is

pub answer_is : (a : Answer) {n : ℕ} {vs : List ℕ} → number_of a ≡ n → values_of a ≡ vs → a ≡ says n vs
answer_is (says n vs) p q = rw (p, q)

-- one that moves on, and is not 0, has its next place and nothing more
pub alone_is : {s : List ℕ} {at : ℕ} (a : Answer) {n : ℕ} (m : Moved s at a) → number_of a ≡ n → (n ≡ 0 → ⊥) → a ≡ says n (m.next ∷ [])
alone_is a m e h = answer_is a e (m.values ∙ ap (λ (l : List ℕ). m.next ∷ l) (m.alone (λ z. h (sym e ∙ z))))

-- ---- exact

-- a reader that refuses just the faulty lines, and moves on, is exact
pub faults_exact : (read : Reader) → Faults read → MovesOn read → Exact read
unfolding Faults MovesOn Exact
faults_exact read f m s at h = (λ r cs e rest b. refused r b, λ none. by none (told s at))
  where
    refused : Refuses (read s at) → {cs : List (List ℕ)} {e : Ending} {rest : List ℕ} → Begins (drop at s) cs e rest → ⊥
    refused r b =
        let a = faulty_answer s at h ((f s at h _ _).0 (alone_is (read s at) (m s at) refl (λ z. omega (arith, r.two)))) in
        let n = ap number_of a in
        omega (arith, r.two, begins_read s at h b)

    by : ((cs : List (List ℕ)) (e : Ending) (rest : List ℕ) → Begins (drop at s) cs e rest → ⊥) → Told s at → Refuses (read s at)
    by none (faulty n next x) = rw ((f s at h n next).1 x) (faulty_refuses x)
    by none (begun {cs} {e} {rest} b) = absurd (none cs e rest b)

pub exact : Exact read_answer
exact = faults_exact read_answer faults moves_on
