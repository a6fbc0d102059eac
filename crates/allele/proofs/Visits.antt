-- The steps from a place on are the parts of the text from there on, one by one; so from its start they visit the list that it
-- means, or break where it is broken. Assumes nothing.
use Prim.Native.Nat.{ℕ, ◌+◌, ◌≤◌, zero-le}
use mathlib.Core.Path.{◌≡◌, refl, sym, ap, ◌∙◌}
use mathlib.Core.Bool.{Bool, true, false}
use mathlib.Core.List.{List, [], ◌∷◌, map}
use mathlib.Core.Option.{Option, some}
use native.Mathlib.Omega.{arith}
use native.Mathlib.Nat.{zero-add}
use lib.ListN.{length, drop}
use lib.Dec.{ltb}
use borrow.Author.Tests.{ltb-true, ltb-false}
use Rattle.std.specs.Prelude.{Err}
use Rattle.text.specs.Answer.{number_of}
use Rattle.allele.specs.Reading.{reading_of, list, parts_of, fault_at, step_answer}
use Rattle.allele.specs.Paper.{step_paper}
use Rattle.allele.specs.Means.{Means, Broken}
use Rattle.allele.specs.Demands.{Walk, end, next, Breaks, stop, past, Visits}
use Rattle.allele.specs.declared.allele.Allele.{Allele}
use Rattle.allele.specs.declared.step.NoAllele.TheVariants as S
use Rattle.allele.proofs.PieceLaws.{parts_at, parts_end}
use Rattle.allele.proofs.StepLaws.{step_empty, step_nothing, further_at, further_says, further_fault, wrong_at, wrong_says, parts_open, step_means, says_found, says_bad}
use Rattle.allele.proofs.ReadingLaws.{reading_some, reading_none}
use Rattle.allele.proofs.MeansLaws.{some_gathered, gathered_some, reads_means}
use Rattle.allele.proofs.BrokenLaws.{NoneAt, here, later, parts_broken}

-- ---- a walk

walk_parts : {t : List ℕ} {at : ℕ} {as' : List Allele} → Walk step_answer t at as' → parts_of (drop at t) ≡ map some as'
unfolding step_paper
walk_parts {t} {at} (end e) = let f = step_means t at (Err S.Nothing) (sym e) in parts_end t at (omega arith)
walk_parts {t} {at} (next {to = to} {a} e h w) =
    (says_found t at a to e).parts ∙ ap (λ (ps : List (Option Allele)). some a ∷ ps) (walk_parts w)

parts_walk : (t : List ℕ) (as' : List Allele) (at : ℕ) → (length t ≡ 0 → ⊥) → at ≤ length t → parts_of (drop at t) ≡ map some as' → Walk step_answer t at as'
unfolding step_paper
parts_walk t [] at n w e = by (ltb at (length t)) refl
  where
    by : (c : Bool) → ltb at (length t) ≡ c → Walk step_answer t at []
    by true h = let q = sym (parts_at t at (ltb-true _ _ h)) ∙ e in let z : ◌≡◌ {A = ℕ} 0 1 = cc in absurd (omega arith)
    by false h = let l = ltb-false at (length t) h in end (sym (step_nothing t at n (omega arith)))
parts_walk t (a ∷ as') at n w e =
    let o = parts_open t at e in
    let f = further_at t at o.before a o.first in
    next (further_says f) f.past (parts_walk t as' _ n f.within (let q = sym f.parts ∙ e in cc))

-- the empty text has none
no_walk : {at : ℕ} {as' : List Allele} → at ≡ 0 → Walk step_answer [] at as' → ⊥
unfolding step_paper
no_walk {at} z (end e) = omega (arith, ap number_of (step_empty [] at (omega arith) refl ∙ e))
no_walk {at} z (next {to = to} {a} e h w) = let f = says_found [] at a to e in omega arith

walk_means : (t : List ℕ) (as' : List Allele) → Walk step_answer t 0 as' → Means t as'
walk_means [] as' w = absurd (no_walk refl w)
walk_means (b ∷ s) as' w = (reads_means (b ∷ s) as').0 (reading_some (b ∷ s) (λ z. omega arith) ∙ rw (walk_parts w) (some_gathered 0 as'))

means_walk : (t : List ℕ) (as' : List Allele) → reading_of t ≡ list as' → Walk step_answer t 0 as'
means_walk [] as' e = let n = reading_none [] refl in let z : ◌≡◌ {A = ℕ} 0 1 = cc in absurd (omega arith)
means_walk (b ∷ s) as' e =
    parts_walk (b ∷ s) as' 0 (λ z. omega arith) zero-le (gathered_some 0 (parts_of (b ∷ s)) as' (sym (reading_some (b ∷ s) (λ z. omega arith)) ∙ e))

-- ---- a break

breaks_none : {t : List ℕ} {o at k : ℕ} → Breaks step_answer t o at k → NoneAt (parts_of (drop at t)) k
breaks_none {t} {o} {at} (stop e) = rw (says_bad t at o e).parts here
breaks_none {t} {o} {at} (past {to = to} a e h w) = rw (says_found t at a to e).parts (later (breaks_none w))

-- the fault that it ends with, counted from the text's start
breaks_fault : {t : List ℕ} {o at k : ℕ} → Breaks step_answer t o at k → o ≡ at + fault_at (drop at t) k
breaks_fault {t} {o} {at} (stop e) = (says_bad t at o e).there
breaks_fault {t} {o} {at} (past {to = to} {k} a e h w) = breaks_fault w ∙ sym (further_fault (says_found t at a to e) k)

none_breaks : (t : List ℕ) {ps : List (Option Allele)} {k : ℕ} → NoneAt ps k → (at : ℕ) → parts_of (drop at t) ≡ ps
    → Breaks step_answer t (at + fault_at (drop at t) k) at k
none_breaks t here at e = let o = parts_open t at e in stop (wrong_says (wrong_at t at o.before o.first))
none_breaks t (later {a} {k = k} n) at e =
    let o = parts_open t at e in
    let f = further_at t at o.before a o.first in
    rw (further_fault f k) (past a (further_says f) f.past (none_breaks t n _ (let q = sym f.parts ∙ e in cc)))

broken_breaks : (t : List ℕ) (k o : ℕ) → Broken t k o → Breaks step_answer t o 0 k
broken_breaks t k o g =
    let p = (parts_broken t k o).1 g in
    let z : 0 + fault_at t k ≡ o = zero-add (fault_at t k) ∙ p.1 in
    rw z at (none_breaks t p.0 0 refl)

breaks_broken : (t : List ℕ) (k o : ℕ) → Breaks step_answer t o 0 k → Broken t k o
breaks_broken t k o w = (parts_broken t k o).0 (breaks_none w, sym (breaks_fault w ∙ zero-add (fault_at t k)))

-- ---- from the start

pub visits : Visits step_answer
unfolding step_paper
visits =
    record {
      means = λ t as'. (λ m. means_walk t as' ((reads_means t as').1 m), walk_means t as');
      broken = λ t k o. (broken_breaks t k o, breaks_broken t k o);
      empty = sym (step_empty [] 0 zero-le refl);
    }
