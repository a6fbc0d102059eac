-- What an answer tells of its question: the limits, the count, and the genotype that was written. Assumes nothing.
use Prim.Native.Nat.{ℕ, ◌<◌, ◌≤◌}
use mathlib.Core.Path.{◌≡◌, refl, sym, ap, ◌∙◌}
use mathlib.Core.Bool.{Bool, true, false, and-eq-true_iff}
use mathlib.Core.List.{List, [], ◌∷◌}
use native.Mathlib.Omega.{arith}
use lib.ListN.{length, get_or}
use lib.Dec.{leb, ltb}
use borrow.Author.Tests.{le-leb, ltb-true}
use Rattle.std.specs.Prelude.{Result, Ok, Err}
use Rattle.text.specs.Pick.{pick}
use Rattle.text.specs.Answer.{says, number_of}
use Rattle.text.specs.Over.{over, laid}
use Rattle.numbering.specs.Ordering.{ordering}
use Rattle.numbering.specs.Demands.{Limits}
use Rattle.numbering.specs.Answers.{limits, count_answer, filling, genotype_answer, is_there}
use Rattle.numbering.specs.Paper.{number_paper, filled_paper}
use Rattle.numbering.specs.Promises.{PlacesGenotype}
use Rattle.numbering.specs.declared.counts.NoGenotype.{NoGenotype}
use Rattle.numbering.specs.declared.genotype.FillError.{FillError}
use Rattle.numbering.specs.declared.genotype.FillError.TheVariants as F
use Rattle.numbering.proofs.LimitLaws.{limited}
use Rattle.numbering.proofs.CaseLaws.{number_is, number_wrong}
use Rattle.numbering.proofs.Functions.{OfOrder, counts, of_order, off_order}

-- ---- a count

module _ (p n : ℕ) {x : Result ℕ NoGenotype} (h : number_paper x ≡ count_answer p n) where
  pub count_told : {c : ℕ} → x ≡ Ok c → OfOrder p n c
  count_told {c} e = of_order counts p n c (sym h ∙ number_is e)

  pub count_refused : {no : NoGenotype} → x ≡ Err no → limits p n ≡ false
  count_refused e = off_order counts p n (sym h ∙ number_wrong e)

-- ---- a genotype

-- there is a genotype i, and it was written
pub record Placed (i p n : ℕ) (l l' : List ℕ) : Type 0 where
  pub there : is_there i p n ≡ true
  pub within : Limits p n
  pub below : i < length (ordering p n)
  pub row : l' ≡ over (get_or (ordering p n) i []) l

-- an answer that is not done has another number
pub other_filled : (x : Result ℕ FillError) → ((n : ℕ) → x ≡ Ok n → ⊥) → number_of (filled_paper x) ≡ 0 → ⊥
unfolding filled_paper
other_filled (Ok n) h e = h n refl
other_filled (Err F.NoGenotype) h e = omega arith
other_filled (Err F.Short) h e = omega arith

module _ (i p n : ℕ) (l : List ℕ) {x : Result ℕ FillError} {l' : List ℕ} (w : PlacesGenotype i p n l x l') where
  pub place_told : {v : ℕ} → x ≡ Ok v → Placed i p n l l'
  unfolding filled_paper genotype_answer
  place_told {v} e = by (is_there i p n) refl (leb p (length l)) (rw e at w.answer) w.row
    where
      by : (b : Bool) → is_there i p n ≡ b → (f : Bool) → says 0 (v ∷ []) ≡ pick b (pick f (says 0 (p ∷ [])) (says 17 [])) (says 23 [])
          → l' ≡ laid (pick b (pick f (says 0 (p ∷ [])) (says 17 [])) (says 23 [])) (get_or (ordering p n) i []) l → Placed i p n l l'
      by true t true k r =
          let a = (and-eq-true_iff (limits p n) (ltb i (length (ordering p n)))).0 t in
          record { there = t; within = limited (sym a.0) refl; below = ltb-true _ _ a.1; row = r }
      by true t false k r = let z : ◌≡◌ {A = ℕ} 0 1 = cc in absurd (omega arith)
      by false t f k r = let z : ◌≡◌ {A = ℕ} 0 1 = cc in absurd (omega arith)

  -- a row of eight is never too short
  pub place_refused : 8 ≤ length l → ((n : ℕ) → x ≡ Ok n → ⊥) → is_there i p n ≡ false
  unfolding genotype_answer
  place_refused h o = by (is_there i p n) refl w.answer
    where
      by : (b : Bool) → is_there i p n ≡ b → filled_paper x ≡ filling b p (length l) p → b ≡ false
      by false t k = refl
      by true t k =
          let a = (and-eq-true_iff (limits p n) (ltb i (length (ordering p n)))).0 t in
          let m = (limited (sym a.0) refl).eight in
          let f : leb p (length l) ≡ true = le-leb p (length l) (omega arith) in
          absurd (other_filled x o (ap number_of (rw f at k)))
