-- The limits of ploidy and allele count, and the counts within them. Assumes nothing.
use Prim.Native.Nat.{ℕ, ◌≤◌}
use mathlib.Core.Path.{◌≡◌, refl, sym, ◌∙◌}
use mathlib.Core.Bool.{Bool, true, false, ◌&&◌, and-eq-true_iff}
use lib.Dec.{leb}
use Rattle.std.specs.Prelude.{Ok, Err}
use borrow.Author.Tests.{le-leb, lt-leb, leb-true, not-true, not-false}
use Rattle.numbering.specs.Closed.{how_many}
use Rattle.numbering.specs.Demands.{Limits}
use Rattle.numbering.specs.Inner.{ShapeOf}
use Rattle.numbering.specs.declared.shape.Shape.{Shape}
use Rattle.numbering.specs.Answers.{limits, count_answer}
use Rattle.numbering.specs.Paper.{number_paper}
use Rattle.numbering.specs.declared.counts.NoGenotype.{NoGenotype}
use Rattle.numbering.proofs.OrderLaws.{length_ordering}

-- what the limits say
pub limited : {p n : ℕ} {r : Bool} → r ≡ limits p n → r ≡ true → Limits p n
unfolding limits
limited {p} {n} {r} e t =
    let a = (and-eq-true_iff (leb 1 p && leb p 8) (leb 1 n && leb n 64)).0 (sym e ∙ t) in
    let b = (and-eq-true_iff (leb 1 p) (leb p 8)).0 a.0 in
    let c = (and-eq-true_iff (leb 1 n) (leb n 64)).0 a.1 in
    record { one = leb-true _ _ b.0; eight = leb-true _ _ b.1; some = leb-true _ _ c.0; most = leb-true _ _ c.1 }

pub limits_yes : {p n : ℕ} → Limits p n → limits p n ≡ true
unfolding limits
limits_yes {p} {n} l = rw (le-leb 1 p l.one, le-leb p 8 l.eight, le-leb 1 n l.some, le-leb n 64 l.most)

pub limits_no : {p n : ℕ} → (Limits p n → ⊥) → limits p n ≡ false
limits_no {p} {n} z = by (limits p n) refl
  where
    by : (b : Bool) → limits p n ≡ b → limits p n ≡ false
    by true e = absurd (z (limited (sym e) refl))
    by false e = e

module _ (p n : ℕ) {r : Bool} (e : r ≡ limits p n) where
  pub limited_few : r ≡ true → p ≤ 8
  limited_few t = (limited e t).eight

  pub limited_alleles : r ≡ true → n ≤ 64
  limited_alleles t = (limited e t).most

  pub limits_refuse : r ≡ false → limits p n ≡ false
  limits_refuse t = sym e ∙ t

  pub limits_shape : {s : Shape} → r ≡ true → s.ploidy ≡ p → s.alleles ≡ n → ShapeOf p n s
  limits_shape t x y = record { within = sym e ∙ t; ploidy = x; alleles = y }

-- ---- a count

pub count_none : (p n : ℕ) {no : NoGenotype} → limits p n ≡ false → number_paper (Err no) ≡ count_answer p n
unfolding number_paper count_answer
count_none p n f = rw f

-- the count of a shape
pub record Counted (p n c : ℕ) : Type 0 where
  pub within : limits p n ≡ true
  pub limits : Limits p n
  pub is : c ≡ how_many p n

module _ {p n c : ℕ} {s : Shape} (g : ShapeOf p n s) (d : c ≡ how_many s.ploidy s.alleles) where
  pub counted : Counted p n c
  counted = record { within = g.within; limits = limited (sym g.within) refl; is = rw (g.ploidy, g.alleles) at d }

  pub count_some : number_paper (Ok c) ≡ count_answer p n
  unfolding number_paper count_answer
  count_some = let k = counted in rw (g.within, k.is, length_ordering p n)

pub ruleset laws = (limited_few, limited_alleles, limits_refuse, limits_shape, count_some, not-true, not-false)
