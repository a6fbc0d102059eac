-- Text and BCF agree, from the statements on readers of vectors and on genotype writers: a vector is read as its list, a list that has a
-- vector is spelled at 4.4, and what is written means the list. Assumes nothing.
use Prim.Native.Nat.{ℕ, ◌+◌, ◌≤◌}
use mathlib.Core.Path.{◌≡◌, refl, sym, ◌∙◌}
use mathlib.Core.Bool.{Bool, true, false≢true}
use mathlib.Core.List.{List}
use native.Mathlib.Omega.{arith}
use native.Mathlib.Decide.{ℕ_discrete}
use lib.ListN.{length, take}
use Rattle.text.specs.Answer.{Answer, number_of}
use Rattle.allele.specs.declared.allele.Allele.{Allele}
use Rattle.allele.proofs.MeansLaws.{means_one}
use Rattle.genotype.specs.Demands.{AtMost}
use Rattle.spelling.specs.Permitted.{from44}
use Rattle.spelling.specs.Demands as S
use Rattle.spelling.proofs.RoundTrip.{follow}
use Rattle.bcf.specs.Layout.{largest}
use Rattle.bcf.specs.declared.width.Width.{Width}
use Rattle.bcf.specs.Demands.{HasVector, TextAgrees}
use Rattle.bcf.proofs.VectorLaws.{lays_has}
use Rattle.bcf.proofs.SmallestLaws.{widest}
use Rattle.bcf.proofs.MeetsReading.{reads_list}
use Rattle.bcf.proofs.RoundTrips.{begins}

-- ---- a list that has a vector is spelled at 4.4

from_44 : from44 4 4 ≡ true
unfolding from44
from_44 = refl

module _ {w : Width} {n : ℕ} where
  unspelled : {as' : List Allele} {late : Bool} {a : Answer} → HasVector w as' n → late ≡ true → S.Unspelled late as' a → ⊥
  unspelled h e S.empty = let s = h.some in omega arith
  unspelled h e (S.bad u) = h.sound _ u
  unspelled h e (S.phasing f s d) = false≢true (sym f ∙ e)

  module _ {as' : List Allele} (out : List ℕ) (at : ℕ) (h : HasVector w as' n) (i : at ≤ length out) (room : (u : List ℕ) → S.Shortest 4 4 as' u → at + length u ≤ length out) where
    refused : {a : Answer} → S.Refused 4 4 as' out at a → ⊥
    refused (S.beyond l) = omega arith
    refused (S.unspelled l u) = unspelled h from_44 u
    refused (S.short l s f) = let r = room _ s in omega arith

    spelled : (write : S.Writer) → S.Meets write → number_of (write 4 4 as' out at).answer ≡ 0
    unfolding S.Refusals
    spelled write m = elim (ℕ_discrete (number_of (write 4 4 as' out at).answer) 0) [ yes z ↦ z | no z ↦ absurd (refused ((m.refusals 4 4 as' out at _ z).0 refl)) ]

-- its numbers have at most 64 bits
largest_fits : (w : Width) → largest w ≤ 18446744073709551615
unfolding largest
largest_fits w = let l = widest w in omega arith

fitting : (w : Width) {as' : List Allele} → AtMost (largest w) as' → S.Fitting as'
fitting w g = record { each = λ i h. let s = g.each i h in let l = largest_fits w in omega arith }

-- ---- so both agree

pub text_agrees : TextAgrees
unfolding TextAgrees S.Follow S.RoundTrip S.WritesShortest
text_agrees w read write m m' t as' n v e l row out at h i room =
    let g = lays_has l in
    let r = reads_list m l row h in
    let b : take (length as') (read v row).row ≡ as' = rw r (begins as' row) in
    let z = spelled out at g i room write m' in
    let k = m'.writes_shortest 4 4 as' out at z in
    let q = (follow write m').1 4 4 as' out at (length k.text) (fitting w g.small) k.count in
    record {
      c = length as';
      was_read = rw r;
      k = length k.text;
      was_written = rw b k.count;
      means = rw b (λ bs. (λ x. rw (means_one t bs as' x e) q, λ x. rw (means_one _ bs as' x q) e));
    }
