-- Two outcomes that a contract of this crate allows are equal: a form is its ending and its places, a record its ending and its
-- numbers. Assumes nothing.
use Prim.Native.Nat.{ℕ}
use mathlib.Core.Path.{◌≡◌, refl, sym, ap, ◌∙◌}
use mathlib.Core.List.{List}
use native.Mathlib.Omega.{arith}
use lib.ListN.{get_or}
use Rattle.std.specs.Prelude.{Result, Ok, Err}
use Rattle.text.specs.Answer.{number_of}
use Rattle.text.specs.Range.{range_at}
use Rattle.record.specs.declared.ending.Ending.{Ending}
use Rattle.record.specs.declared.place.Record.{Record}
use Rattle.record.proofs.Determined.{same_ending, form_injective}
use Rattle.forms.specs.Paper.{wide_places, widened_paper, narrowed_paper}
use Rattle.forms.specs.Promises.{Determined}
use Rattle.forms.specs.declared.wide.Wide.{Wide}
use Rattle.forms.specs.declared.turn.NotMade.{NotMade}

-- ---- an old form

wide_of : Ending → List ℕ → Wide
wide_of ending l =
    record {
      ending = ending;
      chrom = range_at (get_or l 0 0) (get_or l 1 0);
      pos = range_at (get_or l 2 0) (get_or l 3 0);
      id = range_at (get_or l 4 0) (get_or l 5 0);
      reference = range_at (get_or l 6 0) (get_or l 7 0);
      alt = range_at (get_or l 8 0) (get_or l 9 0);
      qual = range_at (get_or l 10 0) (get_or l 11 0);
      filter = range_at (get_or l 12 0) (get_or l 13 0);
      info = range_at (get_or l 14 0) (get_or l 15 0);
      format = range_at (get_or l 16 0) (get_or l 17 0);
      samples = range_at (get_or l 18 0) (get_or l 19 0);
    }

wide_back : (w : Wide) → wide_of w.ending (wide_places w) ≡ w
unfolding wide_of wide_places
wide_back w = refl

pub wide_injective : (w w' : Wide) → w.ending ≡ w'.ending → wide_places w ≡ wide_places w' → w ≡ w'
wide_injective w w' p q = sym (wide_back w) ∙ ap (λ (e : Ending). wide_of e (wide_places w)) p ∙ ap (wide_of w'.ending) q ∙ wide_back w'

-- ---- the answers

pub widened_injective : (x y : Result Wide NotMade) → widened_paper x ≡ widened_paper y → x ≡ y
unfolding widened_paper
widened_injective (Ok w) (Ok v) e = let q : w ≡ v = wide_injective w v (same_ending w.ending v.ending cc) cc in cc
widened_injective (Ok w) (Err n) e = absurd (let z = ap number_of e in omega arith)
widened_injective (Err n) (Ok w) e = absurd (let z = ap number_of e in omega arith)
widened_injective (Err n) (Err m) e = refl

pub narrowed_injective : (x y : Result Record NotMade) → narrowed_paper x ≡ narrowed_paper y → x ≡ y
unfolding narrowed_paper
narrowed_injective (Ok r) (Ok s) e = let q : r ≡ s = form_injective r s (same_ending r.ending s.ending cc) cc in cc
narrowed_injective (Ok r) (Err n) e = absurd (let z = ap number_of e in omega arith)
narrowed_injective (Err n) (Ok r) e = absurd (let z = ap number_of e in omega arith)
narrowed_injective (Err n) (Err m) e = refl

pub determined : Determined
determined =
    record {
      place = λ wide name r r' p q. p ∙ sym q;
      ending = λ wide r r' p q. p ∙ sym q;
      places = λ wide r r' p q. p ∙ sym q;
      new = λ ending places r r' p q. wide_injective r r' (p.0 ∙ sym q.0) (p.1 ∙ sym q.1);
      widen = λ line r r' p q. widened_injective r r' (p ∙ sym q);
      narrow = λ wide r r' p q. narrowed_injective r r' (p ∙ sym q);
    }
