-- Checking against ALT: the first allele above the count, of those from a place on, is the first of all; where no number is above it
-- there is none; 20 stands before 17. Assumes nothing.
use Prim.Native.Nat.{ℕ, ◌+◌, ◌≤◌, ◌<◌}
use mathlib.Core.Path.{◌≡◌, refl, sym, ◌∙◌}
use mathlib.Core.Bool.{Bool, true, false}
use mathlib.Core.List.{List, [], ◌∷◌}
use mathlib.Core.Option.{none}
use native.Mathlib.Omega.{arith}
use lib.ListN.{length}
use lib.Dec.{leb}
use borrow.Author.Tests.{lt-ltb, le-ltb, le-leb, leb-true, eqb-false}
use Rattle.std.specs.Prelude.{nat_eq, ◌==◌, Ok, Err, Result}
use Rattle.std.specs.Prelude as P
use Rattle.std.specs.Cmp.Lexicographic.{pointwise, other_text}
use Rattle.text.specs.Answer.{number_of}
use Rattle.text.specs.Over.{room_for}
use Rattle.text.proofs.FirstLaws.{where_none, where_here, where_later}
use Rattle.lists.specs.AlternateBases.{alt_count}
use Rattle.lists.proofs.AltLaws.{count_some}
use Rattle.allele.specs.Reading.{Reading, list, bad, empty, reading_of, step_answer, list_of}
use Rattle.allele.specs.Paper.{Step, step_paper}
use Rattle.allele.specs.declared.allele.Allele.{Allele}
use Rattle.allele.specs.declared.step.NoAllele.{NoAllele}
use Rattle.allele.proofs.StepLaws.{found_less}
use Rattle.genotype.specs.Answers.{first_above, above_answer, checked_answer, checked_text}
use Rattle.genotype.specs.Paper.{Read, read_paper}
use Rattle.genotype.specs.declared.read.ReadError.TheVariants as R
use Rattle.genotype.specs.declared.lay.Whole.{Whole}
use Rattle.genotype.specs.declared.read.ReadError.{ReadError}
use Rattle.genotype.specs.Inner.{ListMeant, whole_answer, NoneAbove, Judged, above_paper}
use Rattle.genotype.proofs.JudgeLaws.{error_number, judge_fits, judge_error}
use Rattle.genotype.proofs.Ahead.{left_of, Ahead, ahead_first, left_first, ahead_turn, left_turn, left_end}

-- ---- the first above

-- the first above the count from index k on is the first of all
pub record Finding (t : List ℕ) (count at k : ℕ) : Type 0 where
  pub ahead : Ahead t at k
  pub same : first_above count k (left_of t at k) ≡ first_above count 0 (list_of (reading_of t))

pub find_first : {t : List ℕ} {count : ℕ} → ListMeant t → Finding t count 0 0
find_first {t} m = record { ahead = ahead_first t m; same = rw (left_first t m) }

-- where none is left, none is above
pub find_past : {t : List ℕ} {count at k : ℕ} → Finding t count at k → left_of t at k ≡ [] → none ≡ first_above count 0 (list_of (reading_of t))
unfolding first_above
find_past {k = k} g z = rw (z, where_none _ k) at g.same

module _ (t : List ℕ) (count at k : ℕ) (x : Step) (g : Finding t count at k) (e : step_paper x ≡ step_answer t at) where
  module _ (a : Allele) (next : ℕ) (q : x ≡ Ok (a, next)) where
    left : left_of t at k ≡ a ∷ left_of t next (k + 1)
    left = left_turn g.ahead e q

    pub find_at : count < a.number → above_paper (P.Some k) ≡ first_above count 0 (list_of (reading_of t))
    unfolding above_paper first_above
    find_at h = rw (left, where_here _ k a (left_of t next (k + 1)) (lt-ltb _ _ h)) at g.same

    pub find_turn : a.number ≤ count → Finding t count next (k + 1)
    unfolding first_above
    find_turn h = record { ahead = ahead_turn g.ahead e q; same = rw (left, where_later _ k a (left_of t next (k + 1)) (le-ltb _ _ h)) at g.same }

  pub find_none : (y : NoAllele) → x ≡ Err y → above_paper P.None ≡ first_above count 0 (list_of (reading_of t))
  unfolding above_paper
  find_none y q = find_past g (left_end t at k x g.ahead e y q)

-- ---- what ALT has

pub least_some : (alt : List ℕ) {none dot : Bool} {point : List ℕ} → none ≡ (length alt == 0) → none ≡ false → point ≡ 46 ∷ [] → dot ≡ pointwise nat_eq alt point → dot ≡ false
    → 1 ≤ alt_count alt
least_some alt n z p e f =
    let q = rw p at e in
    count_some alt (other_text alt (46 ∷ []) (sym f ∙ q)) (let w = eqb-false (length alt) 0 (sym n ∙ z) in omega arith)

pub has_least : (alt : List ℕ) (number least : ℕ) → least ≤ alt_count alt → number ≤ least → true ≡ leb number (alt_count alt)
has_least alt number least h l = sym (le-leb number (alt_count alt) (omega arith))

pub has_counted : (alt : List ℕ) (number : ℕ) {count : ℕ} → count ≡ alt_count alt → leb number count ≡ leb number (alt_count alt)
has_counted alt number e = rw e

module _ (t alt : List ℕ) (most : ℕ) where
  pub beyond_none : {h : Bool} → NoneAbove (list_of (reading_of t)) most → h ≡ leb most (alt_count alt) → h ≡ true
      → above_paper P.None ≡ first_above (alt_count alt) 0 (list_of (reading_of t))
  unfolding above_paper
  beyond_none g e f = sym (g.is (alt_count alt) (leb-true _ _ (sym e ∙ f)))

  pub beyond_counted : {count : ℕ} (y : P.Option ℕ) → count ≡ alt_count alt → above_paper y ≡ first_above count 0 (list_of (reading_of t))
      → above_paper y ≡ first_above (alt_count alt) 0 (list_of (reading_of t))
  beyond_counted y e f = rw (← e) f

-- ---- the answer

-- where the whole is no list, no allele is above
error_above : (count : ℕ) (t : List ℕ) (r : Reading) → (number_of (whole_answer t r) ≡ 0 → ⊥) → first_above count 0 (list_of r) ≡ none
unfolding whole_answer first_above list_of
error_above count t (list as') n = absurd (n refl)
error_above count t (bad k) n = where_none _ 0
error_above count t empty n = where_none _ 0

-- a done answer is a list's
whole_list : (t : List ℕ) (r : Reading) (n : ℕ) → read_paper (Ok n) ≡ whole_answer t r → r ≡ list (list_of r)
unfolding read_paper whole_answer list_of
whole_list t (list as') n e = refl
whole_list t (bad k) n e = cc
whole_list t empty n e = cc

module _ (t alt : List ℕ) (room : ℕ) where
  pub check_error : (w : Result Whole ReadError) → Judged t w → (x : ReadError) → w ≡ Err x → read_paper (Err x) ≡ checked_text t alt room
  unfolding checked_answer above_answer
  check_error w g x q =
      let e = rw q at g.answer in
      rw (error_above (alt_count alt) t (reading_of t) (λ z. error_number x (rw e z))) (judge_error t room w g x q)

  module _ (v : Whole) (g : Judged t (Ok v)) where
    pub check_meant : ListMeant t
    check_meant = record { is = whole_list t (reading_of t) v.count g.answer }

    pub check_most : NoneAbove (list_of (reading_of t)) v.most
    check_most = g.most v refl check_meant

    module _ (y : P.Option ℕ) (f : above_paper y ≡ first_above (alt_count alt) 0 (list_of (reading_of t))) where
      pub check_above : {k : ℕ} → y ≡ P.Some k → read_paper (Err (R.Above k)) ≡ checked_text t alt room
      unfolding checked_answer above_answer read_paper above_paper
      check_above e = rw (← f, e)

      pub check_fits : (z : Read) → y ≡ P.None → read_paper z ≡ room_for v.count room → read_paper z ≡ checked_text t alt room
      unfolding checked_answer above_answer above_paper
      check_fits z e h = rw (← f, e) (judge_fits t room (Ok v) g v z refl h)

pub ruleset laws = (find_first, find_at, find_turn, found_less, find_none, least_some, has_least, has_counted, beyond_none, beyond_counted, check_error, check_meant, check_most, check_above, check_fits)
