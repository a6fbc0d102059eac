-- A whole text judged, its greatest number and its alleles kept on the way: where it is a list, what is left to store lies over what
-- stands, in each of the three slices. Assumes nothing.
use Prim.Native.Nat.{ℕ, ◌+◌, ◌≤◌}
use mathlib.Core.Path.{◌≡◌, refl, sym, ap, ◌∙◌}
use mathlib.Core.Bool.{Bool, true}
use mathlib.Core.List.{List, [], ◌∷◌, map}
use native.Mathlib.Omega.{arith}
use native.Mathlib.Numerals.{add-one}
use lib.ListN.{length, set, length-set, length-map}
use lib.Seq.{sets}
use borrow.Author.Tests.{eqb-true}
use Rattle.std.specs.Prelude.{◌==◌, Ok, Err, Result}
use Rattle.text.specs.Over.{over}
use Rattle.text.proofs.Lists.{sets_over}
use Rattle.text.specs.Pick.{one_if}
use Rattle.allele.specs.Reading.{reading_of, step_answer, list_of}
use Rattle.allele.specs.Row.{numbers_of, missing_of, phased_of, Parallel}
use Rattle.allele.specs.Slices.{StoresIn}
use Rattle.allele.specs.Paper.{Step, step_paper}
use Rattle.allele.specs.declared.allele.Allele.{Allele}
use Rattle.allele.specs.declared.row.RowMut.{RowMut}
use Rattle.allele.specs.declared.step.NoAllele.{NoAllele}
use Rattle.allele.specs.declared.step.NoAllele.TheVariants as S
use Rattle.allele.proofs.StepLaws.{found_less}
use Rattle.genotype.specs.Paper.{read_paper}
use Rattle.genotype.specs.declared.read.ReadError.TheVariants as R
use Rattle.genotype.specs.Inner.{ListMeant, whole_answer, counted, Lays}
use Rattle.genotype.specs.declared.lay.Whole.{Whole}
use Rattle.genotype.specs.declared.read.ReadError.{ReadError}
use Rattle.genotype.proofs.JudgeLaws.{Judging, end_tells, judge_empty, judge_first, judge_turn, judge_bad, judge_past}
use Rattle.genotype.proofs.Ahead.{left_of, Ahead, some_text, ahead_first, left_first, ahead_turn, left_turn, left_none, left_end}
use Rattle.genotype.proofs.AboveLaws.{Finding, find_first, find_turn, find_past}

-- ---- one slice

-- a column of the list `all`, laid over the list l₀: what is stored stands in l, and that of xs is still to be stored from k on
pub record Column (f : Allele → ℕ) (all xs : List Allele) (l₀ l : List ℕ) (k : ℕ) : Type 0 where
  pub same : sets l k (map f xs) ≡ sets l₀ 0 (map f all)

pub column_first : (f : Allele → ℕ) (all : List Allele) (l : List ℕ) → Column f all all l l 0
column_first f all l = record { same = refl }

pub column_turn : {f : Allele → ℕ} {a : Allele} {all xs : List Allele} {l₀ l : List ℕ} {k : ℕ} → Column f all (a ∷ xs) l₀ l k → Column f all xs l₀ (set l k (f a)) (k + 1)
column_turn {k = k} g = record { same = rw add-one g.same }

pub column_past : {f : Allele → ℕ} {all : List Allele} {l₀ l : List ℕ} {k : ℕ} → Column f all [] l₀ l k → length all ≤ length l₀ → l ≡ over (map f all) l₀
column_past {f} {all} {l₀} g h =
    let n : length (map f all) ≡ length all = length-map all f in
    g.same ∙ sets_over (map f all) l₀ (omega arith)

abbrev pub number : Allele → ℕ
number a = a.number

abbrev pub missing : Allele → ℕ
missing a = one_if a.missing

abbrev pub phased : Allele → ℕ
phased a = one_if a.phased

-- ---- the three

pub record Columns (t n₀ m₀ p₀ n m p : List ℕ) (at k : ℕ) : Type 0 where
  pub ahead : Ahead t at k
  pub numbers : Column number (list_of (reading_of t)) (left_of t at k) n₀ n k
  pub missings : Column missing (list_of (reading_of t)) (left_of t at k) m₀ m k
  pub phases : Column phased (list_of (reading_of t)) (left_of t at k) p₀ p k

pub record Laying (t n₀ m₀ p₀ n m p : List ℕ) (at k most : ℕ) : Type 0 where
  pub even : Parallel n m p
  pub numbers : length n ≡ length n₀
  pub missing : length m ≡ length m₀
  pub phased : length p ≡ length p₀
  pub judging : Judging t at k
  pub finding : ListMeant t → (count : ℕ) → most ≤ count → Finding t count at k
  pub columns : ListMeant t → Columns t n₀ m₀ p₀ n m p at k

-- ---- the loop

module _ {t n m p : List ℕ} (e : Parallel n m p) where
  pub lay_empty : {none : Bool} → none ≡ (length t == 0) → none ≡ true → Lays t n m p (Err R.Empty) n m p
  lay_empty d z =
      let h = eqb-true (length t) 0 (sym d ∙ z) in
      record {
        judged = record { answer = judge_empty t h; most = λ v q l. absurd (some_text t l h) };
        laid = λ l r. absurd (some_text t l h);
      }

  pub lay_first : (length t ≡ 0 → ⊥) → Laying t n m p n m p 0 0 0
  lay_first h =
      record {
        even = e;
        numbers = refl;
        missing = refl;
        phased = refl;
        judging = judge_first t h;
        finding = λ l count c. find_first l;
        columns = λ l. record {
          ahead = ahead_first t l;
          numbers = rw (left_first t l) (column_first _ _ _);
          missings = rw (left_first t l) (column_first _ _ _);
          phases = rw (left_first t l) (column_first _ _ _);
        };
      }

-- where none is left
module _ {t n₀ m₀ p₀ n m p : List ℕ} {at : ℕ} (v : Whole) (g : Laying t n₀ m₀ p₀ n m p at v.count v.most) where
  lay_ends : (w : Result Whole ReadError) → ((u : Whole) → w ≡ Ok u → v ≡ u) → (ListMeant t → left_of t at v.count ≡ []) → read_paper (counted w) ≡ whole_answer t (reading_of t)
      → Lays t n₀ m₀ p₀ w n m p
  unfolding numbers_of missing_of phased_of
  lay_ends w same z j =
      record {
        judged = record {
          answer = j;
          most = λ u q l. record { is = λ count c. sym (find_past (g.finding l count (let e = ap (λ (x : Whole). x.most) (same u q) in omega arith)) (z l)) };
        };
        laid = λ l r. (let c = g.columns l in
            record {
              numbers = column_past (rw (z l) at c.numbers) r.numbers;
              missing = column_past (rw (z l) at c.missings) r.missing;
              phased = column_past (rw (z l) at c.phases) r.phased;
            });
      }

  pub lay_past : length t ≤ at → Lays t n₀ m₀ p₀ (Ok v) n m p
  lay_past h = lay_ends (Ok v) (λ u q. cc) (λ l. left_none t at v.count h) (judge_past g.judging h)

module _ (t n₀ m₀ p₀ : List ℕ) (row : RowMut) (at : ℕ) (v : Whole) (x : Step) (g : Laying t n₀ m₀ p₀ row.numbers.now row.missing.now row.phased.now at v.count v.most) (e : step_paper x ≡ step_answer t at) where
  module _ (a : Allele) (next : ℕ) (q : x ≡ Ok (a, next)) where
    columns_turn : {row' : RowMut} → StoresIn a v.count row row' → Columns t n₀ m₀ p₀ row.numbers.now row.missing.now row.phased.now at v.count → Columns t n₀ m₀ p₀ row'.numbers.now row'.missing.now row'.phased.now next (v.count + 1)
    columns_turn s c =
        let l : left_of t at v.count ≡ a ∷ left_of t next (v.count + 1) = left_turn c.ahead e q in
        rw (s.numbers, s.missing, s.phased)
        (record {
          ahead = ahead_turn c.ahead e q;
          numbers = column_turn (rw l at c.numbers);
          missings = column_turn (rw l at c.missings);
          phases = column_turn (rw l at c.phases);
        })

    pub lay_turn : {row' : RowMut} {r : ℕ} → StoresIn a v.count row row' → v.most ≤ r → a.number ≤ r → Laying t n₀ m₀ p₀ row'.numbers.now row'.missing.now row'.phased.now next (v.count + 1) r
    lay_turn s w₁ w₂ =
        let u = ap length s.numbers ∙ length-set row.numbers.now v.count a.number in
        let y = ap length s.missing ∙ length-set row.missing.now v.count (one_if a.missing) in
        let w = ap length s.phased ∙ length-set row.phased.now v.count (one_if a.phased) in
        record {
          even = record { missing = omega arith; phased = omega arith };
          numbers = omega arith;
          missing = omega arith;
          phased = omega arith;
          judging = judge_turn t at v.count x g.judging e a next q;
          finding = λ l count c. find_turn t count at v.count x (g.finding l count (omega arith)) e a next q (omega arith);
          columns = λ l. columns_turn s (g.columns l);
        }

  module _ {y : NoAllele} (q : x ≡ Err y) where
    pub lay_bad : {fault : ℕ} → y ≡ S.Bad fault → Lays t n₀ m₀ p₀ (Err (R.Bad v.count fault)) row.numbers.now row.missing.now row.phased.now
    lay_bad {fault} f =
        lay_ends v g (Err (R.Bad v.count fault)) (λ u z. cc) (λ l. left_end t at v.count x (g.columns l).ahead e y q) (judge_bad t at v.count x g.judging e (rw f at q))

    pub lay_nothing : ((fault : ℕ) → y ≡ S.Bad fault → ⊥) → Lays t n₀ m₀ p₀ (Ok v) row.numbers.now row.missing.now row.phased.now
    lay_nothing b = lay_past v g (end_tells t at y g.judging.within (rw q at e) b)

pub ruleset laws = (lay_empty, lay_first, found_less, lay_turn, lay_bad, lay_nothing, lay_past)
