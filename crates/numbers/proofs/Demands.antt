-- What the table prints, asked back, gives its number: its text means its alleles, and these have that number. And each line has room in
-- 36 bytes. Assumes nothing.
use Prim.Native.Nat.{ℕ, suc, ◌<◌, ◌≤◌}
use mathlib.Core.Path.{◌≡◌, refl, ap, ◌∙◌}
use mathlib.Core.Bool.{Bool, true, false}
use mathlib.Core.List.{List, [], ◌∷◌, ◌++◌}
use native.Mathlib.Omega.{arith}
use lib.ListN.{length, get_or}
use Rattle.text.specs.Answer.{says}
use Rattle.pieces.specs.Pieces.{lacks}
use Rattle.pieces.proofs.PieceLaws.{free_head, free_right}
use Rattle.pieces.proofs.CountLaws.{lacks_here, lacks_free}
use Rattle.decimal.specs.Shortest.{shortest}
use Rattle.decimal.proofs.Value.{value_decimal}
use Rattle.decimal.proofs.Demands.{reads_back}
use Rattle.allele.specs.Row.{numbers_of}
use Rattle.allele.specs.Means.{all_phased, Body, number, Later, none, more, Means, marked, bare}
use Rattle.allele.specs.declared.allele.Allele.{Allele}
use Rattle.allele.proofs.ColumnLaws.{numbers_of_none, numbers_of_more}
use Rattle.allele.proofs.PhasedLaws.{phased_more}
use Rattle.allele.proofs.MeansLaws.{reads_means}
use Rattle.numbering.specs.Ordering.{ordering}
use Rattle.numbering.specs.Closed.{closed_sum}
use Rattle.numbering.specs.Demands.{Limits, Genotype}
use Rattle.numbering.proofs.OrderLaws.{listed, numbered, rises_ploidy, rises_genotype}
use Rattle.numbering.proofs.LimitLaws.{limits_yes}
use Rattle.numbering.proofs.NumberLaws.{answer_is}
use Rattle.numbers.specs.Table.{later_text, genotype_text, line_of, row_answer}
use Rattle.numbers.specs.Ask.{has_mark, any_missing, one_answer, ask_answer}
use Rattle.numbers.specs.Demands.{GivesBack, RowsFit}
use Rattle.numbers.proofs.RowLaws.{row_done}

-- ---- the alleles that a text of the table means

abbrev unphased : ℕ → Allele
unphased k = record { number = k; missing = false; phased = false }

unfoldable alleles_of : List ℕ → List Allele
alleles_of [] = []
alleles_of (k ∷ g) = unphased k ∷ alleles_of g

record Small (g : List ℕ) : Type 0 where
  is : (j : ℕ) → j < length g → get_or g j 0 ≤ 18446744073709551615

small_tail : {k : ℕ} {g : List ℕ} → Small (k ∷ g) → Small g
small_tail s = record { is = λ j h. s.is (suc j) (omega arith) }

body_of : {k : ℕ} {g : List ℕ} → Small (k ∷ g) → Body (shortest k) (unphased k)
body_of {k} s = number (value_decimal (shortest k) k (reads_back k (s.is 0 (omega arith))))

later_of : (g : List ℕ) → Small g → Later (later_text g) (alleles_of g)
unfolding later_text alleles_of
later_of [] s = none
later_of (k ∷ g) s = more refl (body_of s) (later_of g (small_tail s))

bare_means : (k j : ℕ) (g : List ℕ) → Small (k ∷ j ∷ g) → Means (genotype_text (k ∷ j ∷ g)) (alleles_of (k ∷ j ∷ g))
unfolding genotype_text alleles_of
bare_means k j g s = let e : false ≡ all_phased (unphased j ∷ alleles_of g) = rw (phased_more (unphased j) (alleles_of g)) in bare e (body_of s) (later_of (j ∷ g) (small_tail s))

marked_means : (k : ℕ) (g : List ℕ) → Small (k ∷ g) → Means (47 ∷ genotype_text (k ∷ g)) (alleles_of (k ∷ g))
unfolding genotype_text alleles_of
marked_means k g s = marked refl (body_of s) (later_of g (small_tail s))

-- ---- it has a mark

slash_mark : (t : List ℕ) → lacks 47 t ≡ false → has_mark t ≡ true
unfolding has_mark
slash_mark t e = rw e

slash_inside : (s t : List ℕ) → lacks 47 (s ++ 47 ∷ t) ≡ false
slash_inside s t = by (lacks 47 (s ++ 47 ∷ t)) refl
  where
    by : (b : Bool) → lacks 47 (s ++ 47 ∷ t) ≡ b → lacks 47 (s ++ 47 ∷ t) ≡ false
    by true e = absurd (free_head (free_right s (47 ∷ t) (lacks_free (s ++ 47 ∷ t) e)) refl)
    by false e = e

several_mark : (k j : ℕ) (g : List ℕ) → has_mark (genotype_text (k ∷ j ∷ g)) ≡ true
unfolding genotype_text later_text
several_mark k j g = slash_mark _ (slash_inside (shortest k) (shortest j ++ later_text g))

-- ---- and its alleles have a number

none_missing : (g : List ℕ) → any_missing (alleles_of g) ≡ false
unfolding any_missing alleles_of
none_missing [] = refl
none_missing (k ∷ g) = none_missing g

numbers_back : (g : List ℕ) → numbers_of (alleles_of g) ≡ g
unfolding alleles_of
numbers_back [] = numbers_of_none
numbers_back (k ∷ g) = numbers_of_more (unphased k) (alleles_of g) ∙ ap (λ (l : List ℕ). k ∷ l) (numbers_back g)

answered : (n : ℕ) (g t : List ℕ) → Limits (length g) n → Genotype (length g) n g → has_mark t ≡ true → Means t (alleles_of g) → ask_answer (shortest n) t ≡ says 0 (closed_sum g ∷ [])
unfolding ask_answer one_answer
answered n g t l f h m =
    let v = reads_back n (let z = l.most in omega arith) in
    let r = (reads_means t (alleles_of g)).1 m in
    rw (h, v, r, none_missing g, numbers_back g) (answer_is n g (limits_yes l) f)

-- ---- each genotype of the table

module _ (p n i : ℕ) (l : Limits p n) (h : i < length (ordering p n)) where
  record There (g : List ℕ) : Type 0 where
    ploidy : length g ≡ p
    genotype : Genotype (length g) n g
    limits : Limits (length g) n
    small : Small g
    number : closed_sum g ≡ i

  there : There (get_or (ordering p n) i [])
  there =
      let r = listed p n i h in
      let c = rises_ploidy r in
      let f = rises_genotype r in
      record {
        ploidy = c;
        genotype = rw c f;
        limits = rw c l;
        small = record { is = λ j w. (let z = f.below j w in let y = l.most in omega arith) };
        number = numbered p n i h;
      }

  several_back : (g : List ℕ) → There g → 2 ≤ p → ask_answer (shortest n) (genotype_text g) ≡ says 0 (i ∷ [])
  several_back [] t w = absurd (let c = t.ploidy in omega arith)
  several_back (k ∷ []) t w = absurd (let c = t.ploidy in omega arith)
  several_back (k ∷ j ∷ g) t w =
      answered n (k ∷ j ∷ g) (genotype_text (k ∷ j ∷ g)) t.limits t.genotype (several_mark k j g) (bare_means k j g t.small) ∙ ap (λ (m : ℕ). says 0 (m ∷ [])) t.number

  marked_back : (g : List ℕ) → There g → ask_answer (shortest n) (47 ∷ genotype_text g) ≡ says 0 (i ∷ [])
  marked_back [] t = absurd (let c = t.ploidy in let o = l.one in omega arith)
  marked_back (k ∷ g) t =
      answered n (k ∷ g) (47 ∷ genotype_text (k ∷ g)) t.limits t.genotype (slash_mark _ (lacks_here 47 (genotype_text (k ∷ g)) refl)) (marked_means k g t.small)
      ∙ ap (λ (m : ℕ). says 0 (m ∷ [])) t.number

pub gives_back : GivesBack genotype_text ask_answer
gives_back =
    record {
      several = λ p n i l h w. several_back p n i l h (get_or (ordering p n) i []) (there p n i l h) w;
      marked = λ p n i l h. marked_back p n i l h (get_or (ordering p n) i []) (there p n i l h);
    }

pub rows_fit : RowsFit line_of row_answer
rows_fit = row_done
