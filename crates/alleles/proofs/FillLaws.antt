-- Filling a row of as many records as a text has alleles: those that are laid, and behind them those that are left, are its list. Assumes nothing.
use Prim.Native.Nat.{ℕ, ◌+◌, ◌≤◌, ◌<◌}
use mathlib.Core.Path.{◌≡◌, refl, sym, ap, ◌∙◌}
use mathlib.Core.List.{List, [], ◌∷◌, ◌++◌, append_assoc, append-nil}
use native.Mathlib.Omega.{arith}
use lib.ListN.{length, take, drop, set, length-set, length-append}
use lib.Seq.{length-take-le, take_all}
use Rattle.std.specs.Prelude.{Ok, Err}
use Rattle.std.proofs.lemmas.List.{take_more_set}
use borrow.Rule.Slice.PartMut.{put_mid}
use Rattle.text.specs.Answer.{Answer}
use Rattle.text.specs.Over.{laid}
use Rattle.text.proofs.Lists.{over_is}
use Rattle.text.proofs.CopyLaws.{laid_refused}
use Rattle.allele.specs.Reading.{reading_of, step_answer, list_of}
use Rattle.allele.specs.Paper.{Step, step_paper}
use Rattle.allele.specs.declared.allele.Allele.{Allele}
use Rattle.allele.specs.declared.step.NoAllele.{NoAllele}
use Rattle.genotype.specs.Inner.{ListMeant}
use Rattle.genotype.specs.Answers.{text_answer, checked_text}
use Rattle.genotype.specs.Paper.{read_paper}
use Rattle.genotype.specs.declared.read.ReadError.{ReadError}
use Rattle.genotype.proofs.JudgeLaws.{error_number}
use Rattle.genotype.proofs.Ahead.{left_of, Ahead, ahead_first, left_first, ahead_turn, left_turn, left_end}
use Rattle.genotype.proofs.ReadLaws.{Fits, read_fits, checked_fits}
use Rattle.alleles.specs.Read.{ReadsRow, ReadsRowChecked}

-- i alleles are laid, and the text goes on at a place
pub record Filling (t : List ℕ) (row : List Allele) (i at : ℕ) : Type 0 where
  pub ahead : Ahead t at i
  pub as_many : length row ≡ length (list_of (reading_of t))
  pub same : take i row ++ left_of t at i ≡ list_of (reading_of t)

pub fill_first : {t : List ℕ} {row : List Allele} → ListMeant t → length row ≡ length (list_of (reading_of t)) → Filling t row 0 0
fill_first {t} m e = record { ahead = ahead_first t m; as_many = e; same = left_first t m }

module _ {t : List ℕ} {row : List Allele} {i at : ℕ} (g : Filling t row i at) (x : Step) (e : step_paper x ≡ step_answer t at) (h : i < length row) where
  pub fill_turn : (a : Allele) (next : ℕ) → x ≡ Ok (a, next) → Filling t (set row i a) (i + 1) next
  fill_turn a next q =
      record {
        ahead = ahead_turn g.ahead e q;
        as_many = simp length-set g.as_many;
        same = rw (take_more_set row i a h, append_assoc) (rw (left_turn g.ahead e q) at g.same);
      }

  -- while records are left, an allele is
  pub fill_none : (y : NoAllele) → x ≡ Err y → ⊥
  fill_none y q =
      let z = left_end t at i x g.ahead e y q in
      let w = ap length (rw (z, append-nil) at g.same) in
      let l = length-take-le i row (omega arith) in
      omega (arith, g.as_many)

-- the row is full
pub fill_past : {t : List ℕ} {row : List Allele} {i at : ℕ} → Filling t row i at → length row ≤ i → row ≡ list_of (reading_of t)
fill_past {t} {row} {i} {at} g h = by (left_of t at i) (rw (take_all i row h) at g.same)
  where
    by : (as' : List Allele) → row ++ as' ≡ list_of (reading_of t) → row ≡ list_of (reading_of t)
    by [] e = rw append-nil at e
    by (a ∷ as') e = absurd (let w = rw length-append at (ap length e) in omega (arith, g.as_many))

-- ---- the readers

module _ (t : List ℕ) (row : List Allele) (a : Answer) where
  -- what is refused changes nothing
  error_row : (e : ReadError) → read_paper (Err e) ≡ a → row ≡ laid a (list_of (reading_of t)) row
  error_row e h = sym (laid_refused a (list_of (reading_of t)) row (λ z. error_number e (rw h z)))

  -- and a list that is read lies over the row
  done_row : {k : ℕ} {ys : List Allele} → read_paper (Ok k) ≡ a → Fits (reading_of t) (length row) k → ys ≡ list_of (reading_of t) → ys ++ drop k row ≡ laid a (list_of (reading_of t)) row
  unfolding read_paper
  done_row {k} h f e = rw (← h, e, over_is (list_of (reading_of t)) row, f.count)

module _ (t : List ℕ) (row : List Allele) where
  pub reads_error : {e : ReadError} → read_paper (Err e) ≡ text_answer t (length row) → ReadsRow t row (Err e) row
  reads_error h = record { answer = h; records = error_row t row _ _ h }

  module _ (k : ℕ) (h : read_paper (Ok k) ≡ text_answer t (length row)) where
    reads_fits : Fits (reading_of t) (length row) k
    reads_fits = read_fits t (length row) (Ok k) h refl

    pub reads_within : k ≤ length row
    reads_within = let f = reads_fits in omega (arith, f.count, f.few)

    pub reads_part : k ≡ length (take k row)
    reads_part = sym (length-take-le k row reads_within)

    pub reads_meant : ListMeant t
    reads_meant = record { is = reads_fits.meant }

    pub reads_long : length (take k row) ≡ length (list_of (reading_of t))
    reads_long = sym reads_part ∙ sym reads_fits.count

    pub reads_done : {ys : List Allele} → ys ≡ list_of (reading_of t) → ReadsRow t row (Ok k) (put_mid 0 k row ys)
    reads_done e = record { answer = h; records = done_row t row _ h reads_fits e }

module _ (t alt : List ℕ) (row : List Allele) where
  pub checks_error : {e : ReadError} → read_paper (Err e) ≡ checked_text t alt (length row) → ReadsRowChecked t alt row (Err e) row
  checks_error h = record { answer = h; records = error_row t row _ _ h }

  module _ (k : ℕ) (h : read_paper (Ok k) ≡ checked_text t alt (length row)) where
    checks_fits : Fits (reading_of t) (length row) k
    checks_fits = checked_fits t alt (length row) (Ok k) h refl

    pub checks_within : k ≤ length row
    checks_within = let f = checks_fits in omega (arith, f.count, f.few)

    pub checks_part : k ≡ length (take k row)
    checks_part = sym (length-take-le k row checks_within)

    pub checks_meant : ListMeant t
    checks_meant = record { is = checks_fits.meant }

    pub checks_long : length (take k row) ≡ length (list_of (reading_of t))
    checks_long = sym checks_part ∙ sym checks_fits.count

    pub checks_done : {ys : List Allele} → ys ≡ list_of (reading_of t) → ReadsRowChecked t alt row (Ok k) (put_mid 0 k row ys)
    checks_done e = record { answer = h; records = done_row t row _ h checks_fits e }

pub ruleset laws = (fill_first, fill_turn, fill_none, fill_past)
