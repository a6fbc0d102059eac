-- The readers: 16 first, then what the judge answers; only where that is done are the slices filled, and then they hold the list. Assumes nothing.
use Prim.Native.Nat.{ℕ, ◌≤◌}
use mathlib.Core.Path.{◌≡◌, refl, sym, ap, ◌∙◌}
use mathlib.Core.Bool.{Bool, true, false, and-eq-true_iff}
use mathlib.Core.List.{List, [], ◌∷◌}
use mathlib.Core.Option.{Option, some, none}
use native.Mathlib.Omega.{arith}
use native.Mathlib.Decide.{dec_le}
use lib.ListN.{length}
use lib.Dec.{eqb}
use borrow.Author.Tests.{eqb-true, eq-eqb, ne_eqb}
use Rattle.std.specs.Prelude.{Ok, Err, Result}
use Rattle.text.specs.Answer.{Answer, says, number_of}
use Rattle.text.specs.Over.{room_for}
use Rattle.text.proofs.CopyLaws.{laid_refused}
use Rattle.lists.specs.AlternateBases.{alt_count}
use Rattle.allele.specs.Reading.{Reading, list, bad, empty, reading_of, list_of}
use Rattle.allele.specs.Row.{numbers_of, missing_of, phased_of, Parallel}
use Rattle.allele.specs.declared.allele.Allele.{Allele}
use Rattle.genotype.specs.Answers.{read_answer, first_above, above_answer, checked_answer, text_answer, checked_text, one_length, row_answer, Reads}
use Rattle.genotype.specs.Paper.{Read, read_paper}
use Rattle.genotype.specs.declared.read.ReadError.TheVariants as R
use Rattle.genotype.specs.Inner.{Judged, Room, Laid, Lays, Copies, Keeps, Kept, Fillable, FindsPair, KnowsPair, pair_of}
use Rattle.genotype.specs.declared.lay.Whole.{Whole}
use Rattle.genotype.specs.declared.read.ReadError.{ReadError}
use Rattle.genotype.proofs.JudgeLaws.{error_number, judge_fits, judge_error}
use Rattle.genotype.proofs.AboveLaws.{check_error}
use Rattle.genotype.proofs.KeepLaws.{room_even, laid_keeps, keeps_laid}
use Rattle.genotype.proofs.PairLaws.{pair_reads, pair_length, pair_told}
use Rattle.genotype.proofs.AnswerLaws.{answer_list, answer_short, answer_bad, answer_empty}

-- ---- the answer

module _ (as' : List Allele) (n m p : List ℕ) where
  -- what is refused changes nothing
  refused : (a : Answer) (x : ReadError) → read_paper (Err x) ≡ a → Reads a as' n m p (Err x) n m p
  refused a x e =
      let z : number_of a ≡ 0 → ⊥ = λ z. error_number x (rw e z) in
      record {
        answer = e;
        numbers = sym (laid_refused a (numbers_of as') n z);
        missing = sym (laid_refused a (missing_of as') m z);
        phased = sym (laid_refused a (phased_of as') p z);
      }

  -- and what is done lays the list
  done : (a : Answer) (k : ℕ) {n' m' p' : List ℕ} → read_paper (Ok k) ≡ a → Laid as' n m p n' m' p' → Reads a as' n m p (Ok k) n' m' p'
  unfolding read_paper
  done a k e l = rw (← e) (record { answer = refl; numbers = l.numbers; missing = l.missing; phased = l.phased })

  module _ (a : Answer) {c : Bool} (l : c ≡ one_length (length n) (length m) (length p)) where
    pub lengths_differ : c ≡ false → Reads (row_answer n m p a) as' n m p (Err R.Lengths) n m p
    unfolding row_answer read_paper
    lengths_differ e = rw (← l, e) (refused (says 16 []) R.Lengths refl)

    pub lengths_one : {r : Read} {n' m' p' : List ℕ} → c ≡ true → Reads a as' n m p r n' m' p' → Reads (row_answer n m p a) as' n m p r n' m' p'
    unfolding row_answer
    lengths_one e g = rw (← l, e) g

-- ---- a list that fits

-- what is done is a list of k alleles that the row holds
pub record Fits (r : Reading) (room k : ℕ) : Type 0 where
  pub meant : r ≡ list (list_of r)
  pub count : length (list_of r) ≡ k
  pub few : length (list_of r) ≤ room

fits : (t : List ℕ) (r : Reading) (room k : ℕ) → read_paper (Ok k) ≡ read_answer t r room → Fits r room k
unfolding read_paper list_of
fits t (list as') room k e = by (dec_le (length as') room)
  where
    by : Dec (length as' ≤ room) → Fits (list as') room k
    by (yes h) = record { meant = refl; count = let q = e ∙ answer_list t room as' h in cc; few = h }
    by (no h) = absurd (let z = ap number_of (e ∙ answer_short t room as' (omega arith)) in omega arith)
fits t (bad j) room k e = absurd (let z = ap number_of (e ∙ answer_bad t room j) in omega arith)
fits t empty room k e = absurd (let z = ap number_of (e ∙ answer_empty t room) in omega arith)

-- a check passes on only what none is above
checked : (count : ℕ) (t : List ℕ) (r : Reading) (room k : ℕ) → read_paper (Ok k) ≡ checked_answer count t r room → read_paper (Ok k) ≡ read_answer t r room
unfolding read_paper checked_answer above_answer
checked count t r room k e = by (first_above count 0 (list_of r)) e
  where
    by : (o : Option ℕ) → says 0 (k ∷ []) ≡ above_answer o (read_answer t r room) → says 0 (k ∷ []) ≡ read_answer t r room
    by (some j) e = absurd (let z : ◌≡◌ {A = ℕ} 0 1 = cc in omega arith)
    by none e = e

module _ (t : List ℕ) (room : ℕ) (x : Read) (h : read_paper x ≡ text_answer t room) {k : ℕ} (q : x ≡ Ok k) where
  pub read_fits : Fits (reading_of t) room k
  read_fits = fits t (reading_of t) room k (rw q at h)

module _ (t alt : List ℕ) (room : ℕ) (x : Read) (h : read_paper x ≡ checked_text t alt room) {k : ℕ} (q : x ≡ Ok k) where
  pub checked_fits : Fits (reading_of t) room k
  checked_fits = fits t (reading_of t) room k (checked (alt_count alt) t (reading_of t) room k (rw q at h))

-- ---- filling

module _ {t n m p : List ℕ} {k : ℕ} (v : Parallel n m p) (g : Fillable t k (length n)) where
  pub fill_many : {n' m' p' : List ℕ} {w : Result Whole ReadError} → Lays t n m p w n' m' p' → Laid (list_of (reading_of t)) n m p n' m' p'
  fill_many l = l.laid g.meant (rw g.count (room_even v g.few))

  module _ {a b c : List ℕ} (s : Kept t a b c) (h : k ≤ 8) where
    keeps : Keeps (list_of (reading_of t)) a b c
    keeps = s.is g.meant (omega (arith, g.count))

    pub fill_from : k ≤ length a
    fill_from = rw g.count at keeps.room.numbers

    pub fill_few : {n' m' p' : List ℕ} → Copies k a b c n m p n' m' p' → Laid (list_of (reading_of t)) n m p n' m' p'
    fill_few l = keeps_laid keeps (rw (← g.count) at l)

-- ---- a text that is kept while it is judged

abbrev eight : List ℕ
eight = 0 ∷ 0 ∷ 0 ∷ 0 ∷ 0 ∷ 0 ∷ 0 ∷ 0 ∷ []

pub lays_kept : {t a b c : List ℕ} {w : Result Whole ReadError} → Lays t eight eight eight w a b c → Kept t a b c
lays_kept {t} g =
    record {
      is = λ m h. (let r : Room (length (list_of (reading_of t))) eight eight eight = record { numbers = h; missing = h; phased = h } in laid_keeps r (g.laid m r));
    }

fillable : {t : List ℕ} {room k : ℕ} → Fits (reading_of t) room k → Fillable t k room
fillable f = record { meant = record { is = f.meant }; count = f.count; few = omega (arith, f.few, f.count) }

module _ (t n m p : List ℕ) (w : Result Whole ReadError) (g : Judged t w) where
  pub read_error : (x : ReadError) → w ≡ Err x → Reads (text_answer t (length n)) (list_of (reading_of t)) n m p (Err x) n m p
  read_error x q = refused _ n m p _ x (judge_error t (length n) w g x q)

  module _ (v : Whole) (q : w ≡ Ok v) (r : Read) (f : read_paper r ≡ room_for v.count (length n)) where
    fits_answer : read_paper r ≡ text_answer t (length n)
    fits_answer = judge_fits t (length n) w g v r q f

    pub read_short : (x : ReadError) → r ≡ Err x → Reads (text_answer t (length n)) (list_of (reading_of t)) n m p (Err x) n m p
    read_short x d = refused _ n m p _ x (rw d at fits_answer)

    module _ {k : ℕ} (d : r ≡ Ok k) where
      pub read_fillable : Fillable t k (length n)
      read_fillable = fillable (read_fits t (length n) r fits_answer d)

      pub read_done : {n' m' p' : List ℕ} → Laid (list_of (reading_of t)) n m p n' m' p' → Reads (text_answer t (length n)) (list_of (reading_of t)) n m p (Ok k) n' m' p'
      read_done l = done _ n m p _ k (rw d at fits_answer) l

-- and held to an ALT column
module _ (t alt n m p : List ℕ) where
  pub checked_error : (w : Result Whole ReadError) → Judged t w → (x : ReadError) → w ≡ Err x
      → Reads (checked_text t alt (length n)) (list_of (reading_of t)) n m p (Err x) n m p
  checked_error w g x q = refused _ n m p _ x (check_error t alt (length n) w g x q)

  module _ (r : Read) (f : read_paper r ≡ checked_text t alt (length n)) where
    pub checked_refused : (x : ReadError) → r ≡ Err x → Reads (checked_text t alt (length n)) (list_of (reading_of t)) n m p (Err x) n m p
    checked_refused x d = refused _ n m p _ x (rw d at f)

    module _ {k : ℕ} (d : r ≡ Ok k) where
      pub checked_fillable : Fillable t k (length n)
      checked_fillable = fillable (checked_fits t alt (length n) r f d)

      pub checked_done : {n' m' p' : List ℕ} → Laid (list_of (reading_of t)) n m p n' m' p'
          → Reads (checked_text t alt (length n)) (list_of (reading_of t)) n m p (Ok k) n' m' p'
      checked_done l = done _ n m p _ k (rw d at f) l

-- ---- three lengths

module _ {n m p : List ℕ} {c : Bool} (l : c ≡ one_length (length n) (length m) (length p)) (e : c ≡ true) where
  pub length_even : Parallel n m p
  length_even =
      let b = (and-eq-true_iff (eqb (length n) (length m)) (eqb (length n) (length p))).0 (sym l ∙ e) in
      record { missing = eqb-true (length n) (length m) b.0; phased = eqb-true (length n) (length p) b.1 }

module _ (n m p : ℕ) where
  pub length_one : n ≡ m → eqb n p ≡ one_length n m p
  length_one e = rw (eq-eqb n m e)

  pub length_differs : (n ≡ m → ⊥) → false ≡ one_length n m p
  length_differs e = rw (ne_eqb n m e)

-- ---- a pair

pair_list : {t : List ℕ} {room : ℕ} {d : Bool} → FindsPair t room d → d ≡ true → list_of (reading_of t) ≡ pair_of t
unfolding list_of
pair_list g q = rw (pair_reads (pair_told g q))

module _ {t n m p : List ℕ} {d : Bool} (g : FindsPair t (length n) d) (q : d ≡ true) (v : Parallel n m p) where
  module _ {n' m' p' : List ℕ} (l : Laid (pair_of t) n m p n' m' p') where
    pair_answer : read_paper (Ok 2) ≡ text_answer t (length n)
    unfolding read_paper
    pair_answer = sym (rw (pair_reads (pair_told g q)) (answer_list t (length n) (pair_of t) (omega (arith, pair_length t, g.fits q)) ∙ rw (pair_length t)))

    pub pair_done : Reads (text_answer t (length n)) (list_of (reading_of t)) n m p (Ok 2) n' m' p'
    pair_done = rw (pair_list g q) (done (pair_of t) n m p _ 2 pair_answer l)

pub known_done : {t alt n m p n' m' p' : List ℕ} {d : Bool} → KnowsPair t alt (length n) d → d ≡ true → Parallel n m p → Laid (pair_of t) n m p n' m' p'
    → Reads (checked_text t alt (length n)) (list_of (reading_of t)) n m p (Ok 2) n' m' p'
unfolding checked_answer above_answer
known_done k q v l = let e = pair_list k.found q in rw (e, k.known q) (rw e at (pair_done k.found q v l))

-- ---- as a row

-- what is left in a row is left in the slices that it was made of
pub reads_left : {a : Answer} {as' : List Allele} {n m p n' m' p' n'' m'' p'' : List ℕ} {r : Read} → Reads a as' n m p r n' m' p' → n'' ≡ n' → m'' ≡ m' → p'' ≡ p'
    → Reads a as' n m p r n'' m'' p''
reads_left g e f h = record { answer = g.answer; numbers = e ∙ g.numbers; missing = f ∙ g.missing; phased = h ∙ g.phased }

-- ---- of each function

pub ruleset filling = (fill_from, fill_few, fill_many)

pub ruleset keeping = (lays_kept, read_error, read_short, read_fillable, read_done)

pub ruleset checking = (lays_kept, checked_error, checked_refused, checked_fillable, checked_done)

pub ruleset laws = (lengths_differ, lengths_one, length_even, length_one, length_differs, pair_told, pair_done, known_done)
