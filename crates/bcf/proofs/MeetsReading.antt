-- Our reader over the definitions reads exactly what is laid out, and what is asked leaves one reader: bytes are readable exactly where they
-- lay out a list; a reader that is told the width is one of these, or told none. Assumes nothing.
use Prim.Native.Nat.{ℕ, ◌≤◌, ◌<◌}
use mathlib.Core.Path.{◌≡◌, refl, sym, ap, ◌∙◌}
use mathlib.Core.Bool.{Bool, true, false, false≢true}
use mathlib.Core.List.{List, [], ◌∷◌}
use mathlib.Core.Option as O
use mathlib.Core.Option.{Option}
use native.Mathlib.Omega.{arith}
use native.Mathlib.Decide.{ℕ_discrete, dec_le}
use lib.ListN.{length}
use borrow.Author.Tests.{ne_eqb, le-leb, lt-leb}
use Rattle.text.specs.Answer.{Answer, says, number_of}
use Rattle.text.specs.Over.{over}
use Rattle.text.proofs.OutcomeLaws.{alike}
use Rattle.allele.specs.declared.allele.Allele.{Allele}
use Rattle.genotype.specs.Demands.{Reader, Untouched}
use Rattle.genotype.proofs.Refusals.{one_outcome}
use Rattle.bcf.specs.Layout.{size, Lays}
use Rattle.bcf.specs.declared.width.Width.{Width}
use Rattle.bcf.specs.Reading.{readable, list_read, vector_answer, width_by}
use Rattle.bcf.specs.Demands.{reader, WasRead, NotRead, bad, short, MeetsReading, OneReader, told_by, told, MeetsTold, OneTold}
use Rattle.bcf.proofs.LayoutLaws.{lays_readable, readable_lays, lays_read}
use Rattle.bcf.proofs.SmallestLaws.{width_by_lem, by_width, by_none}

-- ---- the three answers

data Read (w : Width) (v : List ℕ) (room : ℕ) : Answer → Type 0 where
  fits : {n : ℕ} → Lays w (list_read w v) n v → length (list_read w v) ≤ room → Read w v room (says 0 (length (list_read w v) ∷ []))
  lacks : {n : ℕ} → Lays w (list_read w v) n v → room < length (list_read w v) → Read w v room (says 17 [])
  none : ((as' : List Allele) (n : ℕ) → Lays w as' n v → ⊥) → Read w v room (says 26 [])

answered : (w : Width) (v : List ℕ) (room : ℕ) → Read w v room (vector_answer w v room)
unfolding vector_answer
answered w v room = by (readable w v) refl (dec_le (length (list_read w v)) room)
  where
    by : (t : Bool) → readable w v ≡ t → Dec (length (list_read w v) ≤ room) → Read w v room (vector_answer w v room)
    by true e (yes h) = rw (e, le-leb (length (list_read w v)) room h) (fits (readable_lays w v e) h)
    by true e (no h) = rw (e, lt-leb (length (list_read w v)) room (omega arith)) (lacks (readable_lays w v e) (omega arith))
    by false e d = rw e (none (λ as' n l. false≢true (sym e ∙ lays_readable l)))

-- ---- what is asked

module _ (w : Width) (v : List ℕ) (row : List Allele) where
  pub was_read : number_of (reader w v row).answer ≡ 0 → WasRead w v row (reader w v row)
  unfolding reader
  was_read z = by (answered w v (length row)) refl
    where
      by : {a : Answer} → Read w v (length row) a → vector_answer w v (length row) ≡ a → WasRead w v row (reader w v row)
      by (fits {n} l h) e =
          record { list = list_read w v; entries = n; lays = l; only = λ as' k m. sym (lays_read m); count = e; holds = rw e }
      by (lacks l h) e = absurd (let q = ap number_of e in omega arith)
      by (none n) e = absurd (let q = ap number_of e in omega arith)

  given : {a b : Answer} → Read w v (length row) b → (number_of a ≡ 0 → ⊥) → b ≡ a → NotRead w v row a
  given (fits l h) n e = absurd (n (ap number_of (sym e)))
  given (lacks l h) n e = rw (← e) (short l h)
  given (none u) n e = rw (← e) (bad u)

  due : {a b : Answer} → Read w v (length row) b → NotRead w v row a → b ≡ a
  due (fits l h) (bad u) = absurd (u _ _ l)
  due (lacks l h) (bad u) = absurd (u _ _ l)
  due (none u) (bad t) = refl
  due (fits l h) (short m k) = absurd (let e = ap length (lays_read m) in omega arith)
  due (lacks l h) (short m k) = refl
  due (none u) (short m k) = absurd (u _ _ m)

pub meets_reading : (w : Width) → MeetsReading w (reader w)
unfolding reader Untouched
meets_reading w =
    record {
      reads = was_read w;
      refusals = λ v row a n. (given w v row (answered w v (length row)) n, due w v row (answered w v (length row)));
      untouched = λ v row n. rw (ne_eqb _ 0 n);
    }

-- ---- any reader that is so

module _ {w : Width} {read : Reader} (m : MeetsReading w read) {as' : List Allele} {n : ℕ} {v : List ℕ} (l : Lays w as' n v) (row : List Allele) (h : length as' ≤ length row) where
  -- reads the list that is laid out
  pub reads_list : read v row ≡ record { answer = says 0 (length as' ∷ []); row = over as' row }
  reads_list = by (ℕ_discrete (number_of (read v row).answer) 0)
    where
      not : {a : Answer} → NotRead w v row a → ⊥
      not (bad u) = u _ _ l
      not (short k o) = let e = ap length (sym (lays_read k) ∙ lays_read l) in omega arith

      by : Dec (number_of (read v row).answer ≡ 0) → read v row ≡ record { answer = says 0 (length as' ∷ []); row = over as' row }
      by (yes z) = let r = m.reads v row z in let e = r.only as' n l in one_outcome _ _ (rw e r.count) (rw e r.holds)
      by (no z) = absurd (not ((m.refusals v row _ z).0 refl))

pub one_reader : OneReader
unfolding OneReader Untouched
one_reader w read other m m' v row = alike (m.refusals v row) (m'.refusals v row) both (λ e n n'. one_outcome _ _ e (m.untouched v row n ∙ sym (m'.untouched v row n')))
  where
    both : number_of (read v row).answer ≡ 0 → number_of (other v row).answer ≡ 0 → read v row ≡ other v row
    both z z' =
        let r = m.reads v row z in
        let o = m'.reads v row z' in
        let e = o.only r.list r.entries r.lays in
        one_outcome _ _ (r.count ∙ rw e (sym o.count)) (r.holds ∙ rw e (sym o.holds))

-- ---- told the width

pub meets_told : MeetsTold told
unfolding told told_by
meets_told = record { known = λ w. rw (width_by_lem w) (meets_reading w); unknown = λ b n v row. rw ((by_none b).1 n) }

pub one_told : OneTold
unfolding OneTold OneReader
one_told read other m m' b v row = by (width_by b) refl
  where
    by : (o : Option Width) → width_by b ≡ o → read b v row ≡ other b v row
    by (O.some w) e = rw (by_width b w e) (one_reader w (read (size w)) (other (size w)) (m.known w) (m'.known w) v row)
    by O.none e = let n = (by_none b).0 e in m.unknown b n v row ∙ sym (m'.unknown b n v row)
