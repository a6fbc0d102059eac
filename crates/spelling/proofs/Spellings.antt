-- What any writer has written is the shortest spelling of its list, so it tells which list it was, and is written again; and it means
-- that list, so any reader reads it as that again. Assumes nothing.
use Prim.Native.Nat.{ℕ, ◌+◌, ◌≤◌}
use mathlib.Core.Path.{◌≡◌, sym, ap, ◌∙◌}
use mathlib.Core.List.{List, [], ◌∷◌}
use native.Mathlib.Omega.{arith}
use native.Mathlib.Decide.{ℕ_discrete}
use lib.ListN.{length, take, drop}
use lib.Seq.{take_at}
use Rattle.text.specs.Answer.{says, number_of}
use Rattle.text.specs.Over.{over, over_at}
use Rattle.text.specs.Outcome.{laid_over, HasWritten}
use Rattle.text.proofs.Lists.{over_is}
use Rattle.text.proofs.OutcomeLaws.{same_outcome, was_written, written_is, written_length, written_taken}
use Rattle.allele.specs.Means.{Means}
use Rattle.allele.specs.declared.allele.Allele.{Allele}
use Rattle.genotype.specs.Demands as Genotype
use Rattle.genotype.specs.Demands.{Reader}
use Rattle.genotype.proofs.MostLaws.{means_fits}
use Rattle.genotype.proofs.Refusals.{one_outcome, stands, accepted_stands}
use Rattle.spelling.specs.Permitted.{from44}
use Rattle.spelling.specs.Demands.{Writer, writer, Shortest, WritesShortest, Meets, Exact, OneSpelling, Settled, Settles, Spellings}
use Rattle.spelling.proofs.Shortest.{as_written, one_text_lem, none_shorter}
use Rattle.spelling.proofs.Exact.{writes_shortest, meets, exactly}
use Rattle.spelling.proofs.OneSpelling.{permitted_one, shortest_one}
use Rattle.spelling.proofs.RoundTrip.{permitted_means}

-- ---- any writer

module _ (write : Writer) (m : Meets write) where
  pub written_shortest : (major minor : ℕ) (as' : List Allele) (out : List ℕ) (at : ℕ) {t : List ℕ} → HasWritten (write major minor as' out at) at t
      → Shortest major minor as' t
  unfolding WritesShortest
  written_shortest major minor as' out at h =
      written_is (as_written (m.writes_shortest major minor as' out at (ap number_of h.count))) h

  pub one_spelling : OneSpelling write
  unfolding OneSpelling
  one_spelling major minor as' out at t major₂ minor₂ bs out₂ at₂ u h g =
      let p = written_shortest major minor as' out at h in
      let q = written_shortest major₂ minor₂ bs out₂ at₂ g in
      (permitted_one p.has q.has, λ e. shortest_one (from44 major minor) (from44 major₂ minor₂) as' p (rw (← e) at q))

  -- with room the shortest spelling is written
  pub written_again : (major minor : ℕ) (as' : List Allele) {u : List ℕ} → Shortest major minor as' u → (out : List ℕ) (at : ℕ) → at + length u ≤ length out
      → write major minor as' out at ≡ laid_over u out at
  unfolding WritesShortest Exact
  written_again major minor as' {u} s out at h = by (ℕ_discrete (number_of (write major minor as' out at).answer) 0)
    where
      by : Dec (number_of (write major minor as' out at).answer ≡ 0) → write major minor as' out at ≡ laid_over u out at
      by (yes z) =
          let w = m.writes_shortest major minor as' out at z in
          let e = one_text_lem w.shortest s in
          same_outcome (w.count ∙ rw e) (w.bytes ∙ rw e)
      by (no z) = absurd ((exactly write m major minor as' out at (omega arith) (λ t q. let l = ap length (one_text_lem q s) in omega arith)).0 z u s.has)

-- ---- ours

-- what is left in the output, where the answer is done
module _ (major minor : ℕ) (as' : List Allele) (out : List ℕ) (at : ℕ) {n : ℕ} {left : List ℕ} (a : (writer major minor as' out at).answer ≡ says 0 (n ∷ []))
    (b : left ≡ (writer major minor as' out at).output) where
  pub ours_written : HasWritten (writer major minor as' out at) at (take n (drop at left))
  unfolding WritesShortest
  ours_written =
      written_taken (was_written (as_written (writes_shortest major minor as' out at (ap number_of a)))) a b

  pub ours_shortest : Shortest major minor as' (take n (drop at left))
  ours_shortest = written_shortest writer meets major minor as' out at ours_written

  pub ours_again : (out₂ : List ℕ) (at₂ : ℕ) → at₂ + n ≤ length out₂
      → writer major minor as' out₂ at₂ ≡ record { answer = says 0 (n ∷ []); output = over_at at₂ (take n (drop at left)) out₂ }
  ours_again out₂ at₂ h =
      let k = written_length ours_written a in
      written_again writer meets major minor as' ours_shortest out₂ at₂ (rw k h) ∙ rw k

-- ---- and any reader

module _ (read : Reader) (g : Genotype.Meets read) where
  -- a text that means a list is read as it
  pub read_again : {u : List ℕ} {as' : List Allele} → Means u as' → (row : List Allele) → length as' ≤ length row
      → read u row ≡ record { answer = says 0 (length as' ∷ []); row = over as' row }
  read_again {u} {as'} k row h =
      let s = stands read g u row as' k h in
      let e = s.only as' k in
      one_outcome (read u row) _ (cc) (cc)

  settled : (write : Writer) → Meets write → (major minor : ℕ) (t : List ℕ) (as' : List Allele) → Means t as' → (out : List ℕ) (at : ℕ) {u : List ℕ}
      → HasWritten (write major minor as' out at) at u → Settled read write major minor as' u
  settled write m major minor t as' k out at h =
      let s = written_shortest write m major minor as' out at h in
      record {
        read_again = read_again (permitted_means (means_fits k) s.has);
        written_again = written_again write m major minor as' s;
        least = λ v p. none_shorter s p;
      }

  settles : (write : Writer) → Meets write → Settles read write
  unfolding Settles
  settles write m t row n e major minor out at u h =
      let s = accepted_stands read g t row (ap number_of e) in
      let c : says 0 (n ∷ []) ≡ says 0 (length s.list ∷ []) = sym e ∙ s.count in
      let k : length s.list ≡ n = cc in
      let r : take n (read t row).row ≡ s.list = rw (s.holds, over_is s.list row) (take_at s.list _ n k) in
      rw r (settled write m major minor t s.list s.means out at (rw r at h))

pub spellings : Spellings
unfolding Spellings
spellings write m = (one_spelling write m, λ read g. settles read g write m)
