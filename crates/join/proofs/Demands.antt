-- The joiner meets its statements: outside the output by 6, else by one of the three ways of its columns; and two that meet them are one.
-- Assumes nothing.
use Prim.Native.Nat.{ℕ, ◌+◌, ◌≤◌, ◌<◌}
use mathlib.Core.Path.{◌≡◌, refl, sym, ap, ◌∙◌}
use mathlib.Core.List.{List, [], ◌∷◌}
use native.Mathlib.Omega.{arith}
use native.Mathlib.Decide.{dec_le}
use lib.ListN.{length, drop, length-drop}
use borrow.Author.Tests.{le-leb, lt-leb, eq-eqb}
use Rattle.text.specs.Answer.{Answer, says, number_of}
use Rattle.text.specs.Outcome.{Outcome, WrittenAs}
use Rattle.text.proofs.CopyLaws.{room_fits, room_lacks, laid_at_refused}
use Rattle.text.proofs.OutcomeLaws.{RefusedWhen, one_outcome, one_written}
use Rattle.record.specs.Ending.{Ending}
use Rattle.join.specs.Join.{line_text, columns_answer}
use Rattle.join.specs.Demands.{Joiner, joiner, IsLine, Written, WritesLine, Refused, beyond, few, fault, short, Refusals, Untouched, Meets, OneJoiner}
use Rattle.join.proofs.FaultLaws.{line_is, Way, uncounted, faulted, lined, way, columns_few, columns_fault, columns_line, fault_some}

-- ---- ours, way by way

module _ (cs : List (List ℕ)) (e : Ending) (out : List ℕ) (at : ℕ) where
  answer_beyond : length out < at → (joiner cs e out at).answer ≡ says 6 []
  unfolding joiner
  answer_beyond h = rw (lt-leb _ _ h)

  answer_inside : at ≤ length out → (joiner cs e out at).answer ≡ columns_answer cs e (drop at out)
  unfolding joiner
  answer_inside h = rw (le-leb _ _ h)

  answer_short : {t : List ℕ} → at ≤ length out → IsLine cs e t → length out < at + length t → (joiner cs e out at).answer ≡ says 17 []
  answer_short {t} h l o =
      let b : IsLine cs e (line_text cs e) = rw (line_is l) at l in
      let k = ap length (line_is l) in
      answer_inside h ∙ columns_line cs e (drop at out) b ∙ room_lacks (line_text cs e) (drop at out) (simp length-drop (omega arith))

  -- a refusal that is due is given
  due : {a : Answer} → Refused cs e out at a → (joiner cs e out at).answer ≡ a
  due (beyond h) = answer_beyond h
  due (few h m) = answer_inside h ∙ columns_few cs e (drop at out) m
  due (fault h m f) = answer_inside h ∙ columns_fault cs e (drop at out) m f
  due (short h l o) = answer_short h l o

  -- the answer is done, or one that is due
  data Told : Answer → Type 0 where
    done : IsLine cs e (line_text cs e) → at + length (line_text cs e) ≤ length out → Told (says 0 (length (line_text cs e) ∷ []))
    refuses : {a : Answer} → (number_of a ≡ 0 → ⊥) → Refused cs e out at a → Told a

  refused : {a : Answer} → (number_of a ≡ 0 → ⊥) → Refused cs e out at a → Told (joiner cs e out at).answer
  refused n r = rw (due r) (refuses n r)

  told : Told (joiner cs e out at).answer
  told = by (dec_le at (length out)) (way cs e)
    where
      roomy : at ≤ length out → IsLine cs e (line_text cs e) → Dec (at + length (line_text cs e) ≤ length out) → Told (joiner cs e out at).answer
      roomy h l (yes r) =
          let f = room_fits (line_text cs e) (drop at out) (simp length-drop (omega arith)) in
          rw (answer_inside h, columns_line cs e (drop at out) l, f) (done l r)
      roomy h l (no r) = refused {a = says 17 []} (λ z. omega arith) (short h l (omega arith))

      by : Dec (at ≤ length out) → Way cs e → Told (joiner cs e out at).answer
      by (no h) w = refused {a = says 6 []} (λ z. omega arith) (beyond (omega arith))
      by (yes h) (uncounted m q) = refused {a = says 19 []} (λ z. omega arith) (few h m)
      by (yes h) (faulted m f) = refused (λ z. fault_some f.here z) (fault h m f)
      by (yes h) (lined q l) = roomy h l (dec_le (at + length (line_text cs e)) (length out))

pub writes_line : WritesLine joiner
unfolding WritesLine joiner
writes_line cs e out at z = by (told cs e out at) refl
  where
    by : {a : Answer} → Told cs e out at a → (joiner cs e out at).answer ≡ a → Written cs e out at (joiner cs e out at)
    by (done l r) q = record { text = line_text cs e; line = l; count = q; fits = r; bytes = rw (eq-eqb _ _ z) }
    by (refuses n f) q = absurd (n (sym (ap number_of q) ∙ z))

pub refusals : Refusals joiner
unfolding Refusals
refusals cs e out at a n = (λ q. by (told cs e out at) q, due cs e out at)
  where
    by : {b : Answer} → Told cs e out at b → b ≡ a → Refused cs e out at a
    by (done l r) q = absurd (n (sym (ap number_of q)))
    by (refuses m f) q = rw q at f

pub untouched : Untouched joiner
unfolding Untouched joiner
untouched cs e out at n = laid_at_refused (joiner cs e out at).answer at (line_text cs e) out n

pub meets : Meets joiner
meets = record { writes_line = writes_line; refusals = refusals; untouched = untouched }

-- what a joiner has written, as what any writer has
abbrev pub as_written : {cs : List (List ℕ)} {e : Ending} {out : List ℕ} {at : ℕ} {o : Outcome} → Written cs e out at o → WrittenAs (IsLine cs e) out at o
as_written w = record { text = w.text; is = w.line; count = w.count; fits = w.fits; bytes = w.bytes }

-- ---- one joiner

pub one_joiner : OneJoiner
unfolding OneJoiner WritesLine Refusals Untouched
one_joiner join other m m' cs e out at = one_outcome (refused join m) (refused other m') both
  where
    refused : (j : Joiner) → Meets j → RefusedWhen (Refused cs e out at) out (j cs e out at)
    refused j g = record { given = g.refusals cs e out at; left = g.untouched cs e out at }

    both : number_of (join cs e out at).answer ≡ 0 → number_of (other cs e out at).answer ≡ 0 → join cs e out at ≡ other cs e out at
    both z z' =
        let w = m.writes_line cs e out at z in
        let w' = m'.writes_line cs e out at z' in
        one_written (as_written w) (as_written w') (line_is w.line ∙ sym (line_is w'.line))
