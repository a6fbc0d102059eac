-- The writer meets its statements: outside the output by 6, else by whether its entries are fine; and two that meet them are one.
-- Assumes nothing.
use Prim.Native.Nat.{ℕ, ◌+◌, ◌≤◌, ◌<◌}
use mathlib.Core.Path.{◌≡◌, refl, sym, ap, ◌∙◌}
use mathlib.Core.List.{List, [], ◌∷◌}
use native.Mathlib.Omega.{arith}
use native.Mathlib.Decide.{dec_le}
use lib.ListN.{length, drop, length-drop}
use borrow.Author.Tests.{le-leb, lt-leb, eq-eqb}
use Rattle.text.specs.Answer.{Answer, says, number_of}
use Rattle.text.proofs.CopyLaws.{room_fits, room_lacks, laid_at_refused}
use Rattle.text.proofs.OutcomeLaws.{RefusedWhen, one_outcome, one_written}
use Rattle.lists.specs.Write.{list_text, entries_answer}
use Rattle.lists.specs.Demands.{AllFine, Writer, writer, TextOf, Written, WritesText, Refused, beyond, fault, short, Refusals, Untouched, Meets, OneWriter}
use Rattle.lists.specs.declared.write.Kind.{Kind}
use Rattle.lists.proofs.FaultLaws.{first_some, Way, faultless, faulted, way, fine_answer, fault_answer, text_of, text_is}

-- ---- ours, way by way

module _ (kind : Kind) (es : List (List ℕ)) (out : List ℕ) (at : ℕ) where
  answer_beyond : length out < at → (writer kind es out at).answer ≡ says 6 []
  unfolding writer
  answer_beyond h = rw (lt-leb _ _ h)

  answer_inside : at ≤ length out → (writer kind es out at).answer ≡ entries_answer kind es (drop at out)
  unfolding writer
  answer_inside h = rw (le-leb _ _ h)

  answer_short : {t : List ℕ} → at ≤ length out → AllFine kind es → TextOf kind es t → length out < at + length t → (writer kind es out at).answer ≡ says 17 []
  answer_short h f t o =
      let k = ap length (text_is t) in
      answer_inside h ∙ fine_answer kind es (drop at out) f ∙ room_lacks (list_text kind es) (drop at out) (simp length-drop (omega arith))

  -- a refusal that is due is given
  due : {a : Answer} → Refused kind es out at a → (writer kind es out at).answer ≡ a
  due (beyond h) = answer_beyond h
  due (fault h f) = answer_inside h ∙ fault_answer (drop at out) f
  due (short h f t o) = answer_short h f t o

  -- the answer is done, or one that is due
  data Told : Answer → Type 0 where
    done : AllFine kind es → at + length (list_text kind es) ≤ length out → Told (says 0 (length (list_text kind es) ∷ []))
    refuses : {a : Answer} → (number_of a ≡ 0 → ⊥) → Refused kind es out at a → Told a

  refused : {a : Answer} → (number_of a ≡ 0 → ⊥) → Refused kind es out at a → Told (writer kind es out at).answer
  refused n r = rw (due r) (refuses n r)

  told : Told (writer kind es out at).answer
  told = by (dec_le at (length out)) (way kind es)
    where
      roomy : at ≤ length out → AllFine kind es → Dec (at + length (list_text kind es) ≤ length out) → Told (writer kind es out at).answer
      roomy h f (yes r) =
          let q = room_fits (list_text kind es) (drop at out) (simp length-drop (omega arith)) in
          rw (answer_inside h, fine_answer kind es (drop at out) f, q) (done f r)
      roomy h f (no r) = refused {a = says 17 []} (λ z. omega arith) (short h f (text_of kind es f) (omega arith))

      by : Dec (at ≤ length out) → Way kind es → Told (writer kind es out at).answer
      by (no h) w = refused {a = says 6 []} (λ z. omega arith) (beyond (omega arith))
      by (yes h) (faulted f) = refused (first_some f) (fault h f)
      by (yes h) (faultless f) = roomy h f (dec_le (at + length (list_text kind es)) (length out))

pub writes_text : WritesText writer
unfolding WritesText writer
writes_text kind es out at z = by (told kind es out at) refl
  where
    by : {a : Answer} → Told kind es out at a → (writer kind es out at).answer ≡ a → Written kind es out at (writer kind es out at)
    by (done f r) q = record { text = list_text kind es; is = text_of kind es f; count = q; fits = r; bytes = rw (eq-eqb _ _ z) }
    by (refuses n f) q = absurd (n (sym (ap number_of q) ∙ z))

pub refusals : Refusals writer
unfolding Refusals
refusals kind es out at a n = (λ q. by (told kind es out at) q, due kind es out at)
  where
    by : {b : Answer} → Told kind es out at b → b ≡ a → Refused kind es out at a
    by (done f r) q = absurd (n (sym (ap number_of q)))
    by (refuses m f) q = rw q at f

pub untouched : Untouched writer
unfolding Untouched writer
untouched kind es out at n = laid_at_refused (writer kind es out at).answer at (list_text kind es) out n

pub meets : Meets writer
meets = record { writes_text = writes_text; refusals = refusals; untouched = untouched }

-- ---- one writer

pub one_writer : OneWriter
unfolding OneWriter WritesText Refusals Untouched
one_writer write other m m' kind es out at = one_outcome (refused write m) (refused other m') both
  where
    refused : (w : Writer) → Meets w → RefusedWhen (Refused kind es out at) out (w kind es out at)
    refused w g = record { given = g.refusals kind es out at; left = g.untouched kind es out at }

    both : number_of (write kind es out at).answer ≡ 0 → number_of (other kind es out at).answer ≡ 0 → write kind es out at ≡ other kind es out at
    both z z' =
        let w = m.writes_text kind es out at z in
        let w' = m'.writes_text kind es out at z' in
        one_written w w' (text_is w.is ∙ sym (text_is w'.is))
