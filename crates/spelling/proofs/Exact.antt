-- The writer writes the one shortest permitted spelling, refuses exactly what is to be refused, and then leaves the output as it was:
-- an answer that is done has a text that fits. Such a writer refuses exactly where there is no spelling. Assumes nothing.
use Prim.Native.Nat.{ℕ, ◌+◌, ◌≤◌, ◌<◌}
use mathlib.Core.Path.{◌≡◌, refl, sym, ap, ◌∙◌}
use mathlib.Core.Bool.{Bool}
use mathlib.Core.List.{List, [], ◌∷◌}
use native.Mathlib.Omega.{arith}
use native.Mathlib.Decide.{dec_le, dec_lt}
use lib.ListN.{length, drop, length-drop}
use borrow.Author.Tests.{eq-eqb}
use Rattle.text.specs.Answer.{Answer, says, number_of}
use Rattle.text.proofs.CopyLaws.{room_fits, room_lacks, room_done, laid_at_refused}
use Rattle.allele.specs.declared.allele.Allele.{Allele}
use Rattle.spelling.specs.Spelling.{Spelled, text, bad, phasing, empty, spell}
use Rattle.spelling.specs.Permitted.{from44, Permitted}
use Rattle.spelling.specs.Write.{spelled_answer, list_answer, text_of}
use Rattle.spelling.specs.Demands.{Writer, writer, WritesShortest, Refused, beyond, unspelled, short, Refusals, Untouched, Meets, Exact}
use Rattle.spelling.proofs.WriteLaws.{list_inside, list_beyond}
use Rattle.spelling.proofs.Shortest.{one_text_lem, spelled_shortest, every_spelling}
use Rattle.spelling.proofs.RefusalLaws.{Judged, is_spelled, is_not, judged, unspelled_answer, unspelled_none}

-- ---- an answer that is done, and the text of it

record Done (late : Bool) (as' : List Allele) (out : List ℕ) (at : ℕ) : Type 0 where
  bytes : List ℕ
  spelled : spell late as' ≡ text bytes
  fits : at + length bytes ≤ length out

module _ (late : Bool) (as' : List Allele) (out : List ℕ) (at : ℕ) where
  done : number_of (list_answer as' late out at) ≡ 0 → Done late as' out at
  unfolding spelled_answer
  done e = by (dec_le at (length out))
    where
      rest : List ℕ
      rest = drop at out

      spelled_by : at ≤ length out → (s : Spelled) → spell late as' ≡ s → number_of (spelled_answer s rest) ≡ 0 → Done late as' out at
      spelled_by h (text t) q e =
          let f = room_done t rest e in
          let k = length-drop at out in
          record { bytes = t; spelled = q; fits = omega arith }
      spelled_by h (bad k) q e = absurd (omega arith)
      spelled_by h phasing q e = absurd (omega arith)
      spelled_by h empty q e = absurd (omega arith)

      by : Dec (at ≤ length out) → Done late as' out at
      by (yes h) = spelled_by h (spell late as') refl (rw (list_inside as' late out at h) at e)
      by (no h) = let z = ap number_of (list_beyond as' late out at (omega arith)) in absurd (omega arith)

  done_answer : (t : List ℕ) → spell late as' ≡ text t → at + length t ≤ length out → list_answer as' late out at ≡ says 0 (length t ∷ [])
  unfolding spelled_answer
  done_answer t e f =
      let k = length-drop at out in
      list_inside as' late out at (omega arith) ∙ rw e (room_fits t (drop at out) (omega arith))

-- ---- what is written

pub writes_shortest : WritesShortest writer
unfolding WritesShortest writer text_of
writes_shortest major minor as' out at z =
    let late : Bool = from44 major minor in
    let d = done late as' out at z in
    record {
      text = d.bytes;
      shortest = spelled_shortest late as' d.bytes d.spelled;
      count = done_answer late as' out at d.bytes d.spelled d.fits;
      fits = d.fits;
      bytes = rw (eq-eqb _ _ z, d.spelled);
    }

-- ---- what is refused

pub refusals : Refusals writer
unfolding Refusals writer spelled_answer
refusals major minor as' out at a n = (given, due)
  where
    late : Bool
    late = from44 major minor

    rest : List ℕ
    rest = drop at out

    given : list_answer as' late out at ≡ a → Refused major minor as' out at a
    given e = by (dec_le at (length out)) (judged late as')
      where
        inside : at ≤ length out → spelled_answer (spell late as') rest ≡ a
        inside h = sym (list_inside as' late out at h) ∙ e

        roomy : at ≤ length out → (t : List ℕ) → spell late as' ≡ text t → Dec (length rest < length t) → Refused major minor as' out at a
        roomy h t s (yes l) =
            let q : says 17 [] ≡ a = sym (room_lacks t rest l) ∙ (rw s at (inside h)) in
            let k = length-drop at out in
            rw (← q) (short h (spelled_shortest late as' t s) (omega arith))
        roomy h t s (no l) =
            let q : says 0 (length t ∷ []) ≡ a = sym (room_fits t rest (omega arith)) ∙ (rw s at (inside h)) in
            absurd (n (ap number_of (sym q)))

        by : Dec (at ≤ length out) → Judged late as' → Refused major minor as' out at a
        by (no h) v =
            let l : length out < at = omega arith in
            let q : says 6 [] ≡ a = sym (list_beyond as' late out at l) ∙ e in
            rw (← q) (beyond l)
        by (yes h) (is_spelled t s) = roomy h t s (dec_lt (length rest) (length t))
        by (yes h) (is_not u) = let q = sym (unspelled_answer u rest) ∙ inside h in rw (← q) (unspelled h u)

    due : {a : Answer} → Refused major minor as' out at a → list_answer as' late out at ≡ a
    due (beyond h) = list_beyond as' late out at h
    due (unspelled h u) = list_inside as' late out at h ∙ unspelled_answer u rest
    due (short {t} h s l) =
        let g = every_spelling late as' t s.has in
        let e = one_text_lem s (spelled_shortest late as' g.0 g.1) in
        list_inside as' late out at h ∙ rw (g.1, ← e) (room_lacks t rest (simp length-drop (omega arith)))

pub untouched : Untouched writer
unfolding Untouched writer
untouched major minor as' out at n = laid_at_refused (writer major minor as' out at).answer at (text_of (spell (from44 major minor) as')) out n

pub meets : Meets writer
meets = record { writes_shortest = writes_shortest; refusals = refusals; untouched = untouched }

-- ---- demand 3

-- of any writer
pub exactly : (write : Writer) → Meets write → Exact write
unfolding Exact WritesShortest Refusals
exactly write m major minor as' out at h room = (only_then, then)
  where
    only_then : (number_of (write major minor as' out at).answer ≡ 0 → ⊥) → (t : List ℕ) → Permitted (from44 major minor) as' t → ⊥
    only_then refused t p = by ((m.refusals major minor as' out at _ refused).0 refl)
      where
        by : {a : Answer} → Refused major minor as' out at a → ⊥
        by (beyond l) = omega arith
        by (unspelled l u) = unspelled_none u p
        by (short {t = u} l s o) = let r = room u s in omega arith

    then : ((t : List ℕ) → Permitted (from44 major minor) as' t → ⊥) → number_of (write major minor as' out at).answer ≡ 0 → ⊥
    then n z = let w = m.writes_shortest major minor as' out at z in n w.text w.shortest.has

pub exact : Exact writer
exact = exactly writer meets
