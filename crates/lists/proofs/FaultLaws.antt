-- An entry is fine or has a fault, by whether it has characters and then by our judge; so all entries of a list are fine, or one has the
-- first fault; and so the list is judged. Its text is that of the definitions. Assumes nothing.
use Prim.Native.Nat.{ℕ, zero, suc, ◌+◌, suc-le-suc}
use mathlib.Core.Path.{◌≡◌, refl, sym, ap, ◌∙◌}
use mathlib.Core.Bool.{Bool, true, false, not, ◌&&◌}
use mathlib.Core.List.{List, [], ◌∷◌}
use mathlib.Core.Option.{Option, some, none}
use native.Mathlib.Omega.{arith}
use borrow.Author.Tests.{ne_eqb}
use Rattle.text.specs.Pick.{pick}
use Rattle.text.specs.Answer.{says, number_of}
use Rattle.text.specs.Over.{room_answer}
use Rattle.text.specs.Utf8.{chars_of}
use Rattle.text.specs.Space.{any_space}
use Rattle.text.specs.Verdict.{fine as clear, refused}
use Rattle.text.proofs.Demands.{cuts}
use Rattle.pieces.specs.Demands.{Free}
use Rattle.lists.specs.Kind.{separator_of, invalid_of}
use Rattle.lists.specs.Judge.{fine, chars_answer, entry_answer}
use Rattle.lists.specs.Write.{list_text, entries_judged, entries_answer}
use Rattle.lists.specs.Demands as D
use Rattle.lists.specs.Demands.{Fine, Judges, TextOf, Fault, broken, invalid, FirstFault, here, later, AllFine}
use Rattle.lists.specs.declared.write.Kind.{Kind}
use Rattle.lists.specs.declared.write.Kind.TheVariants as K
use Rattle.lists.proofs.Demands.{invalid_high, judges}

-- ---- one entry

-- it is fine, or some number refuses it
data Entry (kind : Kind) (e : List ℕ) : Type 0 where
  is_fine : Fine kind e → Entry kind e
  is_faulty : {n : ℕ} → Fault kind e n → Entry kind e

entry : (kind : Kind) (e : List ℕ) → Entry kind e
unfolding Judges entry_answer chars_answer
entry kind e = by (chars_of e) refl
  where
    tested : {cs : List (List ℕ)} → chars_of e ≡ some cs → (b : Bool) → entry_answer kind e ≡ pick b (says 0 []) (says (invalid_of kind) []) → Entry kind e
    tested q true a = is_fine ((judges kind e).fine.0 a)
    tested {cs} q false a =
        is_faulty (invalid (cuts.is e cs q)
        (λ v. let z = ap number_of (sym a ∙ (judges kind e).fine.1 v) in omega (arith, invalid_high kind)))

    by : (o : Option (List (List ℕ))) → chars_of e ≡ o → Entry kind e
    by none q = is_faulty (broken ((judges kind e).broken.0 (rw q)))
    by (some cs) q = tested q (not (any_space cs) && fine kind e) (rw q)

-- what the judge says of either
fine_number : (kind : Kind) (e : List ℕ) → Fine kind e → number_of (entry_answer kind e) ≡ 0
unfolding Judges
fine_number kind e v = ap number_of ((judges kind e).fine.1 v)

fault_number : {kind : Kind} {e : List ℕ} {n : ℕ} → Fault kind e n → number_of (entry_answer kind e) ≡ n
unfolding Judges
fault_number {kind} {e} (broken n) = ap number_of ((judges kind e).broken.1 n)
fault_number {kind} {e} (invalid {cs} c n) = ap number_of ((judges kind e).other (λ z. (judges kind e).broken.0 z cs c) (λ z. n ((judges kind e).fine.0 z)))

-- no fault has the number 0
fault_some : {kind : Kind} {e : List ℕ} {n : ℕ} → Fault kind e n → n ≡ 0 → ⊥
fault_some (broken n) z = omega arith
fault_some {kind} (invalid c n) z = omega (arith, invalid_high kind)

pub first_some : {kind : Kind} {es : List (List ℕ)} {k n : ℕ} → FirstFault kind es k n → n ≡ 0 → ⊥
first_some (here f) = fault_some f
first_some (later v f) = first_some f

-- ---- the entries of a list

-- each is fine, or one has the first fault
pub data Way (kind : Kind) (es : List (List ℕ)) : Type 0 where
  faultless : AllFine kind es → Way kind es
  faulted : {k n : ℕ} → FirstFault kind es k n → Way kind es

pub way : (kind : Kind) (es : List (List ℕ)) → Way kind es
way kind [] = faultless (λ i l. absurd (omega arith))
way kind (e ∷ es) = by (entry kind e) (way kind es)
  where
    all : Fine kind e → AllFine kind es → AllFine kind (e ∷ es)
    all v f zero l = v
    all v f (suc i) l = f i (omega arith)

    by : Entry kind e → Way kind es → Way kind (e ∷ es)
    by (is_faulty f) w = faulted (here f)
    by (is_fine v) (faultless f) = faultless (all v f)
    by (is_fine v) (faulted f) = faulted (later v f)

-- not both
pub fine_unfaulted : {kind : Kind} {es : List (List ℕ)} {k n : ℕ} → FirstFault kind es k n → AllFine kind es → ⊥
fine_unfaulted {kind} (here {e} f) a = fault_some f (sym (fault_number f) ∙ fine_number kind e (a 0 (omega arith)))
fine_unfaulted (later v f) a = fine_unfaulted f (λ i l. a (suc i) (suc-le-suc l))

-- ---- how they are judged

fine_judged : (kind : Kind) (i : ℕ) (es : List (List ℕ)) → AllFine kind es → entries_judged kind i es ≡ clear
unfolding entries_judged
fine_judged kind i [] f = refl
fine_judged kind i (e ∷ es) f = rw (fine_number kind e (f 0 (omega arith))) (fine_judged kind (i + 1) es (λ k l. f (suc k) (suc-le-suc l)))

fault_judged : {kind : Kind} (i : ℕ) {es : List (List ℕ)} {k n : ℕ} → FirstFault kind es k n → entries_judged kind i es ≡ refused n (i + k)
unfolding entries_judged
fault_judged i {n = n} (here f) = let z : i + 0 ≡ i = omega arith in rw (fault_number f, ne_eqb n 0 (fault_some f), z)
fault_judged {kind} i (later {e} {k = k} v f) =
    let z : i + (k + 1) ≡ i + 1 + k = omega arith in
    rw (fine_number kind e v, z) (fault_judged (i + 1) f)

pub fine_answer : (kind : Kind) (es : List (List ℕ)) (l : List ℕ) → AllFine kind es → entries_answer kind es l ≡ room_answer (list_text kind es) l
unfolding entries_answer
fine_answer kind es l f = rw (fine_judged kind 0 es f)

pub fault_answer : {kind : Kind} {es : List (List ℕ)} {k n : ℕ} (l : List ℕ) → FirstFault kind es k n → entries_answer kind es l ≡ says n (k ∷ [])
unfolding entries_answer
fault_answer {k = k} l f = let z : 0 + k ≡ k = omega arith in rw (fault_judged 0 f, z)

-- ---- the text

fine_free : (kind : Kind) {e : List ℕ} → Fine kind e → Free (separator_of kind) e
fine_free K.Filters v = v.0.no_semicolon
fine_free K.Alts v = v.0.no_comma

-- the definitions' text is one of fine entries, and entries have no other
pub text_of : (kind : Kind) (es : List (List ℕ)) → AllFine kind es → TextOf kind es (list_text kind es)
unfolding list_text
text_of kind [] f = D.none
text_of kind (e ∷ es) f = D.some {es = e ∷ es} (record { some = omega arith; each = λ i l. fine_free kind (f i l); whole = refl })

pub text_is : {kind : Kind} {es : List (List ℕ)} {t : List ℕ} → TextOf kind es t → t ≡ list_text kind es
unfolding list_text
text_is D.none = refl
text_is (D.some {es = []} c) = absurd (omega (arith, c.some))
text_is (D.some {es = e ∷ es} c) = sym c.whole
