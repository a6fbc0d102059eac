-- The statements on the two forms: the definitions meet them, and whatever meets them answers as the definitions do. Assumes nothing.
use Prim.Native.Nat.{ℕ, ◌+◌, ◌*◌}
use mathlib.Core.Path.{◌≡◌, refl, sym, ap, ◌∙◌}
use mathlib.Core.Bool.{Bool, true, false, true≢false}
use mathlib.Core.List.{List, [], ◌∷◌}
use native.Mathlib.Omega.{arith}
use lib.ListN.{get_or}
use Rattle.text.specs.Answer.{Answer, says, number_of}
use Rattle.text.specs.Pick.{pick}
use Rattle.text.specs.Range.{range_at}
use Rattle.text.specs.declared.range.Range.{Range}
use Rattle.record.specs.Ending.{ending_number}
use Rattle.record.specs.Place.{numbers_of, range_of, column_number}
use Rattle.record.specs.Paper.{ending_of, record_places, record_numbers}
use Rattle.record.specs.declared.ending.Ending.{Ending as DeclaredEnding}
use Rattle.record.specs.declared.place.Record.{Record}
use Rattle.record.specs.declared.place.Name.{Name}
use Rattle.record.specs.declared.place.Name.TheVariants as N
use Rattle.line.specs.Paper.{read_paper}
use Rattle.record.proofs.EndingLaws.{ending_numbered}
use Rattle.record.proofs.NumberLaws.{record_values_lem}
use Rattle.record.proofs.Determined.{same_ending}
use Rattle.line.proofs.AnswerLaws.{keeps_line}
use Rattle.line.proofs.CaseLaws.{read_record}
use Rattle.line.proofs.RecordLaws.{range_place}
use Rattle.std.specs.Prelude.{Ok}
use Rattle.line.specs.Demands as Line
use Rattle.line.specs.Demands.{Reader}
use Rattle.forms.specs.Form.{made, widen_answer, narrow_answer}
use Rattle.forms.specs.Paper.{wide_range, wide_places, widened_paper, narrowed_paper}
use Rattle.forms.specs.Promises.{WidensRecord, NarrowsWide}
use Rattle.forms.specs.Demands.{Makes, FormOf, Widens, OneWidener, Narrows, OneNarrower, BackAndForth, AlikeForms, Answerable, MadeRecords, ReadIsMade}
use Rattle.forms.specs.declared.wide.Wide.{Wide}
use Rattle.forms.proofs.FormLaws.{MadeForm, made_form, form_made}
use Rattle.forms.proofs.BackLaws.{numbers_back, places_back}
use Rattle.forms.proofs.Inputs.{makes_form, form_of_lem, form_makes, answered}

-- ---- from the new form to the old one

abbrev pub widen_record : Record → Answer
widen_record r = widen_answer (ending_of r.ending) (record_places r)

module _ (read : Reader) (g : Line.Meets read) where
  -- a record with the numbers of places that can be made has these places
  form_places : (r : Record) (places : List ℕ) → FormOf read r places → record_places r ≡ places
  form_places r places f = places_back (makes_form read g f.makes) r f.numbers

  -- and a record whose places can be made has their numbers
  places_form : (r : Record) → made (ending_of r.ending) (record_places r) ≡ true → FormOf read r (record_places r)
  places_form r h =
      let m = made_form (ending_of r.ending) (record_places r) h in
      record { makes = form_of_lem read g m; numbers = numbers_back r m }

  pub widens : Widens read widen_record
  unfolding widen_answer
  widens =
      record {
        made = λ r places f. rw (form_places r places f, form_made (makes_form read g f.makes));
        other = λ r h. other r h (made (ending_of r.ending) (record_places r)) refl;
      }
    where
      other : (r : Record) → ((places : List ℕ) → FormOf read r places → ⊥) → (b : Bool) → made (ending_of r.ending) (record_places r) ≡ b → widen_record r ≡ says 32 []
      other r h true e = absurd (h (record_places r) (places_form r e))
      other r h false e = rw e

  -- whatever does so answers as the definition
  widened : (widen : Record → Answer) → Widens read widen → (r : Record) → widen r ≡ widen_record r
  widened widen w r = by (made (ending_of r.ending) (record_places r)) refl
    where
      by : (b : Bool) → made (ending_of r.ending) (record_places r) ≡ b → widen r ≡ widen_record r
      by true e = w.made r (record_places r) (places_form r e) ∙ sym (widens.made r (record_places r) (places_form r e))
      by false e = w.other r none ∙ sym (widens.other r none)
        where
          none : (places : List ℕ) → FormOf read r places → ⊥
          none places f =
              true≢false (sym (form_made (makes_form read g f.makes)) ∙ ap (made (ending_of r.ending)) (sym (form_places r places f)) ∙ e)

pub one_widener : OneWidener
unfolding OneWidener
one_widener read g widen other w v r = widened read g widen w r ∙ sym (widened read g other v r)

-- ---- from the old form to the new one

abbrev pub narrow_wide : Wide → Answer
narrow_wide w = narrow_answer (ending_of w.ending) (wide_places w)

module _ (read : Reader) (g : Line.Meets read) where
  pub narrows : Narrows read narrow_wide
  unfolding narrow_answer
  narrows =
      record {
        made = λ w k. rw (form_made (makes_form read g k));
        other = λ w h. other w h (made (ending_of w.ending) (wide_places w)) refl;
      }
    where
      other : (w : Wide) → (Makes read (ending_of w.ending) (wide_places w) → ⊥) → (b : Bool) → made (ending_of w.ending) (wide_places w) ≡ b → narrow_wide w ≡ says 32 []
      other w h true e = absurd (h (form_of_lem read g (made_form (ending_of w.ending) (wide_places w) e)))
      other w h false e = rw e

  narrowed : (narrow : Wide → Answer) → Narrows read narrow → (w : Wide) → narrow w ≡ narrow_wide w
  narrowed narrow n w = by (made (ending_of w.ending) (wide_places w)) refl
    where
      by : (b : Bool) → made (ending_of w.ending) (wide_places w) ≡ b → narrow w ≡ narrow_wide w
      by true e = let k = form_of_lem read g (made_form (ending_of w.ending) (wide_places w) e) in n.made w k ∙ sym (narrows.made w k)
      by false e = n.other w none ∙ sym (narrows.other w none)
        where
          none : Makes read (ending_of w.ending) (wide_places w) → ⊥
          none k = true≢false (sym (form_made (makes_form read g k)) ∙ e)

pub one_narrower : OneNarrower
unfolding OneNarrower
one_narrower read g narrow other n m w = narrowed read g narrow n w ∙ sym (narrowed read g other m w)

-- ---- both

-- one ending, the same places, and these can be made
record Turned (r : Record) (w : Wide) : Type 0 where
  ending : w.ending ≡ r.ending
  places : wide_places w ≡ record_places r
  form : MadeForm (ending_of r.ending) (record_places r)

module _ (r : Record) (w : Wide) where
  widened_turned : WidensRecord r (Ok w) → Turned r w
  unfolding widened_paper widen_answer
  widened_turned h = by (made (ending_of r.ending) (record_places r)) refl h
    where
      by : (b : Bool) → made (ending_of r.ending) (record_places r) ≡ b
          → says 0 (ending_number (ending_of w.ending) ∷ wide_places w) ≡ pick b (says 0 (ending_number (ending_of r.ending) ∷ record_places r)) (says 32 []) → Turned r w
      by true e q = record { ending = same_ending w.ending r.ending cc; places = cc; form = made_form (ending_of r.ending) (record_places r) e }
      by false e q = absurd (let z = ap number_of q in omega arith)

  turned_widened : Turned r w → WidensRecord r (Ok w)
  unfolding widened_paper widen_answer
  turned_widened t = rw (form_made t.form, ending_numbered t.ending, t.places)

  narrowed_turned : NarrowsWide w (Ok r) → Turned r w
  unfolding narrowed_paper narrow_answer
  narrowed_turned h = by (made (ending_of w.ending) (wide_places w)) refl h
    where
      by : (b : Bool) → made (ending_of w.ending) (wide_places w) ≡ b
          → says 0 (ending_number (ending_of r.ending) ∷ record_numbers r) ≡ pick b (says 0 (ending_number (ending_of w.ending) ∷ numbers_of (wide_places w))) (says 32 []) → Turned r w
      by true e q =
          let m = made_form (ending_of w.ending) (wide_places w) e in
          let p = places_back m r cc in
          let d : r.ending ≡ w.ending = same_ending r.ending w.ending cc in
          record { ending = sym d; places = sym p; form = rw (p, d) m }
      by false e q = absurd (let z = ap number_of q in omega arith)

  turned_narrowed : Turned r w → NarrowsWide w (Ok r)
  unfolding narrowed_paper narrow_answer
  turned_narrowed t =
      let m : made (ending_of w.ending) (wide_places w) ≡ true = ap (λ (x : DeclaredEnding). made (ending_of x) (wide_places w)) t.ending ∙ ap (made (ending_of r.ending)) t.places ∙ form_made t.form in
      rw (m, ending_numbered t.ending, t.places, numbers_back r t.form)

pub back_and_forth : BackAndForth
unfolding BackAndForth
back_and_forth r w = (λ h. turned_narrowed r w (widened_turned r w h), λ h. turned_widened r w (narrowed_turned r w h))

-- the place with a number
place_at : List ℕ → ℕ → Range
place_at l i = range_at (get_or l (2 * i) 0) (get_or l (2 * i + 1) 0)

wide_at : (w : Wide) (n : Name) → wide_range w n ≡ place_at (wide_places w) (column_number n)
unfolding wide_range wide_places place_at
wide_at w N.Chrom = refl
wide_at w N.Pos = refl
wide_at w N.Id = refl
wide_at w N.Reference = refl
wide_at w N.Alt = refl
wide_at w N.Qual = refl
wide_at w N.Filter = refl
wide_at w N.Info = refl
wide_at w N.Format = refl
wide_at w N.Samples = refl

record_at : (r : Record) (n : Name) → range_of r n ≡ place_at (record_places r) (column_number n)
unfolding place_at
record_at r n = let l = range_place r n in rw (l.starts, l.sized)

pub alike_forms : AlikeForms
unfolding AlikeForms
alike_forms r w h =
    let t = widened_turned r w h in
    record { ending = t.ending; fields = λ n. wide_at w n ∙ ap (λ (l : List ℕ). place_at l (column_number n)) t.places ∙ sym (record_at r n) }

-- ---- records that were read

-- what a record says on paper, value by value
line_paper : (r : Record) (next : ℕ) → read_paper (Ok (r, next)) ≡ says 0 (next ∷ ending_number (ending_of r.ending) ∷ record_places r)
line_paper r next = read_record refl ∙ ap (λ (l : List ℕ). says 0 (next ∷ l)) (record_values_lem r)

pub made_records : MadeRecords
unfolding MadeRecords
made_records r = (λ h. made_read (made_form (ending_of r.ending) (record_places r) h), λ k. form_made (answered k.input k.at k.next (ending_of r.ending) (record_places r) k.is_input.room (sym k.reads ∙ line_paper r k.next)))
  where
    made_read : MadeForm (ending_of r.ending) (record_places r) → Answerable r
    made_read m =
        let k = form_makes m in
        record {
          input = k.input;
          at = k.at;
          next = k.next;
          is_input = k.is_input;
          reads = line_paper r k.next ∙ sym k.answers;
          keeps = keeps_line r k.next (numbers_back r m);
        }

pub read_is_made : ReadIsMade
unfolding ReadIsMade widened_paper widen_answer
read_is_made s at next r e room h q =
    let m = answered s at next (ending_of r.ending) (record_places r) room (sym h ∙ line_paper r next) in
    let y : says 32 [] ≡ says 0 (ending_number (ending_of r.ending) ∷ record_places r) = q ∙ rw (form_made m) in
    let n = ap number_of y in
    absurd (omega arith)
