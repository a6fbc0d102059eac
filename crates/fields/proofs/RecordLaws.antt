-- A field of a record that was read: its column lies in the buffer, and is a `.`, which reads as the table says, or stands as it is. Assumes nothing.
use Prim.Native.Nat.{ℕ, ◌+◌}
use mathlib.Core.Path.{◌≡◌, refl, sym, ap, ◌∙◌}
use mathlib.Core.Bool.{Bool, true, false}
use mathlib.Core.List.{List, [], ◌∷◌}
use mathlib.Core.Option.{some, none}
use native.Mathlib.Omega.{arith}
use lib.ListN.{length}
use Rattle.std.specs.Prelude.{Option, Some, None, Result, Ok}
use Rattle.text.specs.Answer.{Answer, says}
use Rattle.text.specs.Range.{range_at}
use Rattle.text.specs.Same.{same}
use Rattle.text.specs.declared.range.Range.{Range}
use Rattle.text.proofs.Lists.{cut_is}
use Rattle.text.proofs.SameLaws.{same_self, same_is, same_not, same_other}
use Rattle.record.specs.Place.{range_of, column_of, column_start}
use Rattle.record.specs.declared.place.Record.{Record}
use Rattle.record.specs.declared.place.Name.{Name}
use Rattle.line.proofs.RecordLaws.{Recorded, LiesIn, Placed, placed}
use Rattle.fields.specs.Fields.{Dot, empty, absent, itself, dot_of, dot_places, fits_in, read_text, field_answer}
use Rattle.fields.specs.Paper.{field_paper}
use Rattle.fields.specs.Promises.{FindsField}
use Rattle.fields.specs.Demands.{ReadsAs, other, dot_itself, dot_empty, dot_absent}
use Rattle.fields.specs.declared.field.Beyond.{Beyond}
use Rattle.fields.proofs.FieldLaws.{fits_within, field_dot, field_stands}
use Rattle.fields.proofs.Determined.{field_paper_injective}

-- ---- a field reads as its column

module _ {s : List ℕ} {at : ℕ} {r : Record} (g : Recorded s at r) (n : Name) where
  fits : fits_in (range_of r n) s ≡ true
  fits = fits_within s (range_of r n) (placed g n).lies.fits

  pub field_reads : ReadsAs n (at + column_start n g.columns) (column_of n g.columns) (field_answer s r n)
  field_reads = by (same c (46 ∷ [])) refl
    where
      c : List ℕ
      c = column_of n g.columns

      p : Placed g n
      p = placed g n

      dotted : c ≡ 46 ∷ [] → (d : Dot) → dot_of n ≡ d → ReadsAs n (at + column_start n g.columns) c (says 0 (dot_places d (range_of r n)))
      dotted e empty q = rw (p.starts, p.sized, ap length e) (dot_empty e q)
      dotted e absent q = dot_absent e q
      dotted e itself q = rw (p.starts, p.sized, ap length e) (dot_itself e q)

      by : (t : Bool) → same c (46 ∷ []) ≡ t → ReadsAs n (at + column_start n g.columns) c (field_answer s r n)
      by true t =
          let e = same_is c (46 ∷ []) t in
          rw (field_dot s r n fits (p.lies.text ∙ e)) (dotted e (dot_of n) refl)
      by false t =
          let h = same_other c (46 ∷ []) t in
          rw (field_stands s r n fits (λ d. h (sym p.lies.text ∙ d)), p.starts, p.sized) (other h)

-- ---- what is then told of a text

-- what the answer for a field with a column c tells
pub data Tells (s : List ℕ) (n : Name) (c : List ℕ) : Result (Option Range) Beyond → Type 0 where
  tells_at : {x : Range} {t : List ℕ} → read_text n c ≡ some t → LiesIn s x t → Tells s n c (Ok (Some x))
  tells_absent : read_text n c ≡ none → Tells s n c (Ok None)

module _ {s : List ℕ} {n : Name} {start : ℕ} {c : List ℕ} (l : LiesIn s (range_at start (length c)) c) (x : Result (Option Range) Beyond) where
  is_at : {a b : ℕ} {t : List ℕ} → field_paper x ≡ says 0 (a ∷ b ∷ []) → read_text n c ≡ some t → LiesIn s (range_at a b) t → Tells s n c x
  unfolding field_paper
  is_at {a} {b} e q k = rw (field_paper_injective x (Ok (Some (range_at a b))) e) (tells_at q k)

  reads_tells : {a : Answer} → field_paper x ≡ a → ReadsAs n start c a → Tells s n c x
  unfolding field_paper
  reads_tells e (other h) = is_at e (rw (same_not c (46 ∷ []) h)) l
  reads_tells e (dot_itself d q) = is_at e (rw (d, same_self (46 ∷ []), q)) (rw d at l)
  reads_tells e (dot_empty d q) =
      let k = ap length d in
      let f = l.fits in
      is_at e (rw (d, same_self (46 ∷ []), q)) (record { fits = omega arith; text = cut_is (start + 1) 0 s })
  reads_tells e (dot_absent d q) = rw (field_paper_injective x (Ok None) e) (tells_absent (rw (d, same_self (46 ∷ []), q)))

pub field_tells : {s : List ℕ} {at : ℕ} {r : Record} (g : Recorded s at r) (n : Name) (x : Result (Option Range) Beyond) → FindsField s r n x
    → Tells s n (column_of n g.columns) x
field_tells {s} {at} {r} g n x e =
    let p = placed g n in
    reads_tells (rw (p.starts, p.sized) at p.lies) x e (field_reads g n)
