-- A list that any writer accepts has only fine entries, since a fault would be refused, and what is written is its text; two lists with
-- one text are cut from it alike, or one is empty and the other a single `.`. Assumes nothing.
use Prim.Native.Nat.{ℕ, ◌≤◌}
use mathlib.Core.Path.{◌≡◌, refl, sym, ap, ◌∙◌}
use mathlib.Core.Bool.{Bool, true, false}
use mathlib.Core.Logic.{◌↔◌}
use mathlib.Core.List.{List, [], ◌∷◌}
use native.Mathlib.Omega.{arith}
use lib.ListN.{length, take, drop}
use Rattle.text.specs.Answer.{says, number_of}
use Rattle.text.specs.Outcome.{HasWritten}
use Rattle.text.specs.Place.{placed}
use Rattle.text.proofs.CopyLaws.{laid_at_refused}
use Rattle.text.proofs.PlaceLaws.{placed_refuses}
use Rattle.text.proofs.OutcomeLaws.{was_written, written_is, written_taken}
use Rattle.pieces.specs.Demands.{Cut}
use Rattle.pieces.proofs.PieceLaws.{joined_one, split_only, split_whole}
use Rattle.entries.specs.Entries.{rising, entry_list}
use Rattle.lists.specs.Kind.{separator_of}
use Rattle.lists.specs.Write.{list_text, list_answer, write_answer}
use Rattle.lists.specs.Demands.{AllFine, Writer, writer, TextOf, none, some, WritesText, fault, Refusals, Meets, OneFilters, Alike, equal, none_dot, dot_none, OneAlts, Spellings, EntriesWriter, Wrote, FiltersApart, AltsApart}
use Rattle.lists.specs.declared.write.Kind.{Kind}
use Rattle.lists.specs.declared.write.Kind.TheVariants as K
use Rattle.lists.proofs.Demands.{dot_free, no_dot}
use Rattle.lists.proofs.FaultLaws.{first_some, Way, faultless, faulted, way, text_is}
use Rattle.lists.proofs.Writes.{writes_text, meets}

-- ---- two lists and their texts

-- `.` is cut to a single `.` alone
cut_dot : (kind : Kind) (es : List (List ℕ)) → Cut (separator_of kind) (46 ∷ []) es → es ≡ (46 ∷ []) ∷ []
cut_dot kind es c = split_only es c ∙ split_whole (46 ∷ []) (dot_free kind)

text_alike : {kind : Kind} {es fs : List (List ℕ)} {t : List ℕ} → TextOf kind es t → TextOf kind fs t → Alike es fs
text_alike none none = equal refl
text_alike {kind} none (some {es = fs} c) = none_dot refl (cut_dot kind fs c)
text_alike {kind} (some {es} c) none = dot_none (cut_dot kind es c) refl
text_alike (some {es} c) (some {es = fs} d) = equal (split_only es c ∙ sym (split_only fs d))

dot_text_lem : (kind : Kind) → list_text kind ((46 ∷ []) ∷ []) ≡ list_text kind []
unfolding list_text
dot_text_lem kind = joined_one (separator_of kind) (46 ∷ [])

alike_text : (kind : Kind) {es fs : List (List ℕ)} → Alike es fs → list_text kind es ≡ list_text kind fs
alike_text kind (equal e) = ap (list_text kind) e
alike_text kind (none_dot p q) = rw (p, q) (sym (dot_text_lem kind))
alike_text kind (dot_none p q) = rw (p, q) (dot_text_lem kind)

-- for either kind
one_text_lem : {kind : Kind} {es fs : List (List ℕ)} {t u : List ℕ} → TextOf kind es t → TextOf kind fs u → (t ≡ u) ↔ Alike es fs
one_text_lem {kind} x y = (λ e. text_alike x (rw e y), λ a. text_is x ∙ alike_text kind a ∙ sym (text_is y))

-- no list of fine filters is a single `.`
filters_equal : (es fs : List (List ℕ)) → AllFine K.Filters es → AllFine K.Filters fs → Alike es fs → es ≡ fs
filters_equal es fs f g (equal e) = e
filters_equal es fs f g (none_dot p q) = absurd (no_dot fs (λ i l. (g i l).0) q)
filters_equal es fs f g (dot_none p q) = absurd (no_dot es (λ i l. (f i l).0) p)

-- ---- what was written, by any writer

-- its entries are fine, and it is their text
record Spelled (kind : Kind) (es : List (List ℕ)) (t : List ℕ) : Type 0 where
  fine : AllFine kind es
  text : TextOf kind es t

spelled : (write : Writer) → Meets write → {kind : Kind} {es : List (List ℕ)} {out : List ℕ} {at : ℕ} {t : List ℕ} → HasWritten (write kind es out at) at t → Spelled kind es t
unfolding WritesText Refusals
spelled write m {kind} {es} {out} {at} h =
    let w = m.writes_text kind es out at (ap number_of h.count) in
    let l : at ≤ length out = omega (arith, w.fits) in
    record { fine = by l (way kind es); text = written_is w h }
  where
    by : at ≤ length out → Way kind es → AllFine kind es
    by l (faultless f) = f
    by l (faulted f) =
        let a = (m.refusals kind es out at _ (first_some f)).1 (fault l f) in
        absurd (first_some f (ap number_of (sym a ∙ h.count)))

pub spellings : Spellings
unfolding Spellings OneFilters OneAlts
spellings write m = (filters, alts)
  where
    filters : OneFilters write
    filters es fs out at t out₂ at₂ u w v =
        let x = spelled write m w in
        let y = spelled write m v in
        let o = one_text_lem x.text y.text in
        (λ e. filters_equal es fs x.fine y.fine (o.0 e), λ e. o.1 (equal e))

    alts : OneAlts write
    alts es fs out at t out₂ at₂ u w v = one_text_lem (spelled write m w).text (spelled write m v).text

-- ---- the writers over an entry list

sixteen : (at : ℕ) (out : List ℕ) → number_of (placed at out (says 16 [])) ≡ 0 → ⊥
sixteen at out = placed_refuses at out (says 16 []) (λ z. omega arith)

pub entries_writer : EntriesWriter
unfolding write_answer list_answer writer
entries_writer =
    record {
      rises = λ kind t ends out at r out' h w. (w.answer ∙ rw h, w.bytes ∙ rw h);
      falls = λ kind t ends out at r out' h w. (w.answer ∙ rw h, w.bytes ∙ rw h (laid_at_refused (placed at out (says 16 [])) at (list_text kind (entry_list t ends)) out (sixteen at out)));
    }

-- an answer of 0 is for ends in order, so it is the writer's
wrote_written : {kind : Kind} {t ends out : List ℕ} {at n : ℕ} {out' : List ℕ} → Wrote kind t ends out at n out'
    → HasWritten (writer kind (entry_list t ends) out at) at (take n (drop at out'))
unfolding WritesText
wrote_written {kind} {t} {ends} {out} {at} {n} {out'} w = by (rising 0 ends (length t)) refl
  where
    by : (b : Bool) → rising 0 ends (length t) ≡ b → HasWritten (writer kind (entry_list t ends) out at) at (take n (drop at out'))
    by true q =
        let p = entries_writer.rises kind t ends out at _ out' q w.writes in
        let a = sym p.0 ∙ w.done in
        written_taken (was_written (writes_text kind (entry_list t ends) out at (ap number_of a))) a p.1
    by false q = absurd (sixteen at out (ap number_of (sym (entries_writer.falls kind t ends out at _ out' q w.writes).0 ∙ w.done)))

pub filters_apart : FiltersApart
unfolding FiltersApart Spellings OneFilters
filters_apart t ends out at n out' t₂ ends₂ out₂ at₂ n₂ out₂' w v =
    (spellings writer meets).0 (entry_list t ends) (entry_list t₂ ends₂) out at _ out₂ at₂ _ (wrote_written w) (wrote_written v)

pub alts_apart : AltsApart
unfolding AltsApart Spellings OneAlts
alts_apart t ends out at n out' t₂ ends₂ out₂ at₂ n₂ out₂' w v =
    (spellings writer meets).1 (entry_list t ends) (entry_list t₂ ends₂) out at _ out₂ at₂ _ (wrote_written w) (wrote_written v)
