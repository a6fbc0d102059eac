-- From columns in order to the answer: the line's text is the part of the buffer that is checked and cut. Assumes nothing.
use Prim.Native.Nat.{ℕ, zero, suc, ◌+◌, ◌-◌, ◌≤◌, ◌<◌}
use mathlib.Core.Path.{◌≡◌, refl, sym, ap, ◌∙◌}
use mathlib.Core.Bool.{true, false}
use mathlib.Core.Logic.{◌⊎◌}
use mathlib.Core.List.{List, [], ◌∷◌, ◌++◌}
use native.Mathlib.Omega.{arith}
use Rattle.std.specs.Prelude.{Ok, Err}
use lib.ListN.{length, get_or, replicate, take, drop, length-append, length-drop}
use lib.Seq.{take_at, length-take-le}
use Rattle.text.specs.Answer.{says}
use Rattle.text.specs.Utf8.{is_utf8}
use Rattle.text.proofs.Lists.{drop_take}
use Rattle.text.specs.Verdict.{Verdict, fine, refused}
use Rattle.pieces.specs.Pieces.{split}
use Rattle.pieces.proofs.PieceLaws.{split_some}
use Rattle.record.specs.Ending.{Ending, ending_bytes, ending_number}
use Rattle.record.specs.Place.{numbers_of}
use Rattle.record.specs.Paper.{ending_of, record_places, record_numbers}
use Rattle.record.specs.Promises.{NamesEnding}
use Rattle.record.specs.declared.ending.Ending.{Ending as DeclaredEnding}
use Rattle.record.specs.declared.place.Record.{Record}
use Rattle.line.specs.declared.read.Refusal.{Refusal}
use Rattle.line.specs.declared.read.Refusal.TheVariants as R
use Rattle.line.specs.Line.{Line, line, line_of, verdict, all_utf8, judged_answer, line_answer, read_answer}
use Rattle.line.specs.Paper.{Read, read_paper}
use Rattle.line.specs.Promises.{KeepsNumbers}
use Rattle.line.specs.Demands.{ByColumns}
use Rattle.line.specs.Inner.{Judged, accepted, denied, judgement, judgement_of, judged_paper, InOrder, Unset, Marks, Told, Fields}
use Rattle.record.proofs.EndingLaws.{ending_sized, ending_numbered}
use Rattle.record.proofs.NumberLaws.{record_values_lem}
use Rattle.line.proofs.ColumnLaws.{line_whole, by_columns, fine_count}
use Rattle.line.proofs.LineLaws.{read_beyond, read_end, read_line}

-- ---- a line whose columns are in order

-- its text, which stands in the buffer from `at` to `end`
record Ordered (s : List ℕ) (at end next : ℕ) : Type 0 where
  text : List ℕ
  ending : Ending
  rest : List ℕ
  is : line_of (drop at s) ≡ line text ending rest
  ends : at + length text ≡ end
  past : end + length (ending_bytes ending) ≡ next
  order : verdict 1 at (split 9 text) ending next ≡ fine
  within : end ≤ length s
  stands : take (end - at) (drop at s) ≡ text

ordered : {s : List ℕ} {at end next : ℕ} → InOrder s at end next → Ordered s at end next
unfolding judgement_of judgement
ordered {s} {at} {end} {next} g = by (line_of (drop at s)) refl g.judged
  where
    by : (l : Line) → line_of (drop at s) ≡ l → judgement_of 1 at l ≡ accepted end next → Ordered s at end next
    by (line t e rest) q j = told (verdict 1 at (split 9 t) e (at + length t + length (ending_bytes e))) refl j
      where
        told : (v : Verdict) → verdict 1 at (split 9 t) e (at + length t + length (ending_bytes e)) ≡ v
            → judgement v (at + length t) (at + length t + length (ending_bytes e)) ≡ accepted end next → Ordered s at end next
        told fine f j =
            let a : at + length t ≡ end = cc in
            let b : at + length t + length (ending_bytes e) ≡ next = cc in
            let c = line_whole (drop at s) q in
            let l = length-append t (ending_bytes e ++ rest) in
            let m = ap length c.whole in
            let d = length-drop at s in
            let r = g.reached in
            let n : length t ≡ end - at = omega arith in
            record {
              text = t;
              ending = e;
              rest = rest;
              is = q;
              ends = a;
              past = (rw a at b);
              order = (rw b at f);
              within = omega arith;
              stands = rw (← c.whole) (take_at t (ending_bytes e ++ rest) (end - at) n);
            }
        told (refused n p) f j = absurd (let z : ◌≡◌ {A = ℕ} 0 1 = cc in omega arith)

module _ {s : List ℕ} {at end next : ℕ} (g : InOrder s at end next) where
  pub order_after : at ≤ end
  order_after = let o = ordered g in let e = o.ends in omega arith

  pub order_within : end ≤ length s
  order_within = (ordered g).within

  pub order_next : end ≤ next
  order_next = let e = (ordered g).past in omega arith

  pub order_count : end ≡ length (take end s)
  order_count = sym (length-take-le end s order_within)

  -- the text, as the fields are cut out of it
  text_cut : (o : Ordered s at end next) → drop at (take end s) ≡ o.text
  text_cut o = drop_take s at end order_after o.within ∙ o.stands

  -- it has eight columns, or at least ten
  pub order_columns : (length (split 9 (drop at (take end s))) ≡ 8) ⊎ (10 ≤ length (split 9 (drop at (take end s))))
  order_columns = by (ordered g)
    where
      by : Ordered s at end next → (length (split 9 (drop at (take end s))) ≡ 8) ⊎ (10 ≤ length (split 9 (drop at (take end s))))
      by o = rw (text_cut o) (fine_count at (split 9 o.text) o.ending next (split_some 9 o.text) o.order)

  -- the answer, by whether the columns are UTF-8
  line_judged : (o : Ordered s at end next) → line_answer at (line_of (drop at s)) ≡ judged_answer fine at end (split 9 o.text) o.ending next
  unfolding line_answer
  line_judged o = rw (o.is, o.ends, o.past, o.order)

  pub finish_line : is_utf8 (take (end - at) (drop at s)) ≡ true → (r : Record) (y : DeclaredEnding) → NamesEnding (next - end) y → Fields (take end s) at y r
      → read_paper (Ok (r, next)) ≡ line_answer at (line_of (drop at s))
  unfolding read_paper judged_answer ByColumns
  finish_line u r y b f = by (ordered g)
    where
      by : Ordered s at end next → read_paper (Ok (r, next)) ≡ line_answer at (line_of (drop at s))
      by o =
          let v : all_utf8 (split 9 o.text) ≡ true = sym (by_columns o.text) ∙ rw o.stands at u in
          let d : ending_of y ≡ o.ending = b ∙ ending_sized o.ending (let z = o.past in omega arith) in
          let n : ending_number (ending_of r.ending) ≡ ending_number o.ending = sym (ending_numbered f.ends) ∙ ap ending_number d in
          rw (record_values_lem r, line_judged o, v, n, f.places, text_cut o, length-take-le end s o.within)

  pub finish_broken : is_utf8 (take (end - at) (drop at s)) ≡ false → read_paper (Err (R.NotUtf8 next)) ≡ line_answer at (line_of (drop at s))
  unfolding read_paper judged_answer ByColumns
  finish_broken u = by (ordered g)
    where
      by : Ordered s at end next → read_paper (Err (R.NotUtf8 next)) ≡ line_answer at (line_of (drop at s))
      by o =
          let v : all_utf8 (split 9 o.text) ≡ false = sym (by_columns o.text) ∙ rw o.stands at u in
          rw (line_judged o, v)

-- one line is one record
pub ok_same : (r r' : Record) {next n : ℕ} → ◌≡◌ {A = Read} (Ok (r, next)) (Ok (r', n)) → r ≡ r'
ok_same r r' {next} {n} e = let p : ◌≡◌ {A = Record × ℕ} (r, next) (r', n) = cc in ap (λ (x : Record × ℕ). x.0) p

-- a record that has the numbers of its places keeps them in the answer
pub keeps_line : (r : Record) (next : ℕ) → record_numbers r ≡ numbers_of (record_places r) → KeepsNumbers (Ok (r, next))
keeps_line r next h r' n e = let d = ok_same r r' e in rw d at h

pub finish_numbers : {t : List ℕ} {at : ℕ} {y : DeclaredEnding} {r : Record} (next : ℕ) → Fields t at y r → KeepsNumbers (Ok (r, next))
finish_numbers {r = r} next f = keeps_line r next f.numbers

-- a refusal has none
pub keeps_refused : (e : Refusal) → KeepsNumbers (Err e)
keeps_refused e r next q = absurd (let z : ◌≡◌ {A = ℕ} 0 1 = cc in omega arith)

-- ---- the reader

refused_says : (at : ℕ) (l : Line) {k next : ℕ} → judgement_of 1 at l ≡ denied k next → says k (next ∷ []) ≡ line_answer at l
unfolding judgement_of judgement line_answer judged_answer
refused_says at (line t e rest) {k} {next} d = by (verdict 1 at (split 9 t) e (at + length t + length (ending_bytes e))) d
  where
    by : (v : Verdict) → judgement v (at + length t) (at + length t + length (ending_bytes e)) ≡ denied k next
        → says k (next ∷ []) ≡ judged_answer v at (at + length t) (split 9 t) e (at + length t + length (ending_bytes e))
    by fine d = cc
    by (refused n p) d = cc

-- no tab is kept before the judge begins
naught : (n j : ℕ) → get_or {A = ℕ} (replicate n 0) j 0 ≡ 0
naught zero j = refl
naught (suc n) zero = refl
naught (suc n) (suc j) = naught n j

pub reads_unset : Unset (0 ∷ 0 ∷ 0 ∷ 0 ∷ 0 ∷ 0 ∷ 0 ∷ 0 ∷ 0 ∷ [])
reads_unset =
    record {
      size = refl;
      naught = naught 9;
    }

module _ (s : List ℕ) (at : ℕ) where
  pub reads_beyond : length s < at → read_paper (Err (R.Beyond at)) ≡ read_answer s at
  unfolding read_paper
  reads_beyond h = sym (read_beyond s at h)

  pub reads_end : at ≡ length s → read_paper (Err (R.End at)) ≡ read_answer s at
  unfolding read_paper
  reads_end e = sym (read_end s at e)

  module _ (h : at ≤ length s) (n : at ≡ length s → ⊥) where
    inside : at < length s
    inside = omega arith

    pub reads_line : (r : Read) → read_paper r ≡ line_answer at (line_of (drop at s)) → read_paper r ≡ read_answer s at
    reads_line r e = e ∙ sym (read_line s at inside)

    module _ (x : Judged) (j : judged_paper x ≡ judgement_of 1 at (line_of (drop at s))) where
      pub reads_ordered : {end next : ℕ} → x ≡ Ok (end, next) → InOrder s at end next
      unfolding judged_paper
      reads_ordered q = record { reached = h; judged = sym (rw q at j) }

      pub reads_told : {end next : ℕ} {tabs : List ℕ} → Marks s at x tabs → x ≡ Ok (end, next) → Told (take end s) at tabs
      reads_told m q = m.told _ _ q

      -- a refusal is the line's
      pub reads_refused : {e : Refusal} → x ≡ Err e → read_paper (Err e) ≡ read_answer s at
      unfolding read_paper judged_paper
      reads_refused {e} q = by e (rw q at j)
        where
          says_so : {k next : ℕ} → denied k next ≡ judgement_of 1 at (line_of (drop at s)) → says k (next ∷ []) ≡ read_answer s at
          says_so d = refused_says at (line_of (drop at s)) (sym d) ∙ sym (read_line s at inside)

          by : (e : Refusal) → judged_paper (Err e) ≡ judgement_of 1 at (line_of (drop at s)) → read_paper (Err e) ≡ read_answer s at
          by (R.End next) d = says_so d
          by (R.Empty next) d = says_so d
          by (R.Fed next) d = says_so d
          by (R.Cut next) d = says_so d
          by (R.NotUtf8 next) d = says_so d
          by (R.Beyond next) d = says_so d

pub ruleset laws = (order_after, order_within, order_next, order_count, finish_line, finish_numbers, finish_broken, keeps_refused, reads_unset, reads_beyond, reads_end, reads_line, reads_ordered, reads_told, reads_refused)
