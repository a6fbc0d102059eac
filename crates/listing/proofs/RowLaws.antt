-- A record that was read stands for its line's columns; the row is counted by them, and goes by the reader's answer. Assumes nothing.
use Prim.Native.Nat.{ℕ, ◌+◌, ◌-◌, ◌^◌, ◌<◌, ◌≤◌}
use mathlib.Core.Path.{◌≡◌, sym, ap, ◌∙◌}
use mathlib.Core.Logic.{⊎_elim}
use mathlib.Core.List.{List}
use native.Mathlib.Omega.{arith}
use mir.Syntax.{w64}
use mir.Val.{Fits}
use lib.ListN.{length, take, drop, length-drop}
use Rattle.text.specs.Answer.{says, number_of}
use Rattle.text.specs.declared.range.Range.{Range}
use Rattle.text.proofs.Lists.{cut_is}
use Rattle.record.specs.Place.{range_of, column_of}
use Rattle.record.specs.declared.place.Record.{Record}
use Rattle.record.specs.declared.place.Name.TheVariants as N
use Rattle.line.specs.Line.{line_of, read_answer}
use Rattle.line.specs.Paper.{Read, read_paper}
use Rattle.std.specs.Prelude.{Option, Some, None, Result, Ok, Err}
use Rattle.line.specs.declared.read.Refusal.{Refusal}
use Rattle.line.specs.declared.read.Refusal.TheVariants as R
use Rattle.line.proofs.CaseLaws.{read_record, read_end, read_empty, read_fed, read_cut, read_broken, read_beyond}
use Rattle.line.proofs.RecordLaws.{Recorded, recorded, LiesIn, count, line_is, columns_split, placed, samples_back, columns_within}
use Rattle.line.proofs.MovesOn.{six_beyond}
use Rattle.fields.specs.Fields.{read_text}
use Rattle.fields.specs.Promises.{FindsField}
use Rattle.fields.specs.declared.field.Beyond.{Beyond}
use Rattle.fields.proofs.RecordLaws.{Tells, tells_at, tells_absent, field_tells}
use Rattle.info.specs.Info.{info_count}
use Rattle.samples.specs.Samples.{samples_of}
use Rattle.samples.proofs.Demands.{listed}
use Rattle.listing.specs.Listing.{columns_of, infos_of, infos_in, counts_of, row_of}
use Rattle.listing.specs.Turn.{read_move}
use Rattle.listing.specs.Paper.{refusal_number, row_paper, turn_paper}
use Rattle.listing.specs.Inner.{ReadAt}
use Rattle.listing.specs.declared.turn.Phase.TheVariants as P
use Rattle.listing.specs.declared.turn.ReadRow.{ReadRow}
use Rattle.listing.specs.declared.turn.Refusal.TheVariants as U
use Rattle.listing.specs.declared.turn.Turn.TheVariants as T

-- ---- the columns of a line that was read

columns_are : {w : List ℕ} {at : ℕ} {r : Record} (g : Recorded w at r) → columns_of (line_of (drop at w)) ≡ g.columns
unfolding columns_of
columns_are g = rw (line_is g) (columns_split g)

module _ {w : List ℕ} {at next : ℕ} {r : Record} (h : ReadAt w at next r) where
  -- ---- INFO

  module _ {x : Result (Option Range) Beyond} (e : FindsField w r N.Info x) where
    info_tells : (g : Recorded w at r) {y : Result (Option Range) Beyond} → x ≡ y → Tells w N.Info (column_of N.Info g.columns) y
    info_tells g {y} q = rw q at (field_tells g N.Info x e)

    module _ {y : Option Range} (q : x ≡ Ok y) where
      pub info_fits : {range : Range} → y ≡ Some range → range.start + range.len ≤ length w
      info_fits {range} p = by (info_tells (recorded w at h.read) (rw p at q))
        where
          by : {c : List ℕ} {range : Range} → Tells w N.Info c (Ok (Some range)) → range.start + range.len ≤ length w
          by (tells_at t l) = l.fits

      pub info_sum : {range : Range} → y ≡ Some range → length w < 2 ^ 64 → Fits w64 (range.start + range.len)
      info_sum p m = let f = info_fits p in record { fits = omega arith }

      pub infos_at : {range : Range} {n : ℕ} → y ≡ Some range → n ≡ info_count (take (range.start + range.len - range.start) (drop range.start w))
          → n ≡ infos_in (columns_of (line_of (drop at w)))
      unfolding infos_in infos_of
      infos_at {range} p c =
          let g = recorded w at h.read in
          let m : range.start + range.len - range.start ≡ range.len = omega arith in
          c ∙ rw (m, columns_are g) (by (info_tells g (rw p at q)))
        where
          by : {c : List ℕ} {range : Range} → Tells w N.Info c (Ok (Some range)) → info_count (take range.len (drop range.start w)) ≡ infos_of (read_text N.Info c)
          by {range = range} (tells_at t l) = rw (t, ← l.text, cut_is range.start range.len w)

      pub infos_absent : y ≡ None → 0 ≡ infos_in (columns_of (line_of (drop at w)))
      unfolding infos_in infos_of
      infos_absent p = let g = recorded w at h.read in rw (columns_are g) (by (info_tells g (rw p at q)))
        where
          by : {c : List ℕ} → Tells w N.Info c (Ok None) → 0 ≡ infos_of (read_text N.Info c)
          by (tells_absent t) = rw t

    pub infos_beyond : {d : Beyond} → x ≡ Err d → 0 ≡ infos_in (columns_of (line_of (drop at w)))
    infos_beyond {d} q = absurd (by (field_tells (recorded w at h.read) N.Info x e) q)
      where
        by : {c : List ℕ} {y : Result (Option Range) Beyond} {d : Beyond} → Tells w N.Info c y → y ≡ Err d → ⊥
        by (tells_at t l) q = let z : ◌≡◌ {A = ℕ} 0 1 = cc in omega arith
        by (tells_absent t) q = let z : ◌≡◌ {A = ℕ} 0 1 = cc in omega arith

  -- ---- samples

  module _ {range : Range} (e : range ≡ range_of r N.Samples) where
    samples_lie : (g : Recorded w at r) → LiesIn w range (column_of N.Samples g.columns)
    samples_lie g = rw e (placed g N.Samples).lies

    pub samples_fit : range.start + range.len ≤ length w
    samples_fit = (samples_lie (recorded w at h.read)).fits

    pub samples_counted : {n : ℕ} → n ≡ length (samples_of (take (range.start + range.len - range.start) (drop range.start w)))
        → n ≡ length (drop 9 (columns_of (line_of (drop at w))))
    samples_counted c =
        let g = recorded w at h.read in
        let m : range.start + range.len - range.start ≡ range.len = omega arith in
        let l = sym (cut_is range.start range.len w) ∙ (samples_lie g).text in
        c ∙ rw (m, l, listed.counts, samples_back g, columns_are g)

  -- ---- the row

  module _ {infos samples : ℕ} (i : infos ≡ infos_in (columns_of (line_of (drop at w)))) (s : samples ≡ length (drop 9 (columns_of (line_of (drop at w))))) where
    -- how many columns there are
    columns_bare : samples ≡ 0 → length (columns_of (line_of (drop at w))) ≡ 8
    columns_bare z =
        let g = recorded w at h.read in
        let d = length-drop 9 (columns_of (line_of (drop at w))) in
        let c = ap length (columns_are g) in
        ⊎_elim (λ k. omega arith) (λ k. omega arith) (count g)

    columns_some : (samples ≡ 0 → ⊥) → length (columns_of (line_of (drop at w))) ≡ 9 + samples
    columns_some n = let d = length-drop 9 (columns_of (line_of (drop at w))) in omega arith

    pub row_fits : (samples ≡ 0 → ⊥) → 9 + samples ≤ length w
    row_fits n =
        let g = recorded w at h.read in
        let k = columns_some n in
        let c = ap length (columns_are g) in
        let l = columns_within g in
        omega arith

    pub row_bare : samples ≡ 0 → row_paper (Ok (record { columns = 8; infos = infos; samples = samples })) ≡ says 0 (counts_of (columns_of (line_of (drop at w))))
    unfolding row_paper counts_of
    row_bare z = rw (columns_bare z, ← s, i)

    pub row_some : (samples ≡ 0 → ⊥)
        → row_paper (Ok (record { columns = 9 + samples; infos = infos; samples = samples })) ≡ says 0 (counts_of (columns_of (line_of (drop at w))))
    unfolding row_paper counts_of
    row_some n = rw (columns_some n, ← s, i)

-- ---- a line that is whole

module _ (w : List ℕ) (at : ℕ) {x : Read} (e : read_paper x ≡ read_answer w at) where
  pub whole_read : {r : Record} {next : ℕ} → x ≡ Ok (r, next) → ReadAt w at next r
  whole_read {r} {next} q = record { read = sym e ∙ read_record q }

  pub whole_line : {r : Record} {next : ℕ} (row : ReadRow) → x ≡ Ok (r, next) → row_paper (Ok row) ≡ says 0 (counts_of (columns_of (line_of (drop at w))))
      → turn_paper (T.Found (Ok row) P.Lines next) ≡ read_move (line_of (drop at w)) (read_answer w at)
  unfolding turn_paper read_move row_of
  whole_line {r} {next} row q k = rw (← e, read_record q, k)

  -- a refusal
  module _ {d : Refusal} (q : x ≡ Err d) {next : ℕ} where
    pub whole_end : d ≡ R.End next → turn_paper T.End ≡ read_move (line_of (drop at w)) (read_answer w at)
    unfolding turn_paper read_move
    whole_end p = let u : x ≡ Err (R.End next) = rw p at q in rw (← e, read_end u)

    pub whole_empty : d ≡ R.Empty next → turn_paper (T.Found (Err U.Empty) P.Lines next) ≡ read_move (line_of (drop at w)) (read_answer w at)
    unfolding turn_paper row_paper refusal_number read_move row_of
    whole_empty p = let u : x ≡ Err (R.Empty next) = rw p at q in rw (← e, read_empty u)

    pub whole_fed : d ≡ R.Fed next → turn_paper (T.Found (Err U.Fed) P.Lines next) ≡ read_move (line_of (drop at w)) (read_answer w at)
    unfolding turn_paper row_paper refusal_number read_move row_of
    whole_fed p = let u : x ≡ Err (R.Fed next) = rw p at q in rw (← e, read_fed u)

    pub whole_cut : d ≡ R.Cut next → turn_paper (T.Found (Err U.Cut) P.Lines next) ≡ read_move (line_of (drop at w)) (read_answer w at)
    unfolding turn_paper row_paper refusal_number read_move row_of
    whole_cut p = let u : x ≡ Err (R.Cut next) = rw p at q in rw (← e, read_cut u)

    pub whole_not_utf8 : d ≡ R.NotUtf8 next → turn_paper (T.Found (Err U.NotUtf8) P.Lines next) ≡ read_move (line_of (drop at w)) (read_answer w at)
    unfolding turn_paper row_paper refusal_number read_move row_of
    whole_not_utf8 p = let u : x ≡ Err (R.NotUtf8 next) = rw p at q in rw (← e, read_broken u)

    pub whole_beyond : at ≤ length w → d ≡ R.Beyond next → turn_paper T.Beyond ≡ read_move (line_of (drop at w)) (read_answer w at)
    whole_beyond h p =
        let u : x ≡ Err (R.Beyond next) = rw p at q in
        let z : number_of (read_answer w at) ≡ 6 = rw (← e, read_beyond u) in
        absurd (let l = six_beyond w at z in omega arith)

pub ruleset laws =
    (info_fits, info_sum, infos_at, infos_absent, infos_beyond, samples_fit, samples_counted, row_fits, row_bare, row_some, whole_read, whole_line, whole_end, whole_empty, whole_fed, whole_cut, whole_not_utf8, whole_beyond)
