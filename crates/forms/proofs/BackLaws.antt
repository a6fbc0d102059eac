-- The numbers of places that can be made are their record's, and the record's places are these: field by field, as each starts past
-- one tab after the end of the one before. Assumes nothing.
use Prim.Native.Nat.{ℕ, zero, suc, ◌+◌, ◌-◌, ◌*◌, ◌<◌, ◌≤◌}
use mathlib.Core.Path.{◌≡◌, sym, ap, ◌∙◌}
use mathlib.Core.Bool.{true}
use mathlib.Core.List.{List, [], ◌∷◌, ◌++◌}
use native.Mathlib.Omega.{arith}
use native.Mathlib.Nat.{le_refl}
use lib.ListN.{length, get_or, take, drop, take-append-drop}
use lib.Seq.{length-take-le, get_or-take}
use Rattle.text.specs.Range.{range_at, range_places}
use Rattle.text.specs.declared.range.Range.{Range}
use Rattle.record.specs.Ending.{Ending}
use Rattle.record.specs.Place.{ends_of, numbers_of, span, passed}
use Rattle.record.specs.Paper.{record_places, record_numbers}
use Rattle.record.specs.declared.place.Record.{Record}
use Rattle.record.proofs.SpanLaws.{span_real, span_some, span_within, spans, full_spans, bare_spans, format_place, samples_place, rising, rising_numbers}
use Rattle.record.proofs.NumberLaws.{ends_none, ends_odd, ends_more, numbers_are, record_ends, record_numbers_lem}
use Rattle.forms.specs.Form.{end_at, chained_from, chained}
use Rattle.forms.proofs.ChainLaws.{chain_field, chain_single, chain_some, chain_rises, end_is, end_next}
use Rattle.forms.proofs.MadeLaws.{bare_drop}
use Rattle.forms.proofs.FormLaws.{Fields, full, eight, MadeForm, tail, format_end, samples_end}

-- ---- from places to numbers

module _ {e : Ending} (r : Record) (m : MadeForm e (record_places r)) where
  -- the first eight of a form are not empty
  some : (i : ℕ) → i < 8 → 0 < get_or (record_places r) (2 * i + 1) 0
  unfolding chained
  some i l = by m.fields
    where
      by : Fields (record_places r) → 0 < get_or (record_places r) (2 * i + 1) 0
      by (full c) = chain_some _ (record_places r) c i (let n = m.ten in omega arith)
      by (eight c b) =
          let n = length-take-le 16 (record_places r) (let k = m.ten in omega arith) in
          rw (← get_or-take 16 (record_places r) (2 * i + 1) 0 (omega arith)) (chain_some _ (take 16 (record_places r)) c i (omega arith))

  -- nor does FORMAT, or do the samples, end before their start
  format_rises : passed r r.info ≤ r.format
  unfolding chained
  format_rises = by m.fields
    where
      place : Range
      place = span (passed r r.info) r.format

      starts : place.start ≡ get_or (record_places r) 16 0
      starts = cc (format_place r)

      sized : place.len ≡ get_or (record_places r) 17 0
      sized = cc (format_place r)

      by : Fields (record_places r) → passed r r.info ≤ r.format
      by (full c) = span_some _ _ (rw sized (chain_some _ (record_places r) c 8 (let n = m.ten in omega arith)))
      by (eight c b) = span_within _ _ (let s = starts in let t = (tail m b).format in let n = samples_end m b in let w = m.within in omega arith)

  samples_rise : passed r r.format ≤ r.end
  unfolding chained
  samples_rise = by m.fields
    where
      place : Range
      place = span (passed r r.format) r.end

      starts : place.start ≡ get_or (record_places r) 18 0
      starts = cc (samples_place r)

      sized : place.len ≡ get_or (record_places r) 19 0
      sized = cc (samples_place r)

      by : Fields (record_places r) → passed r r.format ≤ r.end
      by (full c) = span_some _ _ (rw sized (chain_some _ (record_places r) c 9 (let n = m.ten in omega arith)))
      by (eight c b) = span_within _ _ (let s = starts in let t = (tail m b).samples in let n = samples_end m b in let w = m.within in omega arith)

  pub numbers_back : record_numbers r ≡ numbers_of (record_places r)
  numbers_back = rising_numbers (rising r some format_rises samples_rise)

-- ---- from numbers to places

chain_spans : (from : ℕ) (places : List ℕ) → chained_from from places ≡ true → spans from (ends_of places) ≡ places
chain_spans from [] h = rw ends_none
chain_spans from (start ∷ []) h = absurd (chain_single from start h)
chain_spans from (start ∷ len ∷ places) h =
    let c = chain_field from start len places h in
    let s : span from (start + len) ≡ range_at from (start + len - from) = span_real (omega (arith, c.starts)) in
    let l : start + len - from ≡ len = omega (arith, c.starts) in
    let n : start + len + 1 ≡ from + len + 1 = omega (arith, c.starts) in
    rw (ends_more start len places, s, l, n, chain_spans (from + len + 1) places c.rest, c.starts)

ends_take : (n : ℕ) (places : List ℕ) → ends_of (take (2 * n) places) ≡ take n (ends_of places)
ends_take zero places = ends_none
ends_take (suc n) [] = let e : 2 * suc n ≡ suc (suc (2 * n)) = omega arith in rw (e, ends_none)
ends_take (suc n) (start ∷ []) = let e : 2 * suc n ≡ suc (suc (2 * n)) = omega arith in rw (e, ends_odd)
ends_take (suc n) (start ∷ len ∷ places) = let e : 2 * suc n ≡ suc (suc (2 * n)) = omega arith in rw (e, ends_more start len (take (2 * n) places), ends_more start len places, ends_take n places)

ends_get : (places : List ℕ) (i : ℕ) → 2 * i + 1 < length places → get_or (ends_of places) i 0 ≡ end_at places i
ends_get [] i l = absurd (omega arith)
ends_get (start ∷ []) i l = absurd (omega arith)
ends_get (start ∷ len ∷ places) zero l = rw (ends_more start len places) (sym (end_is (start ∷ len ∷ places) 0))
ends_get (start ∷ len ∷ places) (suc i) l = rw (ends_more start len places) (ends_get places i (omega arith) ∙ sym (end_next start len places i))

module _ {e : Ending} {places : List ℕ} (m : MadeForm e places) (r : Record) (q : record_numbers r ≡ numbers_of places) where
  by_number : r.start ∷ record_ends r ≡ get_or places 0 0 ∷ ends_of places
  by_number = sym (record_numbers_lem r) ∙ q ∙ numbers_are places

  start_is : r.start ≡ get_or places 0 0
  start_is = ap (λ (l : List ℕ). get_or l 0 0) by_number

  ends_are : record_ends r ≡ ends_of places
  ends_are = ap (drop 1) by_number

  end_of : (i : ℕ) → i < 10 → get_or (record_ends r) i 0 ≡ end_at places i
  end_of i l = ap (λ (l : List ℕ). get_or l i 0) ends_are ∙ ends_get places i (let n = m.ten in omega arith)

  pub places_back : record_places r ≡ places
  unfolding chained
  places_back = by m.fields
    where
      info_is : r.info ≡ end_at places 7
      info_is = end_of 7 (omega arith)

      format_is : r.format ≡ end_at places 8
      format_is = end_of 8 (omega arith)

      end_is_last : r.end ≡ end_at places 9
      end_is_last = end_of 9 (omega arith)

      by : Fields places → record_places r ≡ places
      by (full c) =
          let k = chain_rises _ places c 7 8 (omega arith) (let n = m.ten in omega arith) in
          full_spans r (λ z. omega (arith, info_is, format_is)) ∙ ap (λ (a : ℕ). spans a (record_ends r)) start_is ∙ ap (spans (get_or places 0 0)) ends_are ∙ chain_spans (get_or places 0 0) places c
      by (eight c b) =
          let h : take 8 (record_ends r) ≡ ends_of (take 16 places) = ap (take 8) ends_are ∙ sym (ends_take 8 places) in
          let f : r.format ≡ r.info = format_is ∙ format_end m b ∙ sym info_is in
          let z : r.end ≡ r.info = end_is_last ∙ samples_end m b ∙ sym info_is in
          let s : span r.info r.info ≡ range_at r.info (r.info - r.info) = span_real (le_refl _) in
          let n : r.info - r.info ≡ 0 = omega arith in
          let g : get_or places 0 0 ≡ get_or (take 16 places) 0 0 = sym (get_or-take 16 places 0 0 (omega arith)) in
          let k : spans r.start (take 8 (record_ends r)) ≡ take 16 places = ap (λ (a : ℕ). spans a (take 8 (record_ends r))) (start_is ∙ g) ∙ ap (spans (get_or (take 16 places) 0 0)) h ∙ chain_spans (get_or (take 16 places) 0 0) (take 16 places) c in
          let t : range_places (span r.info r.format) ++ range_places (span r.format r.end) ≡ drop 16 places = rw (f, z, s, n, info_is) (sym (bare_drop places b)) in
          bare_spans r f
          ∙ ap (λ (l : List ℕ). l ++ (range_places (span r.info r.format) ++ range_places (span r.format r.end))) k
          ∙ ap (λ (l : List ℕ). take 16 places ++ l) t
          ∙ take-append-drop 16 places
